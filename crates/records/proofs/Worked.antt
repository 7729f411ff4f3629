-- Worked examples of document 01's records, each computed from the definitions.
use Prim.Native.Nat.{ℕ}
use mathlib.Core.Path.{◌≡◌, refl}
use mathlib.Core.List.{List, [], ◌∷◌, map}
use Rattle.machine.specs.Levels.{no_levels}
use Rattle.model.specs.Calls.{count, offer, poll, making_of}
use Rattle.records.specs.declared.Record.{Record}
use Rattle.records.specs.Records.{two_at, four_at, record_at, makes, calls, unknown, probes_in, profile_in, asked_by}

-- "kind (1), priority (1), on-time (2), lifetime (4), identifier (4), stamp (4)", low byte first, from any place
sixteen : List ℕ
sixteen = 1 ∷ 2 ∷ 3 ∷ 4 ∷ 5 ∷ 6 ∷ 7 ∷ 8 ∷ 9 ∷ 10 ∷ 11 ∷ 12 ∷ 13 ∷ 14 ∷ 15 ∷ 16 ∷ []

counted : Record
counted =
    record { kind = 1; priority = 2; ontime = 1027; lifetime = 134678021; id = 202050057; stamp = 269422093 }

fields : (record_at sixteen 0 ≡ counted) × (record_at (90 ∷ 91 ∷ sixteen) 2 ≡ counted)
unfolding sixteen counted record_at four_at two_at
fields = (refl, refl)

-- each kind; the busy count is the whole identifier field, over 16 bits too
unfoldable pub of_kind : ℕ → Record
of_kind kind = record { kind = kind; priority = 2; ontime = 400; lifetime = 1; id = 65541; stamp = 9 }

kinds :
    map (λ (kind : ℕ). asked_by (of_kind kind)) (0 ∷ 1 ∷ 2 ∷ 3 ∷ 4 ∷ 255 ∷ [])
    ≡ makes (making_of 2 1 no_levels 9)
    ∷ calls (count 9 65541 1)
    ∷ calls (offer 9 (record { id = 65541; priority = 2; ontime = 400; lifetime = 1 }))
    ∷ calls (poll 9)
    ∷ unknown
    ∷ unknown
    ∷ []
unfolding probes_in profile_in asked_by of_kind
kinds = refl

-- 5 is asked for as 0, every other profile as it is
logged_profiles : map profile_in (0 ∷ 1 ∷ 4 ∷ 5 ∷ 6 ∷ 255 ∷ []) ≡ 0 ∷ 1 ∷ 4 ∷ 0 ∷ 6 ∷ 255 ∷ []
unfolding profile_in
logged_profiles = refl

-- "a sample's lifetime field is the probe count, where 0 still means 1,000" (W-208), whatever it is worth
probe_counts : map probes_in (0 ∷ 1 ∷ 1000 ∷ 12500 ∷ 20000 ∷ 4294967295 ∷ []) ≡ 1000 ∷ 1 ∷ 1000 ∷ 12500 ∷ 20000 ∷ 4294967295 ∷ []
unfolding probes_in
probe_counts = refl
