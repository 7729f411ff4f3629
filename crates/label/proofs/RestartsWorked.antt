-- Why a second of silence: without it runs that each keep their figures break them together. Each side computes to the other.
use Prim.Native.Nat.{ℕ, zero, suc, ◌+◌, ◌*◌, ◌≤◌}
use mathlib.Core.Path.{◌≡◌, refl}
use mathlib.Core.Bool.{true}
use mathlib.Core.List.{List, [], ◌∷◌, ◌++◌}
use native.Mathlib.Omega.{arith}
use Rattle.machine.specs.Levels.{no_levels}
use Rattle.control.specs.Owed.{claims_ceiling}
use Rattle.model.specs.Calls.{Call, offer, poll, making_of}
use Rattle.model.specs.Journal.{air_time, air_in}
use Rattle.model.specs.Claims.{All}
use Rattle.model.proofs.Computing.{of_runs}
use Rattle.label.specs.Trailer.{Run, by_model}
use Rattle.label.specs.Restarts.{Started, sent_in, sent_in_all, Restarts, WaitsFirst}
use Rattle.label.specs.OnAir.{on_air}
use Rattle.label.specs.Most.{most, Alike}
use Rattle.label.proofs.Restarts.{restarts_keep}
use Rattle.label.proofs.OnAir.{receiver_hears}
use Rattle.label.proofs.Most.{most_holds}

-- a packet offered, and a poll at the same time
sends : (at ontime : ℕ) → List Call
sends at ontime = offer at (record { id = 1; priority = 0; ontime = ontime; lifetime = 1 }) ∷ poll at ∷ []

-- a run of profile 4 that sends a packet of 4,000 µs at once
at_once : Run
unfolding of_runs sends
at_once = record { making = making_of 4 0 no_levels 0; calls = sends 0 4000; ready = refl }

-- so many of them, a make every 4 ms
makes : ℕ → List Started
makes zero = []
makes (suc n) = record { run = at_once; made = 4000 * n } ∷ makes n

-- each keeps its second, and a second of them is on air without a pause
on_without_pause : air_in 0 1000000 (sent_in_all by_model (makes 250)) ≡ 1000000
unfolding of_runs sends at_once makes sent_in_all
on_without_pause = refl

-- two of them a µs short of what the ceiling needs are above it: 100 x 8,000 is more than 3 x 133,333 + 400,000
abbrev pair : List Started
pair = record { run = at_once; made = 133333 } ∷ record { run = at_once; made = 0 } ∷ []

above_the_ceiling : 100 * air_time 0 133333 (sent_in_all by_model pair) ≡ 3 * 133333 + 400000 + 1
unfolding of_runs sends at_once sent_in_all
above_the_ceiling = refl

-- seven packets of 26,001 µs in profile 4, as fast as they go, the last at 172,001, and then a make: 827,998 µs of silence are
-- not enough
seven : Run
unfolding of_runs sends
seven =
    record {
      making = making_of 4 0 no_levels 0;
      calls =
          sends 0 3667
          ++ sends 28667 3667
          ++ sends 57334 3667
          ++ sends 86001 3667
          ++ sends 114668 3667
          ++ sends 143335 3666
          ++ sends 172001 4000;
      ready = refl;
    }

too_soon : (air_in 0 1000000 (sent_in by_model (record { run = seven; made = 0 })) ≡ 26001)
    × (air_in 0 1000000 (sent_in_all by_model (record { run = at_once; made = 999999 } ∷ record { run = seven; made = 0 } ∷ []))
    ≡ 30001)
unfolding of_runs sends at_once seven sent_in_all
too_soon = (refl, refl)

-- and by what each list keeps alone, not even 999,999 are
by_themselves : air_in 0 1000000 (record { at = 999999; ontime = 30000 } ∷ record { at = 0; ontime = 30000 } ∷ []) ≡ 60000
unfolding air_in
by_themselves = refl

-- with a second of silence they may follow one another, and a host that first polls after a second has it
abbrev in_order_lem : List Started
in_order_lem = record { run = at_once; made = 1000000 } ∷ record { run = at_once; made = 0 } ∷ []

follows : Restarts by_model in_order_lem
unfolding of_runs sends at_once sent_in_all
follows = (((omega arith, tt), tt), ((tt, tt), tt))

patient : Run
unfolding of_runs sends
patient = record { making = making_of 4 0 no_levels 0; calls = sends 1000000 4000; ready = refl }

waits_first : WaitsFirst by_model (record { run = patient; made = 1000001 } ∷ record { run = patient; made = 1 } ∷ [])
unfolding of_runs sends patient sent_in_all
waits_first = ((omega arith, tt), (omega arith, tt), (tt, (omega arith, tt), tt))

-- so keep their figures, and those that claim the ceiling keep that: two runs of profile 1
gentle : Run
unfolding of_runs sends
gentle = record { making = making_of 1 0 no_levels 0; calls = sends 0 1000; ready = refl }

abbrev gentle_twice : List Started
gentle_twice = record { run = gentle; made = 1000000 } ∷ record { run = gentle; made = 0 } ∷ []

alike : Alike by_model 1
unfolding of_runs sends gentle sent_in_all
alike = record { runs = gentle_twice; restarts = (((omega arith, tt), tt), ((tt, tt), tt)); same = (refl, (refl, tt)) }

both_claim : All (λ (s : Started). claims_ceiling s.run.making.profile ≡ true) gentle_twice
unfolding of_runs gentle claims_ceiling
both_claim = (refl, (refl, tt))

ceiling_kept : (from w : ℕ)
    → (100 * air_time from w (sent_in_all by_model gentle_twice) ≤ 3 * w + 400000)
    × (100 * on_air from (from + w) (sent_in_all by_model gentle_twice) ≤ 3 * w + 400000)
unfolding alike
ceiling_kept from w = (
  (restarts_keep gentle_twice alike.restarts).ceiling both_claim from w,
  (receiver_hears gentle_twice alike.restarts).ceiling both_claim from w,
)

-- and in a second a profile's most
most_kept : (from : ℕ)
    → (air_in from (from + 1000000) (sent_in_all by_model gentle_twice) ≤ most 1 1000000)
    × (on_air from (from + 1000000) (sent_in_all by_model gentle_twice) ≤ most 1 1000000)
unfolding alike
most_kept from = (
  (most_holds 1 1000000).admitted_in_all alike from,
  (most_holds 1 1000000).on_air_in_all (omega arith) alike from,
)
