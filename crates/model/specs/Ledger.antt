-- The ledger, "the admissions of the last second in the state", the oldest first (document 02, W-207).
use Rattle.std.specs.Prelude.{ℕ, ◌+◌, Bool, true, false, cond, ◌&&◌, List, [], ◌∷◌, leb, ltb, eqb, length}
use Rattle.rules.specs.Tests.{all_of}
use Rattle.rules.specs.Profiles.{ontime_allowed}
use Rattle.model.specs.declared.Admission.{Admission}
use Rattle.model.specs.declared.Last.{Last}

-- "that have reached 1,000,000 µs of age"
abbrev pub full_age : ℕ
full_age = 1000000

-- "is at most 30,000"
abbrev pub most_air : ℕ
most_air = 30000

-- "gaps at least 25,000 µs"
abbrev pub spacing : ℕ
spacing = 25000

-- "40 are enough"
abbrev pub places : ℕ
places = 40

-- "an admission exactly 1,000,000 µs old left out": what came at a time is younger
abbrev pub young_at : (now at : ℕ) → Bool
young_at now at = ltb now (at + full_age)

-- "younger than 1,000,000 µs"
abbrev pub is_young : (now : ℕ) → Admission → Bool
is_young now a = young_at now a.at

-- "drops admissions that have reached 1,000,000 µs of age"
unfoldable pub young : (now : ℕ) → List Admission → List Admission
young now [] = []
young now (a ∷ l) = cond (is_young now a) (a ∷ young now l) (young now l)

-- "all on-times admitted", summed
unfoldable pub air_of : List Admission → ℕ
air_of [] = 0
air_of (a ∷ l) = a.ontime + air_of l

-- "its on-time plus all on-times admitted .. is at most 30,000"
abbrev pub air_allows : (ontime : ℕ) → List Admission → Bool
air_allows ontime l = leb (ontime + air_of l) most_air

-- the time from which the air allows a packet, if nothing else is admitted: the oldest leave first, each at
-- its full age. Those that left before have done so by `from`
unfoldable pub allowed_from : (ontime from : ℕ) → List Admission → ℕ
allowed_from ontime from [] = from
allowed_from ontime from (a ∷ l) =
    cond (air_allows ontime (a ∷ l)) from (allowed_from ontime (a.at + full_age) l)

-- "gaps at least 25,000 µs, on-times allowed, all younger than 1,000,000 µs": earliest is when the gap behind
-- the one before is over
abbrev pub admission_rules : (profile now earliest : ℕ) → Admission → List Bool
admission_rules profile now earliest a =
    leb earliest a.at ∷ leb a.at now ∷ is_young now a ∷ ontime_allowed profile a.ontime ∷ []

-- "in order of time"
unfoldable pub spaced_out : (profile now earliest : ℕ) → List Admission → Bool
spaced_out profile now earliest [] = true
spaced_out profile now earliest (a ∷ l) =
    all_of (admission_rules profile now earliest a) && spaced_out profile now (a.at + spacing) l

-- "the last admission whenever that is young enough"
abbrev pub is_recent : (now : ℕ) → Last → Bool
is_recent now last = eqb last.admitted 1 && young_at now last.at

-- "its newest being the last admission"
unfoldable pub newest_is : Last → List Admission → Bool
newest_is last [] = false
newest_is last (a ∷ []) = eqb a.at last.at && eqb a.ontime last.ontime
newest_is last (a ∷ b ∷ l) = newest_is last (b ∷ l)

-- "Sound states hold a ledger in order of time, .. sum at most 30,000, its newest being the last admission
-- whenever that is young enough, empty otherwise"
abbrev pub ledger_rules : (profile now : ℕ) → Last → List Admission → List Bool
ledger_rules profile now last l =
    spaced_out profile now 0 l
    ∷ leb (air_of l) most_air
    ∷ cond (is_recent now last) (newest_is last l) (eqb (length l) 0)
    ∷ []
