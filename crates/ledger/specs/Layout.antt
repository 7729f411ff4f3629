-- A ledger of forty words means the list of its admissions (document 02, W-207); all that concerns words and
-- places stands here. A word holds how long before the last admission its own came, and its on-time.
use Rattle.std.specs.Prelude.{ℕ, ◌+◌, ◌-◌, ◌*◌, ◌/◌, ◌%◌, ◌≤◌, ◌<◌, ◌≡◌, Bool, true, cond, ◌&&◌, List, []}
use Rattle.std.specs.Prelude.{◌∷◌, ◌++◌, map, leb, eqb, length, take, drop, set}
use Rattle.rules.specs.Tests.{all_of}
use Rattle.rules.specs.Clock.{end_of_time}
use Rattle.rules.specs.Profiles.{within}
use Rattle.packing.specs.Packing.{filled, all_are, padded, is_unused}
use Rattle.model.specs.declared.Admission.{Admission}
use Rattle.model.specs.declared.Last.{Last}
use Rattle.model.specs.Ledger.{full_age, most_air, spacing, places, young_at, ledger_rules}
use Rattle.model.specs.Claims.{All}
use Rattle.ledger.specs.declared.Ledger.{Ledger}

-- a time and an on-time
abbrev pub admission : (at ontime : ℕ) → Admission
admission at ontime = record { at = at; ontime = ontime }

-- what a µs of age adds to a word: more than any on-time
abbrev pub unit : ℕ
unit = 4096

-- how long before the base a word's admission came, and its on-time
abbrev pub age_in : (w : ℕ) → ℕ
age_in w = w / unit

abbrev pub ontime_in : (w : ℕ) → ℕ
ontime_in w = w % unit

-- the admission of a word; base is the time of the last admission
abbrev pub admission_in : (base w : ℕ) → Admission
admission_in base w = admission (base - age_in w) (ontime_in w)

-- the word of an admission
abbrev pub word_of : (base : ℕ) → Admission → ℕ
word_of base a = (base - a.at) * unit + a.ontime

-- an admission that a word can hold
abbrev pub Fitting : (base : ℕ) → Admission → Type 0
Fitting base a = (a.at ≤ base) × (a.ontime < unit)

-- the admissions of a row of words
abbrev pub read_from : (base : ℕ) → List ℕ → List Admission
read_from base ws = map (λ (w : ℕ). admission_in base w) ws

-- the meaning: the admissions, the oldest first
abbrev pub items : (base : ℕ) → Ledger → List Admission
items base l = read_from base (take l.len l.slots)

-- a ledger of its parts
abbrev pub ledger_of : (n : ℕ) → (slots : List ℕ) → Ledger
ledger_of n slots = record { len = n; slots = slots }

-- words in forty places, "unused room zero"
abbrev pub in_places : List ℕ → List ℕ
in_places ws = filled places 0 ws

-- the ledger with these admissions
unfoldable pub packed : (base : ℕ) → List Admission → Ledger
packed base es = ledger_of (length es) (in_places (map (λ (a : Admission). word_of base a) es))

-- a ledger is what its admissions say
abbrev pub Packed : (base : ℕ) → Ledger → Type 0
Packed base l = l ≡ packed base (items base l)

-- a word no older than the base has time
abbrev pub in_time : (base w : ℕ) → Bool
in_time base w = leb (age_in w) base

-- a length within the forty places, zeros in the places past it, and no word older than the base has time
unfoldable pub tidy : (base : ℕ) → Ledger → Bool
tidy base l =
    padded is_unused places l.len l.slots
    && all_are (λ (w : ℕ). in_time base w) (take l.len l.slots)

-- a sound ledger: tidy, and its admissions as the model's rules ask
unfoldable pub sound_ledger : (profile now : ℕ) → Last → Ledger → Bool
sound_ledger profile now last l =
    tidy last.at l && all_of (ledger_rules profile now last (items last.at l))

-- the earliest time that is young
abbrev pub young_from : (now : ℕ) → ℕ
young_from now = now + 1 - full_age

-- words in step: each younger than the one before by the spacing at least, the on-times from 1 to the most
unfoldable pub in_step : (before most : ℕ) → List ℕ → Bool
in_step before most [] = true
in_step before most (w ∷ ws) =
    leb (age_in w + spacing) before && (within 1 most (ontime_in w) && in_step (age_in w) most ws)

-- how many have aged before the first that is young
unfoldable pub aged_in : (now base : ℕ) → List ℕ → ℕ
aged_in now base [] = 0
aged_in now base (w ∷ ws) = cond (young_at now (base - age_in w)) 0 (1 + aged_in now base ws)

-- the first n words without the k oldest; as they were where k is 0
unfoldable pub without_oldest : (n k : ℕ) → List ℕ → List ℕ
without_oldest n k ws = cond (eqb k 0) ws (in_places (drop k (take n ws)))

-- words of a base that lies a gap later
abbrev pub moved_by : (gap : ℕ) → List ℕ → List ℕ
moved_by gap ws = map (λ (w : ℕ). w + gap * unit) ws

-- one more behind n, a gap later, which is the base from then on; as they were where there is none
unfoldable pub put_newest : (more n gap ontime : ℕ) → List ℕ → List ℕ
put_newest more n gap ontime ws =
    cond (eqb more 0) ws (set (moved_by gap (take n ws) ++ drop n ws) n ontime)

-- words that still fit 32 bits when the base lies a gap later
abbrev pub Movable : (gap : ℕ) → List ℕ → Type 0
Movable gap ws = All (λ (w : ℕ). w + gap * unit ≤ 4294967295) ws

-- the on-times summed
unfoldable pub added : List ℕ → ℕ
added [] = 0
added (w ∷ ws) = ontime_in w + added ws

-- words in step, with no more air time than is allowed
unfoldable pub well_kept : (before most : ℕ) → List ℕ → Bool
well_kept before most ws = in_step before most ws && leb (added ws) most_air

-- all came by the end of time
abbrev pub Timely : List Admission → Type 0
Timely es = All (λ (a : Admission). a.at ≤ end_of_time) es

-- an array of forty places
abbrev pub Forty : List ℕ → Type 0
Forty ns = length ns ≡ places

-- admissions that a sound state had
pub record InOrder (l : List Admission) : Type 0 where
  pub profile : ℕ
  pub now : ℕ
  pub last : Last
  pub rules : all_of (ledger_rules profile now last l) ≡ true
