-- The label's figures across restarts: runs of the gate one after the other on one clock (docs/LABEL.md,
-- "After a restart").
use Rattle.std.specs.Prelude.{ℕ, ◌+◌, ◌*◌, ◌≤◌, ◌≡◌, true, List, [], ◌∷◌, ◌++◌, map}
use Rattle.control.specs.Owed.{spare, second, claims_ceiling}
use Rattle.model.specs.declared.Admission.{Admission}
use Rattle.model.specs.Journal.{air_time, air_in}
use Rattle.model.specs.Claims.{All, most_in_second}
use Rattle.label.specs.Trailer.{Run, Answers, book_of}

-- a run, and when its make came on the clock that all of them share
pub record Started : Type 0 where
  pub run : Run
  pub made : ℕ

-- an admission on that clock
abbrev pub later : (made : ℕ) → Admission → Admission
later made a = record { at = made + a.at; ontime = a.ontime }

-- a run's admissions on that clock, the newest first
abbrev pub sent_in : Answers → Started → List Admission
sent_in by s = map (later s.made) (book_of by s.run).admissions

-- those of runs one after the other, the last run first
unfoldable pub sent_in_all : Answers → List Started → List Admission
sent_in_all by [] = []
sent_in_all by (s ∷ ss) = sent_in by s ++ sent_in_all by ss

-- "It waits a second.", in µs
abbrev pub silence : ℕ
silence = 1000000

-- each admission so long or longer after each of those before
abbrev pub Silent : (after before : List Admission) → Type 0
Silent after before = All (λ (b : Admission). All (λ (a : Admission). a.at + silence ≤ b.at) before) after

-- each run's first admission comes a second or more after the last of the runs before it
abbrev pub Restarts : Answers → List Started → Type 0
Restarts by [] = Unit {0}
Restarts by (s ∷ ss) = Silent (sent_in by s) (sent_in_all by ss) × Restarts by ss

-- "poll for the first time 1,000,000 µs after the make, or later": what a host does that knows nothing of the
-- runs before but that they are over
abbrev pub WaitsFirst : Answers → List Started → Type 0
WaitsFirst by [] = Unit {0}
WaitsFirst by (s ∷ ss) =
    All (λ (a : Admission). a.at ≤ s.made) (sent_in_all by ss)
    × All (λ (a : Admission). silence ≤ a.at) (book_of by s.run).admissions
    × WaitsFirst by ss

-- "on-times admitted in any half-open stretch of 1,000,000 µs sum to at most 30,000" (document 02, W-207)
abbrev pub KeepsSecond : List Admission → Type 0
KeepsSecond l = (from : ℕ) → air_in from (from + second) l ≤ most_in_second

-- "in any window of W µs, 100 x air time admitted ≤ 3 W + 400,000"
abbrev pub KeepsTheCeiling : List Admission → Type 0
KeepsTheCeiling l = (from w : ℕ) → 100 * air_time from w l ≤ 3 * w + spare

-- of runs of any profiles, one after the other; the ceiling where all of them claim it
pub record Kept (by : Answers) (ss : List Started) : Type 0 where
  pub in_any_second : KeepsSecond (sent_in_all by ss)
  pub ceiling : All (λ (s : Started). claims_ceiling s.run.making.profile ≡ true) ss
      → KeepsTheCeiling (sent_in_all by ss)

-- "after a restart": second and ceiling hold of all the runs together
abbrev pub RestartsKeep : Answers → Type 0
RestartsKeep by = (ss : List Started) → Restarts by ss → Kept by ss

-- and a host that waits first restarts so
abbrev pub WaitingRestarts : Answers → Type 0
WaitingRestarts by = (ss : List Started) → WaitsFirst by ss → Restarts by ss
