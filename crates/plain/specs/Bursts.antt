-- A burst of offers on the plain engine (document 02, W-204), and what a host does with single calls and
-- bursts: as for the gate, in calllog/specs/Bursts.
use Rattle.std.specs.Prelude.{ℕ, zero, suc, ◌*◌, cond, List, [], ◌∷◌, ◌++◌}
use Rattle.model.specs.declared.Answer.{Answer}
use Rattle.model.specs.declared.Answer.TheVariants.{Refused}
use Rattle.model.specs.Calls.{Call}
use Rattle.records.specs.declared.Record.{Record}
use Rattle.records.specs.Records.{record_bytes, record_at}
use Rattle.records.specs.Buffers.{written}
use Rattle.calllog.specs.Bursts.{is_offer, offer_of, answer_byte, is_accepted, records_in, heard_to}
use Rattle.calllog.specs.Bursts.{Move, one, burst}
use Rattle.plain.specs.declared.State.{State}
use Rattle.plain.specs.declared.Outcome.{Outcome}
use Rattle.plain.specs.Layout.{outcome, call_on}

-- a record done on a state: "a record of another kind gets 10 and does nothing"
unfoldable pub offered_by : State → Record → Outcome
offered_by s rec = cond (is_offer rec) (call_on s (offer_of rec)) (outcome s (Refused 10))

-- record n of a burst on a state, the first being 0
abbrev pub offered_at : State → (records : List ℕ) → ℕ → Outcome
offered_at s records n = offered_by s (record_at records (record_bytes * n))

-- the state after the first n records
unfoldable pub offered_to : State → (records : List ℕ) → ℕ → State
offered_to s records zero = s
offered_to s records (suc n) = (offered_at (offered_to s records n) records n).state

-- the answer bytes of the first n records
unfoldable pub answers_to : State → (records : List ℕ) → ℕ → List ℕ
answers_to s records zero = []
answers_to s records (suc n) =
    answers_to s records n ++ (answer_byte (offered_at (offered_to s records n) records n).answer ∷ [])

-- the state that a burst leaves, and the answer slice: a refused one leaves both unchanged
unfoldable pub burst_state : State → (records answers : List ℕ) → State
burst_state s records answers =
    cond (is_accepted records answers) (offered_to s records (records_in records)) s

unfoldable pub burst_answers : State → (records answers : List ℕ) → List ℕ
burst_answers s records answers =
    cond (is_accepted records answers) (written answers 0 (answers_to s records (records_in records))) answers

-- the state that a move leaves, and the calls of it, each with the answer that the host has heard
abbrev pub moved : State → Move → State
moved s (one c) = (call_on s c).state
moved s (burst records answers) = burst_state s records answers

abbrev pub heard_of : State → Move → List (Call × Answer)
heard_of s (one c) = (c, (call_on s c).answer) ∷ []
heard_of s (burst records answers) =
    cond (is_accepted records answers)
    (heard_to records (burst_answers s records answers) (records_in records))
    []

-- the same of a list of moves
unfoldable pub moved_all : State → List Move → State
moved_all s [] = s
moved_all s (m ∷ ms) = moved_all (moved s m) ms

unfoldable pub all_heard : State → List Move → List (Call × Answer)
all_heard s [] = []
all_heard s (m ∷ ms) = heard_of s m ++ all_heard (moved s m) ms
