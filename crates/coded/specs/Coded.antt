-- The label of the code: of the state that gate::make hands out, READY (its clause exact), and of the gate's
-- own calls on it, one after the other (their clauses exact). The label goes by calls and answers alone, and
-- gate::make promises (its clause runs) that the answers are the model's.
use Rattle.std.specs.Prelude.{◌≡◌, List}
use Rattle.model.specs.Calls.{Call, Making}
use Rattle.model.specs.Gate.{make}
use Rattle.gate.specs.declared.State.{State}
use Rattle.gate.specs.Layout.{call_on, make_state}
use Rattle.gate.specs.Runs.{state_after, events_on}
use Rattle.label.specs.Trailer.{Run, Answers, by_model}
use Rattle.label.specs.Label.{Label}

-- a make of the code is READY where the model's is, and so begins a run
abbrev pub SameMakes : Type 0
SameMakes = (m : Making) → (make_state m).answer ≡ (make m).answer

-- the code's state after the last call of a run
abbrev pub state_at_end : Run → State
state_at_end r = state_after (make_state r.making).state r.calls

-- how the code answers the calls of runs
abbrev pub by_code : Answers
by_code =
    record {
      all = λ (r : Run). events_on (make_state r.making).state r.calls;
      since = λ (r : Run) (calls : List Call). events_on (state_at_end r) calls;
      next = λ (r : Run) (c : Call). (call_on (state_at_end r) c).answer;
    }

-- as the model does, from any point of a run on
abbrev pub SameAnswers : Type 0
SameAnswers = by_code ≡ by_model

-- so all that the label says of runs holds of the code
abbrev pub CodeKeepsLabel : Type 0
CodeKeepsLabel = Label by_code
