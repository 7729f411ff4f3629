-- How the plain engine's state lays out a state with one list, and its calls: the model's call on what the
-- state says, laid out (document 01, "State and calls"; document 02, W-212).
use Rattle.std.specs.Prelude.{ℕ, ◌≡◌, Bool, true, cond, ◌&&◌}
use Rattle.control.specs.Control.{Control, control_of}
use Rattle.model.specs.declared.Answer.{Answer}
use Rattle.model.specs.declared.Answer.TheVariants.{Refused}
use Rattle.model.specs.Calls.{Call, Making, is_refused}
use Rattle.model.specs.Ledger.{places}
use Rattle.model.specs.State.{status_from, sound}
use Rattle.model.specs.Effects.{Result}
use Rattle.model.specs.Gate.{make_in, call}
use Rattle.checks.specs.Checks.{clock_number}
use Rattle.ledger.specs.Layout as ledger
use Rattle.line.specs.Line.{in_list, Listed}
use Rattle.line.specs.Layout.{items, packed, tidy}
use Rattle.plain.specs.declared.State.{State}
use Rattle.plain.specs.declared.Outcome.{Outcome}

-- what samples steer
abbrev pub control_on : State → Control
control_on s = control_of s.profile s.tuning s.levels s.loads

-- a state read as the model's state with one list; its ledger counts back from the last admission
abbrev pub view_of : State → Listed
view_of s =
    status_from s.live s.oldway s.clock (control_on s) s.last
    (ledger.items s.last.at s.ledger) s.counts (items s.line)

-- and laid out again
abbrev pub state_of : Listed → State
state_of v =
    record {
      line = packed v.waiting;
      ledger = ledger.packed v.last.at v.ledger;
      loads = v.control.loads;
      levels = v.control.levels;
      clock = v.clock;
      last = v.last;
      counts = v.counts;
      tuning = v.control.tuning;
      profile = v.control.profile;
      oldway = v.oldway;
      live = v.live;
    }

-- a state that holds nothing but what it says
abbrev pub LaidOut : State → Type 0
LaidOut s = s ≡ state_of (view_of s)

-- "A state is sound if": what it says is, and everything unused in its line and its ledger is zero. It says
-- its loads and its list as they lie, so that their unused room is judged with them
unfoldable pub sound_state : State → Bool
sound_state s = (tidy s.line && ledger.tidy s.last.at s.ledger) && sound (view_of s)

-- what the engine's inner functions are given: a sound state
abbrev pub Given : State → Type 0
Given s = LaidOut s × (sound (view_of s) ≡ true)

-- "40 are enough" (document 02, W-207)
abbrev pub forty : ℕ
forty = places

-- the next state and the answer, side by side
abbrev pub outcome : State → Answer → Outcome
outcome s a = record { state = s; answer = a }

-- a result of the model, laid out: "A refusal hands back the given state unchanged"
abbrev pub outcome_of : State → Result in_list → Outcome
outcome_of given r =
    cond (is_refused r.answer) (outcome given r.answer) (outcome (state_of r.view) r.answer)

-- "Any other state is refused with 9."
unfoldable pub call_on : State → Call → Outcome
call_on s c = cond (sound_state s) (outcome_of s (call (view_of s) c)) (outcome s (Refused 9))

-- "make": its state laid out, refused or not
unfoldable pub make_state : Making → Outcome
make_state m = outcome (state_of (make_in in_list m).view) (make_in in_list m).answer

-- "Checks run 9, 2, 3, then ..": the first that holds of the checks of every call, 0 where none does
unfoldable pub entry_number : State → (stamp : ℕ) → ℕ
entry_number s stamp = cond (sound_state s) (clock_number s.clock stamp) 9
