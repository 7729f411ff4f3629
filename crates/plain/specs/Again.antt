-- CLOSED, and asked again, of the states that the plain engine's code holds: as for the gate, in
-- gate/specs/Again.
use Rattle.std.specs.Prelude.{ℕ, ◌<◌, ◌≡◌}
use Rattle.rules.specs.Clock.{stamps}
use Rattle.model.specs.declared.Answer.TheVariants.{Closed}
use Rattle.model.specs.Calls.{poll}
use Rattle.model.specs.Gate.{AskedAgain}
use Rattle.plain.specs.declared.State.{State}
use Rattle.plain.specs.Layout.{view_of, call_on}

-- a poll of a state that is answered CLOSED, and the next call a poll of the state that it left
abbrev pub ClosedAskedAgain : Type 0
ClosedAskedAgain =
    (s : State) (stamp n : ℕ) → stamp < stamps → (call_on s (poll stamp)).answer ≡ Closed n
    → AskedAgain (view_of (call_on s (poll stamp)).state) stamp n
    (λ later. (call_on (call_on s (poll stamp)).state (poll later)).answer)
