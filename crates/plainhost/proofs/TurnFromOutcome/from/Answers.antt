-- The answer's numbers are the model's, and the state is handed on as it is.
use Rattle.plainhost.specs.Turns.{turn_of}
use Rattle.plainhost.proofs.TurnFromOutcome.from.Goals as goal

pub returns : goal.returns
unfolding turn_of
returns c = rw c.from.ensures
