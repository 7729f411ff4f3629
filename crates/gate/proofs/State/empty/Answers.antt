-- All zero is what the state that is not live is laid out as.
use borrow.Author.Rules.{rules}
use Rattle.gate.proofs.Made.{zero_state}
use Rattle.gate.proofs.State.empty.Goals as goal

pub returns : goal.returns
returns c = zero_state (search rules)
