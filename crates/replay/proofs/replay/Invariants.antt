-- The state is that of a log.
use Rattle.replay.specs.Program.{Reached}
use Rattle.replay.proofs.replay.Given as goal

abbrev pub invariant-loop : goal.invariant-loop
invariant-loop l = Reached l.state l.at.more
