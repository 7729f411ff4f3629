-- Those behind the front one move up; zeros behind them and the length by the callee.
use Rattle.waiting.specs.Layout.{rows}
use Rattle.waiting.proofs.Keeping.{Shifting}
use Rattle.waiting.proofs.pop.Given as goal

abbrev pub invariant-loop-i : goal.invariant-loop-i
invariant-loop-i l = Shifting l.n (rows l.initial.words l.initial.came) l.i (rows l.words l.came)
