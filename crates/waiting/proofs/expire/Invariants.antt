-- Those that are live are kept in front; zeros behind them and the length by the callee.
use Rattle.waiting.specs.Layout.{rows}
use Rattle.waiting.proofs.Keeping.{Keeping}
use Rattle.waiting.proofs.expire.Given as goal

abbrev pub invariant-loop-i : goal.invariant-loop-i
invariant-loop-i l =
    Keeping l.time (rows l.initial.words l.initial.came) l.left l.i (rows l.words l.came)
