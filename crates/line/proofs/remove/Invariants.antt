-- The loop's invariant: what is kept so far and what is to come of the packets that are left make the whole.
use Rattle.std.proofs.Common.{drop}
use Rattle.line.specs.Line.{without}
use Rattle.line.proofs.Building.{Building}
use Rattle.line.proofs.Steps.{rest}
use Rattle.line.proofs.remove.Given as goal

abbrev pub invariant-loop-p : goal.invariant-loop-p
invariant-loop-p l =
    Building (without l.priority l.p-items) (rest l.gone l.priority (drop l.p-index l.p-items)) l.p-index l.left
