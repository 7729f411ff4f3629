-- The loop keeps: the first i numbers are in their place.
use Rattle.std.proofs.Common.{◌≡◌, ◌++◌, take, drop}
use Rattle.gate.proofs.making.copy.Given as goal

abbrev pub invariant-loop-i : goal.invariant-loop-i
invariant-loop-i l = l.row ≡ take l.i l.from ++ drop l.i l.initial.row
