-- The loop's invariant: the answer at the bits so far and the numbers that are left.
use Rattle.packing.proofs.Zeros.{ZerosPast}
use Rattle.machine.proofs.bits_of.Given as goal

abbrev pub invariant-loop-x : goal.invariant-loop-x
invariant-loop-x l = ZerosPast 0 l.xs l.bits l.x-index
