-- The loop's invariant: the answer at the bits so far and the times that are left.
use Rattle.packing.proofs.Zeros.{ZerosPast}
use Rattle.waiting.proofs.are_times_zero.Given as goal

abbrev pub invariant-loop-t : goal.invariant-loop-t
invariant-loop-t l = ZerosPast 0 l.came l.bits l.t-index
