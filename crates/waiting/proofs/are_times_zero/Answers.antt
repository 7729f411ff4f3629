use mathlib.Core.Path.{sym}
use native.Mathlib.Omega.{arith}
use Rattle.packing.proofs.Zeros.{zeros_next, zeros_done}
use Rattle.waiting.proofs.are_times_zero.Goals as goal

pub loop-t-preserved : goal.loop-t-preserved
loop-t-preserved c =
    zeros_next 0 c.args.came.now c.loop-t.bits c.loop-t.t-index c.loop-t.invariant (omega arith)

pub returns : goal.returns
returns c =
    sym (zeros_done 0 c.args.came.now c.loop-t.bits c.loop-t.t-index c.loop-t.invariant (omega arith))
