use Rattle.std.proofs.Common.{sym, arith}
use Rattle.packing.proofs.Zeros.{zeros_next, zeros_done}
use Rattle.machine.proofs.bits_of.Goals as goal

pub loop-x-preserved : goal.loop-x-preserved
loop-x-preserved c =
    let l = c.loop-x in
    zeros_next 0 c.args.xs.now l.bits l.x-index l.invariant (omega arith)

pub returns : goal.returns
returns c =
    let l = c.loop-x in
    sym (zeros_done 0 c.args.xs.now l.bits l.x-index l.invariant (omega arith))
