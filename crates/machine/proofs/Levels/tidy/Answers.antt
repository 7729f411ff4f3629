-- Each array is cleared behind the levels that are read.
use Rattle.std.proofs.Common.{◌≡◌, length, arith}
use Rattle.machine.specs.Levels.{levels_of, tidied}
use Rattle.machine.proofs.Levels.tidy.Goals as goal

pub returns : goal.returns
unfolding tidied
returns c =
    let l = c.args.self in
    let above_sized : length l.above ≡ 8 = omega arith in
    let waits_sized : length l.waits ≡ 8 = omega arith in
    let above = rw (above_sized, c.min-n.ensures) at c.clear.ensures in
    let waits = rw (waits_sized, c.min-n.ensures) at c.clear-2.ensures in
    λ i. levels_of (c.min-n.ensures i) l.wait (above i) (waits i)
