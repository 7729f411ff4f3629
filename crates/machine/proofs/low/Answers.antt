-- Before there are ten it is 0; the last ten are a part of the array.
use mathlib.Core.Path.{◌≡◌, ap, ◌∙◌}
use mathlib.Core.Bool.{false}
use lib.Dec.{ltb}
use lib.ListN.{length, take, length-take}
use native.Mathlib.Omega.{arith}
use borrow.Author.Tests.{lt-ltb, le-ltb}
use Rattle.machine.specs.Moves.{least_of, low_over, low_of}
use Rattle.machine.proofs.Parts.{last_part}
use Rattle.machine.proofs.low.Goals as goal

pub returns-then-m-lt-LOW_OVER : goal.returns-then-m-lt-LOW_OVER
unfolding low_of
returns-then-m-lt-LOW_OVER c =
    let xs = c.args.slots.now in
    rw (lt-ltb (length (take c.args.n xs)) low_over
    (omega (arith, length-take c.args.n xs, c.min-m.ensures, c.if-m-lt-LOW_OVER.true)))

pub returns : goal.returns
unfolding low_of
returns c =
    let n = c.args.n in
    let xs = c.args.slots.now in
    let ten : ltb (length (take n xs)) low_over ≡ false =
    le-ltb (length (take n xs)) low_over (omega (arith, length-take n xs, c.min-m.ensures, c.if-m-lt-LOW_OVER.false)) in
    rw ten
    (c.least.ensures ∙ ap least_of (rw c.min-m.ensures (last_part low_over n xs)))
