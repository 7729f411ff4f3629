-- The levels are tried from the highest on: one that is missed leaves the answer to those below it.
use Rattle.std.proofs.Common.{◌≡◌, ◌∙◌, ◌-◌, ◌+◌, sym, ap, length, arith}
use Rattle.machine.specs.Levels.{listed}
use Rattle.machine.specs.Moves.{highest_to}
use Rattle.machine.proofs.Parts.{length-listed, listed_at, reached, missed}
use Rattle.machine.proofs.highest_reached.Goals as goal

pub loop-k-init : goal.loop-k-init
loop-k-init c =
    let ts = listed c.args.n c.args.above.now in
    let e : length ts ≡ c.min-m.result = omega (arith, length-listed c.args.n c.args.above.now) in
    (omega arith, ap (highest_to ts c.args.load) e)

pub returns-then-above-k : goal.returns-then-above-k
returns-then-above-k c =
    let xs = c.args.above.now in
    let ts = listed c.args.n xs in
    let k = c.loop-k.k in
    let at = listed_at c.args.n (k - 1) 0 xs (omega (arith, length-listed c.args.n xs)) in
    let e : k - 1 + 1 ≡ k = omega arith in
    e ∙ sym (c.loop-k.invariant.1 ∙ reached ts c.args.load k (omega arith) (omega (arith, at)))

pub loop-k-preserved : goal.loop-k-preserved
loop-k-preserved c =
    let xs = c.args.above.now in
    let ts = listed c.args.n xs in
    let k = c.loop-k.k in
    let at = listed_at c.args.n (k - 1) 0 xs (omega (arith, length-listed c.args.n xs)) in
    (omega arith, c.loop-k.invariant.1 ∙ missed ts c.args.load k (omega arith) (omega (arith, at)))

pub returns : goal.returns
unfolding highest_to
returns c =
    let ts = listed c.args.n c.args.above.now in
    let e : c.loop-k.k ≡ 0 = omega arith in
    sym (c.loop-k.invariant.1 ∙ ap (highest_to ts c.args.load) e)
