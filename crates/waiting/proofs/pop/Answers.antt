use Prim.Native.Nat.{◌-◌, ◌≤◌}
use mathlib.Core.Path.{◌∙◌}
use native.Mathlib.Omega.{arith}
use Rattle.waiting.specs.Layout.{rows}
use Rattle.waiting.proofs.Keeping.{shifts_next, all_shifted, shifted_zero}
use Rattle.waiting.proofs.pop.Goals as goal

pub loop-i-preserved : goal.loop-i-preserved
loop-i-preserved c =
    let b : c.len-n.result ≤ 5 = omega arith in
    shifts_next _ _ c.requires.sized b _ _ _ c.loop-i.invariant (omega arith) c.move_to.ensures

pub clear-requires-clause-zero_from : goal.clear-requires-clause-zero_from
clear-requires-clause-zero_from c =
    let l = c.loop-i in
    let b : c.len-n.result ≤ 5 = omega arith in
    shifted_zero _ _ c.requires.sized b c.requires.packed l.i _ l.invariant (omega arith) c.len-n.ensures

pub returns : goal.returns
returns c =
    let l = c.loop-i in
    let n = c.len-n in
    let b : n.result ≤ 5 = omega arith in
    c.clear.ensures
    ∙ all_shifted n.result (rows c.args.words.now c.args.came.now) c.requires.sized b l.i (n.result - 1) _ l.invariant
    (omega arith) (omega arith) n.ensures
