use Prim.Native.Nat.{ℕ}
use mathlib.Core.Path.{◌≡◌, subst⁻¹, ap, ◌∙◌}
use borrow.Author.Rules.{rules}
use native.Mathlib.Omega.{arith}
use Rattle.waiting.specs.declared.Cell.{Cell}
use Rattle.waiting.specs.Layout.{rows, ZeroFrom, put_at}
use Rattle.waiting.proofs.Keeping.{clearing, clears_next, all_cleared}
use Rattle.waiting.proofs.clear.Goals as goal

pub loop-i-init : goal.loop-i-init
loop-i-init c =
    clearing _ _ c.requires.sized (omega (arith, c.requires))

pub loop-i-preserved : goal.loop-i-preserved
loop-i-preserved c =
    let l = c.loop-i in
    clears_next _ _ c.requires.sized (omega (arith, c.requires)) _ _ _ l.invariant (omega arith)
    (omega (arith, c.requires))
    (c.put.ensures ∙ ap (λ (x : Cell). put_at l.i x (rows l.words l.came)) (search rules))

pub returns : goal.returns
returns c =
    let l = c.loop-i in
    let z : l.i ≡ c.args.m = omega arith in
    let r = rows c.args.words.now c.args.came.now in
    all_cleared _ _ c.requires.sized (omega (arith, c.requires)) l.i _ _ _ l.invariant (omega arith)
    (subst⁻¹ (λ (k : ℕ). ZeroFrom k r) z c.requires.zero_from)
    c.put_len.ensures
