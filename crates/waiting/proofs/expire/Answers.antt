use Prim.Native.Nat.{ℕ, ◌-◌}
use mathlib.Core.Path.{◌≡◌, sym, ◌∙◌, ap₂}
use native.Mathlib.Omega.{arith}
use Rattle.waiting.specs.Layout.{rows, len_in}
use Rattle.waiting.proofs.Keeping.{keeping, expires, keeps, all_kept, kept_zero, length-items, none-expired}
use Rattle.waiting.proofs.expire.Goals as goal
use Rattle.waiting.proofs.expire.Goals.{then-is_live, else-is_live}

pub loop-i-init : goal.loop-i-init
loop-i-init c = keeping _ _ c.requires.sized

pub loop-i-preserved : goal.loop-i-preserved
loop-i-preserved c =
    let l = c.loop-i in
    let live = c.is_live.ensures in
    elim c.if-is_live.branch [
      | then-is_live w ↦
          keeps _ _ c.requires.sized _ _ _ l.invariant (omega arith) _ c.cell_at.ensures _ _ (sym live ∙ w.if-is_live.true)
          w.left-is ((λ i. rows (w.words-is i) (w.came-is i)) ∙ w.move_to.ensures)
      | else-is_live w ↦
          expires _ _ c.requires.sized _ _ _ l.invariant (omega arith) _ c.cell_at.ensures _ _
          (sym live ∙ w.if-is_live.false) w.left-is (λ i. rows (w.words-is i) (w.came-is i))
    ]

pub returns-then-are_live-clause-gone : goal.returns-then-are_live-clause-gone
returns-then-are_live-clause-gone c =
    (none-expired _ _ c.requires.packed (sym c.are_live.ensures ∙ c.if-are_live.true)).0

pub returns-then-are_live-clause-left : goal.returns-then-are_live-clause-left
returns-then-are_live-clause-left c =
    (none-expired _ _ c.requires.packed (sym c.are_live.ensures ∙ c.if-are_live.true)).1

pub clear-requires-clause-zero_from : goal.clear-requires-clause-zero_from
clear-requires-clause-zero_from c =
    kept_zero _ _ c.requires.sized c.requires.packed c.requires.came_bound _ _ _ _ c.len-n.ensures (omega arith)
    c.loop-i.invariant

pub returns-clause-gone : goal.returns-clause-gone
returns-clause-gone c =
    let l = c.loop-i in
    let n = c.len-n.ensures in
    let z : l.i ≡ len_in (rows c.args.words.now c.args.came.now) = omega (arith, n) in
    let k = all_kept _ _ c.requires.sized _ _ _ c.requires.came_bound (rw z at l.invariant) in
    ap₂ (λ (a b : ℕ). a - b) (n ∙ sym (length-items _ c.requires.sized c.requires.came_bound)) k.0
