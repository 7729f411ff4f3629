-- Below 50 the room is cleared and the load put behind; at 50 all but the oldest move to the front.
use Rattle.std.proofs.Common.{◌∙◌, ◌+◌, ap, ℕ, List, eq-eqb, ne_eqb}
use Rattle.std.proofs.Math.ListN.{set}
use Rattle.std.specs.List.{copy_within}
use Rattle.machine.specs.Loads.{loads_of, noted_if}
use Rattle.machine.proofs.Noted.{notes_few, notes_full}
use Rattle.machine.proofs.note_load.Goals as goal

pub returns-then-more-eq0 : goal.returns-then-more-eq0
unfolding noted_if
returns-then-more-eq0 c = rw (eq-eqb _ _ c.if-more-eq0.true)

pub returns-then-n-lt50 : goal.returns-then-n-lt50
unfolding noted_if
returns-then-n-lt50 c =
    let a = c.args in
    rw (ne_eqb _ _ c.if-more-eq0.false)
    (ap (λ (x : List ℕ). loads_of (a.n + 1) (set x a.n a.load)) c.clear.ensures
    ∙ notes_few a.n a.load a.slots.now c.told-slots c.if-n-lt50.true)

pub returns : goal.returns
unfolding noted_if
returns c =
    let a = c.args in
    let moved = c.copy_within.ensures.after ∙ ap (λ (n : ℕ). copy_within a.slots.now 1 n 0) c.told-slots in
    let length_moved = c.copy_within.ensures.len ∙ c.told-slots in
    rw (ne_eqb _ _ c.if-more-eq0.false)
    (notes_full a.n a.load a.slots.now c.copy_within.new.self c.told-slots c.if-n-lt50.false moved length_moved)
