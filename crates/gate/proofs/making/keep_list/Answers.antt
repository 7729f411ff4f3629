-- One test, as in the definition; in profile 5 the levels that are read are put into rows of zeros.
use Rattle.std.proofs.Common.{◌≡◌, ◌∙◌, length, min, arith}
use borrow.Author.Tests.{eq-eqb, ne_eqb}
use Rattle.machine.specs.Levels.{levels_of, tidied}
use Rattle.control.specs.Control.{list_kept}
use Rattle.gate.proofs.Made.{kept_row}
use Rattle.gate.proofs.making.keep_list.Goals as goal

pub returns-then-profile-ne-LISTED : goal.returns-then-profile-ne-LISTED
unfolding list_kept
returns-then-profile-ne-LISTED c =
    rw (ne_eqb _ _ c.if-profile-ne-LISTED.true, c.requires.above_wiped, c.requires.waits_wiped)

pub returns : goal.returns
unfolding list_kept tidied
returns c =
    let a = c.args in
    let n = min a.n 8 in
    let above_sized : length a.thresholds.now ≡ 8 = omega arith in
    let waits_sized : length a.pauses.now ≡ 8 = omega arith in
    let above = (rw (c.min-levels.ensures, c.requires.above_wiped) at c.copy.ensures)
    ∙ kept_row n a.thresholds.now (omega arith) above_sized in
    let waits = (rw (c.min-levels.ensures, c.requires.waits_wiped) at c.copy-2.ensures)
    ∙ kept_row n a.pauses.now (omega arith) waits_sized in
    rw (eq-eqb _ _ c.if-profile-ne-LISTED.false)
    (λ i. levels_of (c.min-levels.ensures i) a.calm (above i) (waits i))
