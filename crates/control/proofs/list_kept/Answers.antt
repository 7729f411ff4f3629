-- One test, as in the definition.
use borrow.Author.Tests.{eq-eqb, ne_eqb}
use Rattle.control.specs.Control.{list_kept}
use Rattle.control.proofs.list_kept.Goals as goal

pub returns-then-profile-ne-LISTED : goal.returns-then-profile-ne-LISTED
unfolding list_kept
returns-then-profile-ne-LISTED c = simp (ne_eqb _ _ c.if-profile-ne-LISTED.true, c.none.ensures)

pub returns : goal.returns
unfolding list_kept
returns c = simp (eq-eqb _ _ c.if-profile-ne-LISTED.false, c.tidy.ensures)
