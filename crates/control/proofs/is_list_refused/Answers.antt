-- One test, as in the definition; then what is not good is bad.
use borrow.Author.Tests.{eq-eqb, ne_eqb}
use Rattle.control.proofs.is_list_refused.Goals as goal

pub returns-then-profile-ne-LISTED : goal.returns-then-profile-ne-LISTED
returns-then-profile-ne-LISTED c = simp (ne_eqb _ _ c.if-profile-ne-LISTED.true)

pub returns : goal.returns
returns c = simp (eq-eqb _ _ c.if-profile-ne-LISTED.false, c.is_good.ensures)
