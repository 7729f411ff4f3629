-- One test, as in the definition.
use borrow.Author.Tests.{eq-eqb, ne_eqb}
use Rattle.control.specs.Control.{top_of}
use Rattle.control.proofs.top_of.Goals as goal

pub returns-then-profile-eq-LISTED : goal.returns-then-profile-eq-LISTED
unfolding top_of
returns-then-profile-eq-LISTED c = simp (eq-eqb _ _ c.if-profile-eq-LISTED.true)

pub returns : goal.returns
unfolding top_of
returns c = simp (ne_eqb _ _ c.if-profile-eq-LISTED.false)
