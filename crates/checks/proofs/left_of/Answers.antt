-- What is left of the closed time is the difference, or nothing.
use borrow.Author.Tests.{eq-eqb, ne_eqb}
use Rattle.checks.specs.Checks.{left_at}
use Rattle.checks.proofs.left_of.Goals as goal

pub returns-then-l-ne1 : goal.returns-then-l-ne1
unfolding left_at
returns-then-l-ne1 c = simp (ne_eqb _ _ c.if-l-ne1.true)

pub returns : goal.returns
unfolding left_at
returns c = simp (eq-eqb _ _ c.if-l-ne1.false) c.saturating_sub.ensures
