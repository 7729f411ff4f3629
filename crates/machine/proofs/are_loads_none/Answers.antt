-- The length, and then all the room.
use mathlib.Core.Path.{sym, ◌∙◌}
use borrow.Author.Tests.{eq-eqb, ne_eqb}
use Rattle.machine.specs.Loads.{none_held}
use Rattle.machine.proofs.are_loads_none.Goals as goal

pub returns-then-n-ne0 : goal.returns-then-n-ne0
unfolding none_held
returns-then-n-ne0 c = rw (ne_eqb _ _ c.if-n-ne0.true)

pub returns : goal.returns
unfolding none_held
returns c = c.are_zero.ensures ∙ sym (rw (eq-eqb _ _ c.if-n-ne0.false))
