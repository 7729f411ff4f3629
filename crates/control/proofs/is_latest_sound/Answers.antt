-- Profile 4 keeps a load, and any other profile keeps 0: the two sides of the rule.
use borrow.Author.Tests.{eq-eqb, ne_eqb}
use Rattle.control.specs.Control.{latest_sound}
use Rattle.control.proofs.is_latest_sound.Goals as goal

pub returns-then-profile-eq-HARMONISED : goal.returns-then-profile-eq-HARMONISED
unfolding latest_sound
returns-then-profile-eq-HARMONISED c = simp (eq-eqb _ _ c.if-profile-eq-HARMONISED.true)

pub returns : goal.returns
unfolding latest_sound
returns c = simp (ne_eqb _ _ c.if-profile-eq-HARMONISED.false)
