-- Profile 1's constants for 1, profile 2's for all else, as in the definition.
use Rattle.std.proofs.Common.{eq-eqb, ne_eqb}
use Rattle.rules.specs.Profiles.{reactive_of}
use Rattle.rules.proofs.reactive_of.Goals as goal

pub returns-then-profile-eq-FIRST_PROFILE : goal.returns-then-profile-eq-FIRST_PROFILE
unfolding reactive_of
returns-then-profile-eq-FIRST_PROFILE c = simp (eq-eqb _ _ c.if-profile-eq-FIRST_PROFILE.true, c.constants.ensures)

pub returns : goal.returns
unfolding reactive_of
returns c = simp (ne_eqb _ _ c.if-profile-eq-FIRST_PROFILE.false, c.constants-2.ensures)
