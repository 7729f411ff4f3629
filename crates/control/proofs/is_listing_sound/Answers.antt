-- By the profile, the first part's test and then the second's.
use mathlib.Core.Path.{sym, ◌∙◌}
use borrow.Author.Tests.{eq-eqb, ne_eqb}
use Rattle.control.specs.Control.{listing_sound}
use Rattle.control.proofs.is_listing_sound.Goals as goal

pub returns-then-not-is_sound : goal.returns-then-not-is_sound
unfolding listing_sound
returns-then-not-is_sound c =
    simp (
      eq-eqb _ _ c.if-profile-eq-LISTED.true,
      sym c.is_sound.ensures ∙ c.if-not-is_sound.true,
    )

pub returns-then-profile-eq-LISTED : goal.returns-then-profile-eq-LISTED
unfolding listing_sound
returns-then-profile-eq-LISTED c =
    simp (
      eq-eqb _ _ c.if-profile-eq-LISTED.true,
      sym c.is_sound.ensures ∙ c.if-not-is_sound.false,
      c.are_loads_sound.ensures,
    )

pub returns-then-not-is_none : goal.returns-then-not-is_none
unfolding listing_sound
returns-then-not-is_none c =
    simp (
      ne_eqb _ _ c.if-profile-eq-LISTED.false,
      sym c.is_none.ensures ∙ c.if-not-is_none.true,
    )

pub returns : goal.returns
unfolding listing_sound
returns c =
    simp (
      ne_eqb _ _ c.if-profile-eq-LISTED.false,
      sym c.is_none.ensures ∙ c.if-not-is_none.false,
      c.are_loads_none.ensures,
    )
