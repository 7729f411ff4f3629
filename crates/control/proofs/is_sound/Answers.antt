-- What samples change first, then the list and the loads.
use mathlib.Core.Path.{sym, ◌∙◌}
use mathlib.Core.Bool.{and-true}
use Rattle.control.specs.Control.{sound_control}
use Rattle.control.proofs.is_sound.Goals as goal

pub returns-then-not-is_tuning_sound : goal.returns-then-not-is_tuning_sound
unfolding sound_control
returns-then-not-is_tuning_sound c = simp (sym c.is_tuning_sound.ensures ∙ c.if-not-is_tuning_sound.true)

pub returns : goal.returns
unfolding sound_control
returns c =
    simp (
      sym c.is_tuning_sound.ensures ∙ c.if-not-is_tuning_sound.false,
      c.is_listing_sound.ensures,
      and-true,
    )
