-- What holds of the states of any engine holds of this one's.
use mathlib.Core.Path.{refl, sym}
use Rattle.checks.proofs.Entry.{unsound}
use Rattle.checks.proofs.Refusing as any
use Rattle.plain.specs.declared.Outcome.{Outcome}
use Rattle.plain.specs.Layout.{sound_state, call_on}
use Rattle.plain.specs.Refusals.{RefusedUnchanged, UnsoundGetsNine, RefusedExactly}
use Rattle.plain.proofs.Views.{engine}

pub refused_unchanged : RefusedUnchanged
unfolding call_on sound_state
refused_unchanged =
    any.refused_unchanged engine (λ (o : Outcome). o.state) (λ (o : Outcome). o.answer) (λ s a. refl) (λ s a. refl)

pub unsound_gets_nine : UnsoundGetsNine
unfolding call_on sound_state
unsound_gets_nine s c e = sym (unsound engine s c e)

pub refused_exactly : RefusedExactly
unfolding call_on sound_state
refused_exactly =
    any.refused_exactly engine (λ (o : Outcome). o.state) (λ (o : Outcome). o.answer) (λ s a. refl) (λ s a. refl)
