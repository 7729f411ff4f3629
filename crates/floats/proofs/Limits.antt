-- Whatever is held, not-a-number too, comes out as one of the limits or passed the test against both.
use mathlib.Core.Path.{◌≡◌, refl}
use mathlib.Core.Bool.{Bool, true, false}
use lib.Ieee.{Float, lt, le, round}
use Rattle.floats.specs.Doubles.{held_within}
use Rattle.floats.specs.Update.{least_duty, most_duty, is_duty, duty_of}

-- either way of a test
split : {A : Type 0} (b : Bool) → (b ≡ true → A) → (b ≡ false → A) → A
split true f g = f refl
split false f g = g refl

-- what is below is at most
at_most : (x y : Float) → lt x y ≡ true → le x y ≡ true
unfolding le
at_most x y e = simp e

least_is_duty : is_duty least_duty ≡ true
unfolding is_duty round le
least_is_duty = refl

most_is_duty : is_duty most_duty ≡ true
unfolding is_duty round le
most_is_duty = refl

least_below_most : lt least_duty most_duty ≡ true
unfolding round lt
least_below_most = refl

held_is_duty : (x : Float) → is_duty (held_within least_duty most_duty x) ≡ true
unfolding is_duty
held_is_duty x =
    split (lt least_duty x)
    (λ above. split (lt x most_duty)
    (λ below. simp (above, below, at_most least_duty x above, at_most x most_duty below))
    (λ out. simp (above, out) most_is_duty))
    (λ under. simp (under, least_below_most) least_is_duty)

pub duty_within : (duty smoothed : Float) → is_duty (duty_of duty smoothed) ≡ true
unfolding duty_of
duty_within duty smoothed = held_is_duty _
