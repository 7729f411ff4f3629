-- The sum that is held is the definition's; the constants are the nearest doubles, by computing.
use mathlib.Core.Path.{◌≡◌, ◌∙◌, ap}
use lib.Ieee.{Float, of_bits, round}
use Rattle.floats.specs.Doubles.{plus, minus, times, held_within}
use Rattle.floats.specs.Update.{one, fading, least_duty, most_duty, offset_of, duty_of}
use Rattle.floats.proofs.next_duty.Goals as goal

abbrev faded : Float → Float
faded duty = times (minus one fading) duty

pub returns : goal.returns
unfolding duty_of of_bits round
returns c =
    let o = c.offset in
    let a = c.args in
    let added : o.result ≡ offset_of a.smoothed = o.ensures in
    let e : c.hold.result ≡ held_within least_duty most_duty (plus (faded a.duty) o.result) = c.hold.ensures in
    e ∙ ap (λ (y : Float). held_within least_duty most_duty (plus (faded a.duty) y)) added
