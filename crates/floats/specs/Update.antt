-- One update in f64 (document 02, W-211: "Give them one update in f64, in this order, each operation rounded
-- once").
use Rattle.std.specs.Prelude.{◌≡◌, Bool, true, cond, ◌&&◌, Float}
use Rattle.std.specs.Float.Ieee.{neg, lt}
use Rattle.floats.specs.declared.FloatAnswer.{FloatAnswer}
use Rattle.floats.specs.Doubles.{nearest, plus, minus, times, over}
use Rattle.floats.specs.Doubles.{smaller, larger, held_within, compares_as}

-- "Constants are the nearest doubles." 0.0, which is +0.0, and 0.5, 1.0 and 2.0 are doubles themselves.

abbrev pub zero64 : Float
zero64 = nearest 0 1

abbrev pub half : Float
half = nearest 1 2

abbrev pub one : Float
one = nearest 1 1

abbrev pub two : Float
two = nearest 2 1

-- 0.68
abbrev pub target : Float
target = nearest 68 100

-- 0.0012
abbrev pub gain : Float
gain = nearest 12 10000

-- 0.0005
abbrev pub most_up : Float
most_up = nearest 5 10000

-- −0.00025
abbrev pub most_down : Float
most_down = neg (nearest 25 100000)

-- 0.016
abbrev pub fading : Float
fading = nearest 16 1000

-- "0.0006 and 0.03"
abbrev pub least_duty : Float
least_duty = nearest 6 10000

abbrev pub most_duty : Float
most_duty = nearest 3 100

-- "0.5 × smoothed; kept + new; that sum / 2.0; 0.5 × that; the two halves added"
unfoldable pub smoothed_of : (smoothed kept new : Float) → Float
smoothed_of smoothed kept new =
    let old = times half smoothed in
    let sum = plus kept new in
    let mean = over sum two in
    let fresh = times half mean in
    plus old fresh

-- "0.68 minus that; times 0.0012; the smaller of that and 0.0005 if the difference is above zero, else the
-- larger of the product and −0.00025"
unfoldable pub offset_of : (smoothed : Float) → Float
offset_of smoothed =
    let difference = minus target smoothed in
    let product = times difference gain in
    cond (lt zero64 difference) (smaller product most_up) (larger product most_down)

-- "(1.0 − 0.016) × duty; the offset added; held within 0.0006 and 0.03"
unfoldable pub duty_of : (duty smoothed : Float) → Float
duty_of duty smoothed =
    let faded = times (minus one fading) duty in
    let moved = plus faded (offset_of smoothed) in
    held_within least_duty most_duty moved

-- the numbers of an update, in the order of the call
pub record Arguments : Type 0 where
  pub duty : Float
  pub smoothed : Float
  pub kept : Float
  pub new : Float

-- "Loads must compare as 0.0 to 1.0"
unfoldable pub is_load : Float → Bool
is_load x = compares_as zero64 one x

-- "and duty as 0.0006 to 0.03"
unfoldable pub is_duty : Float → Bool
is_duty x = compares_as least_duty most_duty x

-- whether nothing is refused
abbrev pub accepted : Arguments → Bool
accepted a = is_duty a.duty && is_load a.smoothed && is_load a.kept && is_load a.new

-- the smoothed load after the update
abbrev pub next_smoothed : Arguments → Float
next_smoothed a = smoothed_of a.smoothed a.kept a.new

-- "else 14, BAD-FLOAT, with zeros handed back"
abbrev pub bad_float : FloatAnswer
bad_float = record { refusal = 14; smoothed = zero64; duty = zero64 }

-- "the smoothed load and duty handed back are bit for bit that sequence"
unfoldable pub float_answer : Arguments → FloatAnswer
float_answer a =
    cond (accepted a)
    (record { refusal = 0; smoothed = next_smoothed a; duty = duty_of a.duty (next_smoothed a) })
    bad_float

-- "the duty always within the two limits": it may be handed to the next update
pub record WithinLimits (r : FloatAnswer) : Type 0 where
  pub within : r.refusal ≡ 0 → is_duty r.duty ≡ true
