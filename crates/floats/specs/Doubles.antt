-- Doubles: f64 as IEEE 754 has it (document 02, W-211: "in f64 .. each operation rounded once").
use Rattle.std.specs.Prelude.{ℕ, Bool, false, cond, ◌&&◌, Float}
use Rattle.std.specs.Float.{binary64}
use Rattle.std.specs.Float.Ieee.{round, add, sub, mul, div, lt, le}

-- "the nearest doubles": the one nearest to the fraction a / b
abbrev pub nearest : (a b : ℕ) → Float
nearest a b = round binary64 false a b

-- "each operation rounded once": the exact sum, difference, product or quotient, rounded to the nearest
-- double; of two that are as near, to the one whose last bit is 0
abbrev pub plus : Float → Float → Float
plus x y = add binary64 x y

abbrev pub minus : Float → Float → Float
minus x y = sub binary64 x y

abbrev pub times : Float → Float → Float
times x y = mul binary64 x y

abbrev pub over : Float → Float → Float
over x y = div binary64 x y

-- "the smaller of that and": x where it is below y, else y
abbrev pub smaller : Float → Float → Float
smaller x y = cond (lt x y) x y

-- "the larger of": x where it is above y, else y
abbrev pub larger : Float → Float → Float
larger x y = cond (lt y x) x y

-- "held within": raised to the lower limit, then lowered to the upper one
abbrev pub held_within : (low high x : Float) → Float
held_within low high x = smaller (larger x low) high

-- "compare as": low ≤ x and x ≤ high, as doubles compare. Negative zero equals 0.0 there, and "not-a-number
-- never does"
abbrev pub compares_as : (low high x : Float) → Bool
compares_as low high x = le low x && le x high
