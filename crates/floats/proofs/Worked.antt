-- Worked examples of the update: bits in, bits out, as another language's doubles have them. Each side computes to the
-- other, so a definition that has another order of operations, another constant or another test fails here.
use Prim.Native.Nat.{ℕ}
use mathlib.Core.Path.{◌≡◌, refl}
use mathlib.Core.List.{List, [], ◌∷◌, map}
use lib.Ieee.{Float, binary64, of_bits, to_bits, round, add, sub, mul, div, neg, lt, eq, le}
use Rattle.floats.specs.declared.FloatAnswer.{FloatAnswer}
use Rattle.floats.specs.Doubles.{nearest, minus}
use Rattle.floats.specs.Update.{Arguments, one, fading, smoothed_of, offset_of, duty_of, is_load, is_duty, float_answer}

-- a double by its bits
abbrev double : ℕ → Float
double n = of_bits binary64 n

-- an answer with its doubles as bits
pub record Bits : Type 0 where
  pub refusal : ℕ
  pub smoothed : ℕ
  pub duty : ℕ

-- an update by bits: duty, smoothed, kept, new
update : (duty smoothed kept new : ℕ) → Bits
unfolding of_bits to_bits round add sub mul div neg lt eq le smoothed_of offset_of duty_of is_load is_duty float_answer
update duty smoothed kept new =
    let a : Arguments = record { duty = double duty; smoothed = double smoothed; kept = double kept; new = double new } in
    let r : FloatAnswer = float_answer a in
    record { refusal = r.refusal; smoothed = to_bits binary64 r.smoothed; duty = to_bits binary64 r.duty }

-- an update, and what it gives: the smoothed load and the duty, or a refusal
pub record Row : Type 0 where
  pub is : Bits
  pub reads : Bits

gives : (duty smoothed kept new smoothed' duty' : ℕ) → Row
unfolding update
gives duty smoothed kept new smoothed' duty' =
    record { is = update duty smoothed kept new; reads = record { refusal = 0; smoothed = smoothed'; duty = duty' } }

refused : (duty smoothed kept new : ℕ) → Row
unfolding update
refused duty smoothed kept new =
    record { is = update duty smoothed kept new; reads = record { refusal = 14; smoothed = 0; duty = 0 } }

abbrev updates : List Row
updates =
    -- a fresh gate on a quiet channel
    gives 0x3f43a92a30553261 0 0 0 0 0x3f51dd7815bb5328
    -- rounding shows: another order of the operations, or two of them fused, gives other bits
    ∷ gives 0x3f46f0068db8bac7 0x3fe6666666666666 0x3fde147ae147ae14 0x3fb999999999999a 0x3fdf851eb851eb84 0x3f4df1828ebb1946
    ∷ gives 0x3f847ae147ae147b 0x3fb999999999999a 0x3fd999999999999a 0x3fe999999999999a 0x3fd6666666666667 0x3f84f69ca9ef5233
    ∷ gives 0x3f8930be0ded288d 0x3fd5555555555555 0x3fb999999999999a 0x3fc999999999999a 0x3fceeeeeeeeeeeef 0x3f89cfb4de997deb
    -- the load at the target, the double above it and the double below it
    ∷ gives 0x3f847ae147ae147b 0x3fe5c28f5c28f5c3 0x3fe5c28f5c28f5c3 0x3fe5c28f5c28f5c3 0x3fe5c28f5c28f5c3 0x3f8426fe718a86d7
    ∷ gives 0x3f847ae147ae147b 0x3fe5c28f5c28f5c4 0x3fe5c28f5c28f5c4 0x3fe5c28f5c28f5c4 0x3fe5c28f5c28f5c4 0x3f8426fe718a86d7
    ∷ gives 0x3f847ae147ae147b 0x3fe5c28f5c28f5c2 0x3fe5c28f5c28f5c2 0x3fe5c28f5c28f5c2 0x3fe5c28f5c28f5c2 0x3f8426fe718a86d7
    -- the offset up: free, held; down: free, held
    ∷ gives 0x3f947ae147ae147b 0x3fd147ae147ae148 0x3fd0a3d70a3d70a4 0x3fd147ae147ae148 0x3fd11eb851eb851f 0x3f94a8c154c985f0
    ∷ gives 0x3f947ae147ae147b 0x3fc999999999999a 0x3fc999999999999a 0x3fc999999999999a 0x3fc999999999999a 0x3f94aa10e0221427
    ∷ gives 0x3f947ae147ae147b 0x3fec28f5c28f5c29 0x3fec28f5c28f5c29 0x3fec28f5c28f5c29 0x3fec28f5c28f5c29 0x3f93e81450efdc9c
    ∷ gives 0x3f947ae147ae147b 0x3ff0000000000000 0x3ff0000000000000 0x3ff0000000000000 0x3ff0000000000000 0x3f93e5753a3ec02f
    -- the duty held from above, and twice from below
    ∷ gives 0x3f9eb851eb851eb8 0 0 0 0 0x3f9eb851eb851eb8
    ∷ gives 0x3f43a92a30553261 0x3ff0000000000000 0x3ff0000000000000 0x3ff0000000000000 0x3ff0000000000000 0x3f43a92a30553261
    ∷ gives 0x3f43a92a30553261 0x3fe5c28f5c28f5c3 0x3fe5c28f5c28f5c3 0x3fe5c28f5c28f5c3 0x3fe5c28f5c28f5c3 0x3f43a92a30553261
    -- negative zeros: all, and some
    ∷ gives 0x3f847ae147ae147b 0x8000000000000000 0x8000000000000000 0x8000000000000000 0x8000000000000000 0x3f852d234eb9a177
    ∷ gives 0x3f847ae147ae147b 0x8000000000000000 0 0x8000000000000000 0 0x3f852d234eb9a177
    ∷ gives 0x3f847ae147ae147b 0 0x8000000000000000 0x8000000000000000 0 0x3f852d234eb9a177
    -- subnormals: half the least one is 0.0, and so are two such halves; then more of them
    ∷ gives 0x3f847ae147ae147b 0x0000000000000001 0x0000000000000001 0x0000000000000001 0 0x3f852d234eb9a177
    ∷ gives 0x3f847ae147ae147b 0 0x0000000000000001 0x0000000000000003 0x0000000000000001 0x3f852d234eb9a177
    ∷ gives 0x3f847ae147ae147b 0x0000000000000003 0x0000000000000002 0x0000000000000003 0x0000000000000003 0x3f852d234eb9a177
    ∷ gives 0x3f847ae147ae147b 0x0010000000000000 0x000fffffffffffff 0x0010000000000000 0x0010000000000000 0x3f852d234eb9a177
    ∷ []

updates_right : map (λ (r : Row). r.is) updates ≡ map (λ (r : Row). r.reads) updates
unfolding gives
updates_right = refl

abbrev refusals : List Row
refusals =
    -- the duty: beside its limits, zero, negative, infinite, not a number
    refused 0x3f43a92a30553260 0 0 0
    ∷ refused 0x3f9eb851eb851eb9 0 0 0
    ∷ refused 0 0 0 0
    ∷ refused 0xbf43a92a30553261 0 0 0
    ∷ refused 0x7ff0000000000000 0 0 0
    ∷ refused 0xfff0000000000000 0 0 0
    ∷ refused 0x7ff8000000000000 0 0 0
    -- the smoothed load: above 1.0, below 0.0, infinite, not a number
    ∷ refused 0x3f847ae147ae147b 0x3ff0000000000001 0 0
    ∷ refused 0x3f847ae147ae147b 0x8000000000000001 0 0
    ∷ refused 0x3f847ae147ae147b 0x7ff0000000000000 0 0
    ∷ refused 0x3f847ae147ae147b 0xfff0000000000000 0 0
    ∷ refused 0x3f847ae147ae147b 0x7ff8000000000000 0 0
    -- the kept load
    ∷ refused 0x3f847ae147ae147b 0 0x3ff0000000000001 0
    ∷ refused 0x3f847ae147ae147b 0 0x8000000000000001 0
    ∷ refused 0x3f847ae147ae147b 0 0x7ff0000000000000 0
    ∷ refused 0x3f847ae147ae147b 0 0xfff0000000000000 0
    ∷ refused 0x3f847ae147ae147b 0 0x7ff8000000000000 0
    -- the new load
    ∷ refused 0x3f847ae147ae147b 0 0 0x3ff0000000000001
    ∷ refused 0x3f847ae147ae147b 0 0 0x8000000000000001
    ∷ refused 0x3f847ae147ae147b 0 0 0x7ff0000000000000
    ∷ refused 0x3f847ae147ae147b 0 0 0xfff0000000000000
    ∷ refused 0x3f847ae147ae147b 0 0 0x7ff8000000000000
    -- all four
    ∷ refused 0x7ff8000000000000 0x7ff8000000000000 0x7ff8000000000000 0x7ff8000000000000
    ∷ []

refusals_right : map (λ (r : Row). r.is) refusals ≡ map (λ (r : Row). r.reads) refusals
unfolding refused
refusals_right = refl

-- 1.0 − 0.016 and the double nearest to 0.984 are the same one: whoever types 0.984 gets the same update
same_double : map (to_bits binary64) (minus one fading ∷ nearest 984 1000 ∷ []) ≡ 0x3fef7ced916872b0 ∷ 0x3fef7ced916872b0 ∷ []
unfolding to_bits round sub
same_double = refl
