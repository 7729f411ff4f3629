-- A product with a positive number has the sign of the other factor, so of the two limits of the offset only the one on
-- its side can hold it: to hold it by both is to hold it by the one that the sign of the difference picks.
use Prim.Native.Nat.{ℕ, zero, suc, ◌+◌, ◌*◌, ◌^◌, ◌<◌}
use mathlib.Core.Path.{◌≡◌, refl, sym, ◌∙◌, ap, subst}
use mathlib.Core.Logic.{◌⊎◌, inl, inr}
use mathlib.Core.Bool.{Bool, true, false, cond, true≢false}
use native.Mathlib.Nat.{mul-pos, zero-mul}
use native.Mathlib.Omega.{arith}
use lib.Dec.{ltb}
use lib.Pow.{pow_pos}
use lib.IntN.{ℤ, pos, negsuc}
use lib.Ieee.{Float, nan, inf, fin, Format, binary64, prec, emax, low, up, down, odd, units, round, mul, lt, neg}
use lib.Ieee.Fits.{up_pos, down_pos}
use lib.Ieee.Exact.{HasValue, round_exact}
use borrow.Author.Tests.{lt-ltb, le-ltb, ne_eqb}
use Rattle.floats.specs.Doubles.{minus, times, smaller, larger, held_within}
use Rattle.floats.specs.Update.{target, gain, most_up, most_down, offset_of}

-- x is no nan, and has the sign s
abbrev Signed : Bool → Float → Type 0
Signed s nan = ⊥
Signed s (inf t) = t ≡ s
Signed s (fin t m e) = t ≡ s

either_signed : (s b : Bool) (x y : Float) → Signed s x → Signed s y → Signed s (cond b x y)
either_signed s true x y p q = p
either_signed s false x y p q = q

odd_signed : (d : ℕ) (s : Bool) (q k l : ℕ) → Signed s (odd d s q k l)
unfolding odd
odd_signed d s zero k l = refl
odd_signed d s (suc q) k l = refl

units_signed : (f : Format) (s : Bool) (q k : ℕ) → Signed s (units f s q k)
unfolding units
units_signed f s q k =
    let fits = ltb (q * 2 ^ k) (2 ^ (low f + suc (emax f))) in
    either_signed s fits (odd (suc (prec f)) s q k (low f)) (inf s) (odd_signed (suc (prec f)) s q k (low f)) refl

round_signed : (f : Format) (s : Bool) (num den : ℕ) → Signed s (round f s num den)
unfolding round
round_signed f s num den = units_signed f s _ _

-- a number times another above zero
above : (m : ℕ) (d e : ℤ) → 0 < suc m * up d * down e
above m d e = let h : 0 < suc m = omega arith in mul-pos (mul-pos h (up_pos d)) (down_pos e)

-- what is negative lies below a positive number
below_up : (u : ℕ) (i : ℤ) (y : Float) → Signed true y → lt y (fin false (suc u) i) ≡ true
unfolding lt
below_up u i nan p = absurd p
below_up u i (inf true) p = refl
below_up u i (inf false) p = absurd (true≢false (sym p))
below_up u i (fin true m e) p =
    let sum = m * up e * down i + suc u * up i * down e in
    let h : 0 < sum = omega (arith, above u i e) in
    lt-ltb 0 sum h
below_up u i (fin false m e) p = absurd (true≢false (sym p))

-- what isn't lies above a negative one
above_down : (w : ℕ) (j : ℤ) (y : Float) → Signed false y → lt (fin true (suc w) j) y ≡ true
unfolding lt
above_down w j nan p = absurd p
above_down w j (inf true) p = absurd (true≢false p)
above_down w j (inf false) p = refl
above_down w j (fin true m e) p = absurd (true≢false p)
above_down w j (fin false m e) p =
    let sum = suc w * up j * down e + m * up e * down j in
    let h : 0 < sum = omega (arith, above w j e) in
    lt-ltb 0 sum h

-- a negative number is not held from above
under_up : (u : ℕ) (i : ℤ) (y : Float) → Signed true y → smaller y (fin false (suc u) i) ≡ y
under_up u i y p = simp (below_up u i y p)

-- one that is not negative is not held from below
over_down : (w : ℕ) (j : ℤ) (y : Float) → Signed false y → larger y (fin true (suc w) j) ≡ y
over_down w j y p = simp (above_down w j y p)

-- nor is zero held from above
zero_under_up : (u : ℕ) (i : ℤ) (c : ℕ) (y : Float) → 0 < c → HasValue y false 0 c → smaller y (fin false (suc u) i) ≡ y
unfolding lt
zero_under_up u i c nan h v = absurd v
zero_under_up u i c (inf t) h v = absurd v
zero_under_up u i c (fin true m e) h v = absurd (true≢false v.0)
zero_under_up u i c (fin false zero e) h v =
    let none : 0 * up e * down i ≡ 0 = simp (zero-mul) in
    let below : 0 * up e * down i < suc u * up i * down e = rw none (above u i e) in
    simp (lt-ltb (0 * up e * down i) (suc u * up i * down e) below)
zero_under_up u i c (fin false (suc m) e) h v =
    let some : 0 < suc m * up e * c = let a : 0 < suc m = omega arith in mul-pos (mul-pos a (up_pos e)) h in
    let none : suc m * up e * c ≡ 0 = v.1 ∙ zero-mul (down e) in
    absurd (omega (arith, some, none))

-- an infinity times a positive number
times_inf : (n : ℕ) (d : ℤ) (t : Bool) → times (inf t) (fin false (suc n) d) ≡ inf t
unfolding mul
times_inf n d true = simp (ne_eqb (suc n) 0 (λ e. absurd (omega (arith, e))))
times_inf n d false = simp (ne_eqb (suc n) 0 (λ e. absurd (omega (arith, e))))

-- of zero and a positive number the product is zero
times_zero : (n : ℕ) (d e : ℤ) → HasValue (times (fin false zero e) (fin false (suc n) d)) false 0 (down e * down d)
unfolding mul
times_zero n d e =
    let num = 0 * up e * (suc n * up d) in
    let den = down e * down d in
    let none : num ≡ 0 = simp (zero-mul) in
    let fine : 0 * 2 ^ 0 < 2 ^ (low binary64 + suc (emax binary64)) = pow_pos (low binary64 + suc (emax binary64)) in
    let scaled : num * 2 ^ low binary64 ≡ 0 * 2 ^ 0 * den = ap (λ (k : ℕ). k * 2 ^ low binary64) none ∙ simp (zero-mul) in
    subst (λ (k : ℕ). HasValue (round binary64 false num den) false k den) none
    (round_exact binary64 false num den 0 0 (mul-pos (down_pos e) (down_pos d)) (pow_pos (prec binary64)) fine scaled)

-- the lower limit holds what is no number, and what is negative stays so: neither reaches the upper one
held_low : (u : ℕ) (i : ℤ) (w : ℕ) (j : ℤ) (p : Float) → (p ≡ nan) ⊎ Signed true p
    → held_within (fin true (suc w) j) (fin false (suc u) i) p ≡ larger p (fin true (suc w) j)
unfolding lt
held_low u i w j p (inl e) = rw e (under_up u i (fin true (suc w) j) refl)
held_low u i w j p (inr s) =
    under_up u i (larger p (fin true (suc w) j)) (either_signed true (lt (fin true (suc w) j) p) p (fin true (suc w) j) s refl)

-- what isn't negative the lower limit leaves alone
held_high : (u : ℕ) (i : ℤ) (w : ℕ) (j : ℤ) (p : Float) → Signed false p
    → held_within (fin true (suc w) j) (fin false (suc u) i) p ≡ smaller p (fin false (suc u) i)
held_high u i w j p s = ap (λ (y : Float). smaller y (fin false (suc u) i)) (over_down w j p s)

-- held by both limits, the lower one first, or by the one that the sign of x picks
both : (n : ℕ) (d : ℤ) (u : ℕ) (i : ℤ) (w : ℕ) (j : ℤ) (x : Float)
    → held_within (fin true (suc w) j) (fin false (suc u) i) (times x (fin false (suc n) d))
    ≡ cond (lt (fin false 0 (pos 0)) x)
    (smaller (times x (fin false (suc n) d)) (fin false (suc u) i))
    (larger (times x (fin false (suc n) d)) (fin true (suc w) j))
unfolding lt mul
both n d u i w j nan = held_low u i w j nan (inl refl)
both n d u i w j (inf true) =
    held_low u i w j (times (inf true) (fin false (suc n) d)) (inr (subst (Signed true) (sym (times_inf n d true)) refl))
both n d u i w j (inf false) =
    held_high u i w j (times (inf false) (fin false (suc n) d)) (subst (Signed false) (sym (times_inf n d false)) refl)
both n d u i w j (fin true m e) =
    let p = times (fin true m e) (fin false (suc n) d) in
    held_low u i w j p (inr (round_signed binary64 true (m * up e * (suc n * up d)) (down e * down d)))
both n d u i w j (fin false zero e) =
    let p = times (fin false zero e) (fin false (suc n) d) in
    let none : 0 * up e * 1 ≡ 0 = simp (zero-mul) in
    let test : ltb (0 * down e) (0 * up e * 1) ≡ false = le-ltb (0 * down e) (0 * up e * 1) (omega (arith, none)) in
    let s : Signed false p = round_signed binary64 false (0 * up e * (suc n * up d)) (down e * down d) in
    let den : 0 < down e * down d = mul-pos (down_pos e) (down_pos d) in
    let z : smaller p (fin false (suc u) i) ≡ p = zero_under_up u i (down e * down d) p den (times_zero n d e) in
    held_high u i w j p s ∙ z ∙ sym (over_down w j p s) ∙ simp test
both n d u i w j (fin false (suc m) e) =
    let p = times (fin false (suc m) e) (fin false (suc n) d) in
    let some : 0 * down e < suc m * up e * 1 = rw (zero-mul) (above m e (pos 0)) in
    let test : ltb (0 * down e) (suc m * up e * 1) ≡ true = lt-ltb (0 * down e) (suc m * up e * 1) some in
    let s : Signed false p = round_signed binary64 false (suc m * up e * (suc n * up d)) (down e * down d) in
    held_high u i w j p s ∙ simp test

-- the offset is the product held by both limits, the lower one first; the three numbers are the constants, by computing
pub by_both : (smoothed : Float) → held_within most_down most_up (times (minus target smoothed) gain) ≡ offset_of smoothed
unfolding offset_of round neg
by_both smoothed =
    both 5534023222112864 (negsuc 61) 1152921504606846 (negsuc 60) 1152921504606846 (negsuc 61) (minus target smoothed)
