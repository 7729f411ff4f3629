-- The harmonised wait. With c the load in per mille rounded up, 1,000 c is at least the load, and floor(2,480,000 / c) × c is at
-- most 2,480,000: so the factor times the load is at least 3,999 × load − 2,480,000,000, for every load at once. Times the
-- on-time that is the claim, since a wait below the longest is at least the product. The wait lies within its limits, being held.
use Rattle.std.proofs.Common.{◌≡◌, ℕ, ◌+◌, ◌-◌, ◌*◌, ◌/◌, ◌<◌, ◌≤◌, leb, sym, ap, ◌∙◌, mul-le-mul_right, mul_assoc, add-mul}
use Rattle.std.proofs.Common.{mul-le-mul_left, mul-add, sub-add_cancel, div-mul-le_self, mul_left_comm, arith, le-leb}
use native.Mathlib.Nat.{mul-sub}
use borrow.Author.Tests.{lt-leb}
use Rattle.rules.specs.Profiles.{profile4}
use Rattle.rules.specs.Duty.{held}
use Rattle.rules.specs.Harmonised.{per_mille, factor_of, harmonised_wait, NeverShorter, NeverShorterWhole}
use Rattle.rules.proofs.Cases.{on_cond}
use Rattle.rules.proofs.Ceiling.{quotient_lt}
use Rattle.rules.proofs.Waits.{Within}

-- in a calm channel the wait is the least
pub waits_calm : (ontime load : ℕ) → per_mille load ≤ profile4.calm → harmonised_wait profile4 ontime load ≡ 25000
unfolding harmonised_wait
waits_calm ontime load h = rw (le-leb (per_mille load) profile4.calm h)

pub within4 : (ontime load : ℕ) → Within profile4.limits (harmonised_wait profile4 ontime load)
unfolding harmonised_wait
within4 ontime load =
    on_cond (Within profile4.limits) (leb (per_mille load) profile4.calm) (λ e. (omega arith, omega arith))
    (λ e. (omega arith, omega arith))

-- a quotient times what it was divided by, or less, is at most the dividend
quotient_le : (n c load : ℕ) → load ≤ 1000 * c → n / c * load ≤ 1000 * n
quotient_le n c load h =
    let q = n / c in
    let a : q * load ≤ q * (1000 * c) = mul-le-mul_left q h in
    let b : q * c ≤ n = div-mul-le_self n c in
    let e : q * (1000 * c) ≡ 1000 * (q * c) = mul_left_comm q 1000 c in
    omega (arith, mul-le-mul_left 1000 b)

-- above 620 per mille the quotient is below 4,000, so the factor is not cut off at 0
quotient_below : (c : ℕ) → 620 < c → 2480000 / c < 4000
quotient_below c k = quotient_lt 2480000 c 4000 (omega arith) (omega arith)

above : (load : ℕ) → 620000 < load → 620 < per_mille load
unfolding per_mille
above load h = omega arith

-- the factor of every load above 620,000
factor_reaches : (load : ℕ) → 620000 < load → 3999 * load ≤ factor_of profile4 (per_mille load) * load + 2480000000
unfolding factor_of per_mille
factor_reaches load h =
    let c = (load + 999) / 1000 in
    let q = 2480000 / c in
    let k : 620 < c = omega arith in
    let m : q ≤ 3999 = omega (arith, quotient_below c k) in
    let s : (3999 - q) * load + q * load ≡ 3999 * load =
    sym (add-mul (3999 - q) q load) ∙ ap (λ (n : ℕ). n * load) (sub-add_cancel m) in
    rw (lt-leb c 620 k) (omega (arith, quotient_le 2480000 c load (omega arith)))

pub never_shorter_whole : NeverShorterWhole
unfolding harmonised_wait
never_shorter_whole load ontime h =
    rw (lt-leb (per_mille load) 620 (above load h))
    (λ w.
    let f = factor_of profile4 (per_mille load) in
    let r : f * ontime ≤ held 25000 1000000 (f * ontime) = omega arith in
    let a = mul-le-mul_left ontime (factor_reaches load h) in
    let e : ontime * (f * load) ≡ f * ontime * load = mul_left_comm ontime f load ∙ sym (mul_assoc f ontime load) in
    omega (arith, mul-le-mul_right load r, mul-add ontime (f * load) 2480000000))

pub never_shorter : NeverShorter
never_shorter load ontime h w =
    omega (arith, never_shorter_whole load ontime h w, mul-sub ontime (3999 * load) 2480000000)
