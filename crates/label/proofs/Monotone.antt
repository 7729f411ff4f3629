-- No rule waits longer at a lesser load or for a shorter packet: levels and their waits, profile 4's factor, profile 3's smoothed
-- load, duty and wait. So of all samples up to a load, those of that very load are the worst.
use Prim.Native.Nat.{ℕ, zero, suc, ◌+◌, ◌-◌, ◌*◌, ◌/◌, ◌≤◌, ◌<◌}
use mathlib.Core.Path.{◌≡◌, refl, ap, ◌∙◌}
use mathlib.Core.Bool.{Bool, true, false, cond}
use native.Mathlib.Nat.{suc-mul, mul-le-mul_left, mul-le-mul_right, le-div_iff_mul-le, div-mul-le_self}
use native.Mathlib.Omega.{arith}
use lib.Dec.{leb, eqb}
use borrow.Author.Tests.{eqb-false}
use Rattle.rules.specs.declared.Limits.{Limits}
use Rattle.rules.specs.declared.Reactive.{Reactive}
use Rattle.rules.specs.Profiles.{profile3, profile4, full_load}
use Rattle.rules.specs.Levels.{wanted_by, wait_by}
use Rattle.rules.specs.Duty.{held, smoothed_of, duty_of}
use Rattle.rules.specs.Wait.{ceil_div, whole_duty, adaptive_wait}
use Rattle.rules.specs.Harmonised.{per_mille, factor_of, harmonised_wait}
use Rattle.rules.proofs.Cases.{on_cond, split, clash}
use Rattle.rules.proofs.Tests.{tested}
use Rattle.rules.proofs.Duty.{scaled, duty_held, smoothed_le}
use Rattle.rules.proofs.Ceiling.{ceil_reaches, quotient_lt}
use Rattle.rules.proofs.Profiles.{duty_within}
use Rattle.label.specs.Calm.{duty_after, worst_duty}

-- the greater of two choices by two tests, where the second test asks for more
cond_mono : (u v : Bool) {a m n : ℕ} → (v ≡ true → u ≡ true) → a ≤ n → (u ≡ false → m ≤ n) → cond u a m ≤ cond v a n
cond_mono true true f p q = omega arith
cond_mono true false f p q = p
cond_mono false true f p q = clash (cc (f refl))
cond_mono false false f p q = q refl

either : (u : Bool) {a b c : ℕ} → a ≤ b → a ≤ c → a ≤ cond u b c
either u {a} p q = on_cond (λ n. a ≤ n) u (λ e. p) (λ e. q)

-- a greater load wants no lower level
pub wanted_mono : (t : Reactive) (x y : ℕ) → x ≤ y → wanted_by t x ≤ wanted_by t y
unfolding wanted_by
wanted_mono t x y h =
    cond_mono (leb x t.upto0) (leb y t.upto0) (λ e. omega tested) (omega arith) (λ f.
    cond_mono (leb x t.upto1) (leb y t.upto1) (λ e. omega tested)
    (either (leb y t.upto2) (omega arith) (either (leb y t.upto3) (omega arith) (omega arith))) (λ f.
    cond_mono (leb x t.upto2) (leb y t.upto2) (λ e. omega tested)
    (either (leb y t.upto3) (omega arith) (omega arith)) (λ f.
    cond_mono (leb x t.upto3) (leb y t.upto3) (λ e. omega tested) (omega arith) (λ f. omega arith))))

-- nor is the wait of a higher level shorter
abbrev pub Rising : Reactive → Type 0
Rising t = (t.wait0 ≤ t.wait1) × (t.wait1 ≤ t.wait2) × (t.wait2 ≤ t.wait3) × (t.wait3 ≤ t.wait4)

pub wait_mono : (t : Reactive) (a b : ℕ) → Rising t → a ≤ b → wait_by t a ≤ wait_by t b
unfolding wait_by
wait_mono t a b r h =
    cond_mono (eqb a 0) (eqb b 0) (λ e. omega tested)
    (either (eqb b 1) (omega arith) (either (eqb b 2) (omega arith) (either (eqb b 3) (omega arith) (omega arith)))) (λ e0.
    cond_mono (eqb a 1) (eqb b 1) (λ e. omega (tested, eqb-false a 0 e0))
    (either (eqb b 2) (omega arith) (either (eqb b 3) (omega arith) (omega arith))) (λ e1.
    cond_mono (eqb a 2) (eqb b 2) (λ e. omega (tested, eqb-false a 0 e0, eqb-false a 1 e1))
    (either (eqb b 3) (omega arith) (omega arith)) (λ e2.
    cond_mono (eqb a 3) (eqb b 3) (λ e. omega (tested, eqb-false a 0 e0, eqb-false a 1 e1, eqb-false a 2 e2)) r.3
    (λ e3. omega arith))))

-- Profile 4.

div_anti : (n a b : ℕ) → 0 < a → a ≤ b → n / b ≤ n / a
div_anti n a b p h = (le-div_iff_mul-le p).1 (omega (arith, mul-le-mul_left (n / b) h, div-mul-le_self n b))

factor_mono : (a b : ℕ) → a ≤ b → factor_of profile4 a ≤ factor_of profile4 b
unfolding factor_of
factor_mono a b h =
    cond_mono (leb a profile4.calm) (leb b profile4.calm) (λ e. omega tested) (omega arith)
    (λ e. omega (arith, div_anti profile4.scale a b (omega tested) h))

pub harmonised_mono : (o p x y : ℕ) → o ≤ p → x ≤ y → harmonised_wait profile4 o x ≤ harmonised_wait profile4 p y
unfolding harmonised_wait per_mille
harmonised_mono o p x y g h =
    let c : per_mille x ≤ per_mille y = omega arith in
    cond_mono (leb (per_mille x) profile4.calm) (leb (per_mille y) profile4.calm) (λ e. omega tested) (omega arith)
    (λ e.
    omega (
      arith,
      mul-le-mul_left (factor_of profile4 (per_mille x)) g,
      mul-le-mul_right p (factor_mono (per_mille x) (per_mille y) c),
    ))

-- Profile 3.

ceil_le : (a d k : ℕ) → 0 < d → a ≤ k * d → ceil_div a d ≤ k
ceil_le a d k p h = omega (arith, quotient_lt (a + (d - 1)) d (suc k) p (omega (arith, suc-mul k d)))

pub adaptive_mono : (l : Limits) (o p d e : ℕ) → 0 < e → e ≤ d → o ≤ p → adaptive_wait l o d ≤ adaptive_wait l p e
unfolding adaptive_wait
adaptive_mono l o p d e some h g =
    let c = ceil_div (p * whole_duty) e in
    omega (
      arith,
      ceil_le (o * whole_duty) d c (omega arith)
          (omega (arith, ceil_reaches (p * whole_duty) e some, mul-le-mul_left c h)),
    )

pub smoothed_mono : (s t x y load : ℕ) → s ≤ t → x ≤ load → y ≤ load → smoothed_of s x y ≤ smoothed_of t load load
unfolding smoothed_of
smoothed_mono s t x y load h a b = omega arith

-- the duty by a load of 6 / 5 of the smoothed one, rounded up
aimed : (d s : ℕ) → 600000 ≤ d
    → duty_of profile3 d s ≡ held 600000 30000000 (984 * d / 1000 + 816000 - held 316000 1066000 ((6 * s + 4) / 5))
aimed d s h =
    scaled profile3 d s 816000 ((6 * s + 4) / 5) (omega arith) (omega arith) (omega arith) (omega arith) (omega arith)
    (omega arith)

pub duty_mono : (d e s t : ℕ) → 600000 ≤ e → e ≤ d → s ≤ t → duty_of profile3 e t ≤ duty_of profile3 d s
duty_mono d e s t some h g =
    rw (aimed d s (omega arith), aimed e t some)
    (held_mono 600000 30000000 _ _
    (less (984 * e / 1000 + 816000) (984 * d / 1000 + 816000) _ _ (omega arith) (held_mono 316000 1066000 _ _ (omega arith))))
  where
    held_mono : (low high x y : ℕ) → x ≤ y → held low high x ≤ held low high y
    held_mono low high x y h = omega arith

    less : (a b u v : ℕ) → a ≤ b → v ≤ u → a - u ≤ b - v
    less a b u v h g = omega arith

pub duty_least : (d s : ℕ) → 600000 ≤ duty_of profile3 d s
duty_least d s = (duty_within _ (duty_held d s)).0

-- the worst, update by update
unfoldable pub load_at : (load n : ℕ) → ℕ
load_at load zero = full_load
load_at load (suc n) = smoothed_of (load_at load n) load load

unfoldable pub duty_at : (load n : ℕ) → ℕ
duty_at load zero = profile3.leastduty
duty_at load (suc n) = duty_of profile3 (duty_at load n) (load_at load (suc n))

duty_walks : (load n k : ℕ) → duty_after load n (load_at load k) (duty_at load k) ≡ duty_at load (n + k)
unfolding load_at duty_at duty_after
duty_walks load zero k = let e : k ≡ 0 + k = omega arith in ap (duty_at load) e
duty_walks load (suc n) k = let e : n + suc k ≡ suc n + k = omega arith in duty_walks load n (suc k) ∙ ap (duty_at load) e

pub worst_is : (load n : ℕ) → worst_duty load n ≡ duty_at load n
unfolding load_at duty_at worst_duty
worst_is load n = let e : n + 0 ≡ n = omega arith in duty_walks load n 0 ∙ ap (duty_at load) e

-- it gets better with each
pub duty_at_least : (load n : ℕ) → 600000 ≤ duty_at load n
unfolding duty_at
duty_at_least load zero = omega arith
duty_at_least load (suc n) = duty_least _ _

pub load_at_most : (load n : ℕ) → load ≤ full_load → load_at load n ≤ full_load
unfolding load_at
load_at_most load zero h = omega arith
load_at_most load (suc n) h = smoothed_le (load_at load n) load load (load_at_most load n h) h h

load_falls : (load n : ℕ) → load ≤ full_load → load_at load (suc n) ≤ load_at load n
unfolding load_at smoothed_of
load_falls load zero h = omega arith
load_falls load (suc n) h = let f = load_falls load n h in omega arith

duty_climbs : (load n : ℕ) → load ≤ full_load → duty_at load n ≤ duty_at load (suc n)
unfolding duty_at
duty_climbs load zero h = duty_least _ _
duty_climbs load (suc n) h =
    duty_mono _ _ _ _ (duty_at_least load n) (duty_climbs load n h) (load_falls load (suc n) h)

pub duty_later : (load n u : ℕ) → load ≤ full_load → n ≤ u → duty_at load n ≤ duty_at load u
duty_later load n zero h g = let e : n ≡ 0 = omega arith in rw e (omega arith)
duty_later load n (suc u) h g =
    split (leb n u) (λ e. omega (arith, duty_later load n u h (omega tested), duty_climbs load u h))
    (λ e. let f : n ≡ suc u = omega tested in rw f (omega arith))
