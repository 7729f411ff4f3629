use Prim.Native.Nat.{ℕ, ◌+◌, ◌-◌, ◌^◌, ◌≤◌, ◌<◌}
use mathlib.Core.Path.{◌≡◌, refl}
use native.Mathlib.Nat.{pow-suc, pow-le-pow_right}
use native.Mathlib.Numerals.{add-one}
use native.Mathlib.Omega.{arith}
use Rattle.lines.proofs.places.Goals as goal

-- one digit more
more : (n limit k : ℕ) → limit ≡ 10 ^ k → limit ≤ n → 1 < k + 1 → 10 ^ (k + 1 - 1) ≤ n
more n limit k e h z = let same : k + 1 - 1 ≡ k = omega arith in rw same (rw e at h)

pub loop-k-init : goal.loop-k-init
loop-k-init c = (omega arith, omega arith, refl, λ h. absurd (omega arith))

pub returns-then-n-limit : goal.returns-then-n-limit
returns-then-n-limit c = let l = c.loop-k.invariant in (l.0, rw l.2 at c.if-n-limit.true, l.3)

pub overflow_mul-limit : goal.overflow_mul-limit
overflow_mul-limit c =
    let k = c.loop-k.k in
    let small : 10 ^ k ≤ 10 ^ 18 = pow-le-pow_right {n = 10} (omega arith) {i = k} {j = 18} (omega arith) in
    omega (arith, small, c.loop-k.invariant.2)

pub loop-k-preserved : goal.loop-k-preserved
loop-k-preserved c =
    let l = c.loop-k in (
      omega arith,
      omega arith,
      rw add-one (omega (arith, pow-suc 10 l.k, l.invariant.2)),
      more _ _ l.k l.invariant.2 c.if-n-limit.false,
    )

pub returns-then-n-limit-2 : goal.returns-then-n-limit-2
returns-then-n-limit-2 c = let l = c.loop-k.invariant in (l.0, rw l.2 at c.if-n-limit-2.true, l.3)

pub returns-else-n-limit-2 : goal.returns-else-n-limit-2
returns-else-n-limit-2 c =
    let l = c.loop-k in
    let e : l.k ≡ 19 = omega arith in
    let below : c.args.n < 10 ^ 20 = omega (arith, c.ranges.n.fits) in
    (omega arith, rw e below, more _ _ l.k l.invariant.2 c.if-n-limit-2.false)
