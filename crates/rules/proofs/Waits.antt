-- Each rule's wait lies within its profile's limits: a reactive profile's five waits are judged one by one, the adaptive wait is
-- held. And the adaptive wait spaces the on-time: it is a quotient rounded up by a duty of at most 3 %, so it reaches 100 / 3 of
-- the on-time, or it is held at the longest wait, which does too.
use Rattle.std.proofs.Common.{ℕ, ◌*◌, ◌<◌, ◌≤◌, mul-le-mul_left, arith}
use Rattle.rules.specs.declared.Limits.{Limits}
use Rattle.rules.specs.declared.Reactive.{Reactive}
use Rattle.rules.specs.Profiles.{profile1, profile2, profile3}
use Rattle.rules.specs.Levels.{wait_by}
use Rattle.rules.specs.Wait.{ceil_div, whole_duty, adaptive_wait}
use Rattle.rules.proofs.Levels.{of_level}
use Rattle.rules.proofs.Ceiling.{ceil_reaches}

abbrev pub Within : Limits → ℕ → Type 0
Within l wait = (l.leastwait ≤ wait) × (wait ≤ l.mostwait)

-- a reactive profile's five waits
abbrev WaitsWithin : Reactive → Type 0
WaitsWithin t =
    Within t.limits t.wait0
    × Within t.limits t.wait1
    × Within t.limits t.wait2
    × Within t.limits t.wait3
    × Within t.limits t.wait4

reactive_within : (t : Reactive) (level : ℕ) → WaitsWithin t → Within t.limits (wait_by t level)
reactive_within t level w = of_level (Within t.limits) t level w.0 w.1 w.2 w.3 w.4

pub within1 : (level : ℕ) → Within profile1.limits (wait_by profile1 level)
within1 level =
    reactive_within profile1 level (
      (omega arith, omega arith),
      (omega arith, omega arith),
      (omega arith, omega arith),
      (omega arith, omega arith),
      (omega arith, omega arith),
    )

pub within2 : (level : ℕ) → Within profile2.limits (wait_by profile2 level)
within2 level =
    reactive_within profile2 level (
      (omega arith, omega arith),
      (omega arith, omega arith),
      (omega arith, omega arith),
      (omega arith, omega arith),
      (omega arith, omega arith),
    )

pub within3 : (ontime duty : ℕ) → Within profile3.limits (adaptive_wait profile3.limits ontime duty)
unfolding adaptive_wait
within3 ontime duty = (omega arith, omega arith)

-- the adaptive wait spaces an on-time, at a duty of at most 3 % and a longest wait that spaces the longest on-time
pub adaptive_spaced : (l : Limits) (ontime duty : ℕ) → 100 * l.ontime ≤ 3 * l.mostwait → 0 < duty
    → 100 * duty ≤ 3 * whole_duty → ontime ≤ l.ontime → 100 * ontime ≤ 3 * adaptive_wait l ontime duty
unfolding adaptive_wait
adaptive_spaced l ontime duty most some rate o =
    let d : duty ≤ 30000000 = omega arith in
    omega (arith, ceil_reaches (ontime * whole_duty) duty some, mul-le-mul_left (ceil_div (ontime * whole_duty) duty) d)
