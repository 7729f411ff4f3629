-- The loop keeps: the limit is the power of ten with k zeros, and k - 1 digits do not hold the number.
use Prim.Native.Nat.{◌-◌, ◌^◌, ◌≤◌, ◌<◌}
use mathlib.Core.Path.{◌≡◌}
use Rattle.lines.proofs.places.Given as goal

abbrev pub invariant-loop-k : goal.invariant-loop-k
invariant-loop-k l = (1 ≤ l.k) × (l.k ≤ 19) × (l.limit ≡ 10 ^ l.k) × (1 < l.k → 10 ^ (l.k - 1) ≤ l.n)

abbrev pub decreases-loop-k : goal.decreases-loop-k
decreases-loop-k l = 19 - l.k
