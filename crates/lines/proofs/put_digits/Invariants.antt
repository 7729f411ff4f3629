-- The loop keeps: the digits of what is left, before a text that is put already, are the number's.
use Prim.Native.Nat.{ℕ, ◌+◌, ◌≤◌}
use mathlib.Core.Path.{◌≡◌}
use mathlib.Core.List.{List, ◌++◌}
use lib.ListN.{length}
use Rattle.io.specs.Digits.{last_digits}
use Rattle.records.specs.Buffers.{written}
use Rattle.lines.proofs.put_digits.Given as goal

abbrev pub invariant-loop-i : goal.invariant-loop-i
invariant-loop-i l =
    (l.i ≤ l.k) × (length l.out ≡ length l.initial.out) × (text : List ℕ)
    × (last_digits 10 l.k l.n ≡ last_digits 10 l.i l.rest ++ text)
    × (l.out ≡ written l.initial.out (l.at + l.i) text)

abbrev pub decreases-loop-i : goal.decreases-loop-i
decreases-loop-i l = l.i
