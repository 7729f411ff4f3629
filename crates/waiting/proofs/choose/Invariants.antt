-- Nothing was found before queue k, and in it before place i.
use Prim.Native.Nat.{◌<◌}
use mathlib.Core.Path.{◌≡◌}
use Rattle.std.proofs.Common.{None}
use Rattle.waiting.specs.Layout.{rows, len_in}
use Rattle.waiting.proofs.Wholes.{lent_rows}
use Rattle.waiting.proofs.Searching.{Sought, SoughtIn}
use Rattle.waiting.proofs.choose.Given as goal

abbrev pub invariant-loop-i : goal.invariant-loop-i
invariant-loop-i l =
    (l.found ≡ None) × (l.k < 4) × (l.n ≡ len_in (lent_rows l.k (rows l.words l.came)))
    × SoughtIn l.time (rows l.words l.came) l.k l.i

abbrev pub invariant-search : goal.invariant-search
invariant-search l = (l.found ≡ None) × Sought l.time (rows l.words l.came) l.k
