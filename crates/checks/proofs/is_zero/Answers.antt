-- All numbers' bits together are zero only where each number is: how they are grouped is nothing to the answer.
use mathlib.Core.Path.{◌≡◌, refl}
use mathlib.Core.Bool.{Bool, true, false, ◌&&◌}
use lib.Bits.{bit_or}
use lib.Dec.{eqb}
use Rattle.packing.proofs.Zeros.{or-none}
use Rattle.checks.proofs.is_zero.Goals as goal

regroup : (a b v w u : Bool) → ((((a && b) && v) && w) && u) ≡ (a && (b && (v && (w && (u && true)))))
regroup false b v w u = refl
regroup true false v w u = refl
regroup true true false w u = refl
regroup true true true false u = refl
regroup true true true true false = refl
regroup true true true true true = refl

pub returns : goal.returns
returns c =
    let p = c.args.p in
    let two = bit_or p.id p.priority in
    let three = bit_or two p.ontime in
    rw (
      c.from.ensures,
      or-none (bit_or three p.lifetime) p.arrival,
      or-none three p.lifetime,
      or-none two p.ontime,
      or-none p.id p.priority,
    )
    (regroup (eqb p.id 0) (eqb p.priority 0) (eqb p.ontime 0) (eqb p.lifetime 0) (eqb p.arrival 0))
