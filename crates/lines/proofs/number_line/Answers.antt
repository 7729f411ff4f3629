-- Four texts put one after the other.
use Prim.Native.Nat.{◌≤◌}
use native.Mathlib.Omega.{arith}
use lib.ListN.{length}
use Rattle.records.proofs.Buffers.{next}
use Rattle.lines.proofs.Decimal.{decimal-le}
use Rattle.lines.proofs.number_line.Goals as goal

pub put-requires : goal.put-requires
put-requires c =
    omega (arith, decimal-le c.args.n, c.put_decimal-end, c.put-number, c.put-space, c)

pub returns : goal.returns
returns c =
    let h : c.args.at ≤ length c.args.out.now = omega (arith, c.requires) in
    let space = next h c.put-space.ensures c.put-number.ensures in
    let number = next h space c.put_decimal-end.ensures in
    next h number c.put.ensures
