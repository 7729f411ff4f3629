-- As many digits as the number has are its decimal digits.
use Prim.Native.Nat.{◌+◌}
use mathlib.Core.Path.{◌≡◌, sym, ap, ◌∙◌}
use native.Mathlib.Omega.{arith}
use lib.ListN.{length}
use Rattle.io.specs.Digits.{last_digits}
use Rattle.records.specs.Buffers.{written}
use Rattle.lines.specs.Lines.{decimal}
use Rattle.lines.proofs.Decimal.{at_most_20, decimal_is, length_digits}
use Rattle.lines.proofs.put_decimal.Goals as goal

pub put_digits-requires : goal.put_digits-requires
put_digits-requires c =
    omega (arith, c.requires, at_most_20 c.places-k.result c.args.n c.places-k.ensures c.ranges.n.fits)

pub overflow_add-result : goal.overflow_add-result
overflow_add-result c =
    let p = c.places-k in
    omega (
      arith,
      c.requires,
      c,
      at_most_20 p.result c.args.n p.ensures c.ranges.n.fits,
    )

pub returns : goal.returns
returns c =
    let p = c.places-k in
    let e : last_digits 10 p.result c.args.n ≡ decimal c.args.n =
    decimal_is p.result c.args.n p.ensures c.ranges.n.fits in
    record {
      place = ap (λ k. c.args.at + k) (sym (length_digits p.result c.args.n) ∙ ap length e);
      bytes = c.put_digits.ensures ∙ ap (written c.args.out.now c.args.at) e;
    }
