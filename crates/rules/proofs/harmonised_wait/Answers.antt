-- In a calm channel the wait is the least. A factor of the table is at most 3,999, so its product with an on-time fits; and the
-- wait with the table is the wait with the formula.
use Rattle.std.proofs.Common.{◌≡◌, ℕ, ◌*◌, ◌≤◌, get_or, sym, ap, ◌∙◌, mul-le-mul, arith}
use Rattle.rules.specs.Duty.{held}
use Rattle.rules.specs.Harmonised.{per_mille}
use Rattle.rules.specs.Table.{factor_table, table_wait}
use Rattle.rules.proofs.Factors.{waits_calm}
use Rattle.rules.proofs.Tabled.{entry_le, place, waits_alike}
use Rattle.rules.proofs.harmonised_wait.Goals as goal

pub returns-then-c-le-CALM : goal.returns-then-c-le-CALM
returns-then-c-le-CALM c =
    let a = c.args in
    let calm : per_mille a.load ≤ 620 = omega (arith, c.if-c-le-CALM.true, c.per_mille-c.ensures) in
    sym (waits_calm a.ontime a.load calm)

pub factor-factor-requires : goal.factor-factor-requires
factor-factor-requires c = omega (arith, c.per_mille-c.ensures, place _ c.requires.1)

pub overflow_mul-factor : goal.overflow_mul-factor
overflow_mul-factor c =
    let e : c.per_mille-c.result ≤ 1000 = omega (arith, c.per_mille-c.ensures, place _ c.requires.1) in
    let f : c.factor-factor.result ≤ 3999 = omega (arith, c.factor-factor.ensures, entry_le c.per_mille-c.result e) in
    omega (
      arith,
      mul-le-mul {n₁ = c.factor-factor.result} {m₁ = c.args.ontime} {n₂ = 3999} {m₂ = 4000} f (omega (arith, c.requires.0)),
    )

pub returns : goal.returns
unfolding table_wait
returns c =
    let a = c.args in
    let factor : c.factor-factor.result ≡ get_or factor_table (per_mille a.load) 0 =
    c.factor-factor.ensures ∙ ap (λ (n : ℕ). get_or factor_table n 0) c.per_mille-c.ensures in
    let product : c.hold.result ≡ held 25000 1000000 (c.factor-factor.result * a.ontime) = c.hold.ensures in
    product
    ∙ ap (λ (f : ℕ). held 25000 1000000 (f * a.ontime)) factor
    ∙ waits_alike a.ontime a.load c.requires.1
