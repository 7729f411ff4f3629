-- On-time over duty is at or below the least wait, at or above the longest, or strictly between: the laws of held quotients,
-- one each. What the division requires is written out so that a boundary that is off fails by a number.
use Rattle.std.proofs.Common.{◌*◌, sym, ◌∙◌, arith}
use Rattle.rules.specs.Wait.{adaptive_wait}
use Rattle.rules.proofs.Ceiling.{held_low, held_between, held_high}
use Rattle.rules.proofs.adaptive_wait.Goals as goal

pub returns-then-spread-d : goal.returns-then-spread-d
unfolding adaptive_wait
returns-then-spread-d c =
    let a = c.args in
    sym (held_low 25000 1000000 (a.ontime * 1000000000) a.duty (omega arith) (omega (arith, c.requires))
    (omega (arith, c.if-spread-d.true)))

pub returns-then-d-spread : goal.returns-then-d-spread
unfolding adaptive_wait
returns-then-d-spread c =
    sym (held_high 25000 1000000 (c.args.ontime * 1000000000) c.args.duty (omega arith) (omega (arith, c.requires))
    (omega (arith, c.if-d-spread.true)))

pub divided_wait-requires : goal.divided_wait-requires
divided_wait-requires c = record {
  duty_bound = omega (arith, c.if-spread-d.false);
  spread_bound = omega (arith, c.if-d-spread.false);
}

pub returns : goal.returns
unfolding adaptive_wait
returns c =
    c.divided_wait.ensures
    ∙ sym (held_between 25000 1000000 (c.args.ontime * 1000000000) c.args.duty (omega (arith, c.requires))
    c.if-spread-d.false c.if-d-spread.false)
