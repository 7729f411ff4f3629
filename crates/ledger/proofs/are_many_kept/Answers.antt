use Rattle.std.proofs.Common.{sym, arith, eq-eqb}
use borrow.Author.Tests.{ne_eqb}
use Rattle.ledger.specs.Layout.{well_kept}
use Rattle.ledger.proofs.Walking.{step_begun, step_next, step_done}
use Rattle.ledger.proofs.are_many_kept.Goals as goal

pub loop-word-init : goal.loop-word-init
loop-word-init c = step_begun _ _ _

pub overflow_add-air : goal.overflow_add-air
overflow_add-air c = omega arith

pub loop-word-preserved : goal.loop-word-preserved
loop-word-preserved c =
    let g = c.age_in-age in
    let o = c.ontime_in-ontime in
    rw (g.ensures.0, o.ensures)
    (step_next _ _ _ c.loop-word.bits c.loop-word.before c.loop-word.air c.loop-word.word-index c.loop-word.invariant
    c.loop-word-test.true c.above.result c.above-in-loop-word.result c.above-in-loop-word-2.result
    (rw (← g.ensures.0) c.above.ensures) (rw (← o.ensures) c.above-in-loop-word.ensures)
    (rw (← o.ensures) c.above-in-loop-word-2.ensures))

pub returns-then-bits-eq0 : goal.returns-then-bits-eq0
unfolding well_kept
returns-then-bits-eq0 c =
    let d = step_done _ _ _ c.loop-word.bits c.loop-word.before c.loop-word.air c.loop-word.word-index c.loop-word.invariant
    c.loop-word-test.false in
    sym (rw (d.0, d.1, eq-eqb c.loop-word.bits 0 c.if-bits-eq0.true, c.from.ensures))

pub returns-else-bits-eq0 : goal.returns-else-bits-eq0
unfolding well_kept
returns-else-bits-eq0 c =
    let d = step_done _ _ _ c.loop-word.bits c.loop-word.before c.loop-word.air c.loop-word.word-index c.loop-word.invariant
    c.loop-word-test.false in
    sym (rw (d.0, ne_eqb c.loop-word.bits 0 c.if-bits-eq0.false))
