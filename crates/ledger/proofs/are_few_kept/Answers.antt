use Rattle.std.proofs.Common.{◌∙◌, refl, sym, arith}
use Rattle.ledger.specs.Layout.{well_kept}
use Rattle.ledger.proofs.Walking.{step_begun, step_on_lem, step_late, step_odd, step_done}
use Rattle.ledger.proofs.are_few_kept.Goals as goal

pub loop-word-init : goal.loop-word-init
loop-word-init c = step_begun _ _ _

pub returns-then-before-age : goal.returns-then-before-age
unfolding well_kept
returns-then-before-age c =
    let late = step_late _ _ _ 0 c.loop-word.before c.loop-word.air c.loop-word.word-index c.loop-word.invariant
    c.loop-word-test.true (omega (arith, c.if-before-age.true, c.age_in-age.ensures.0)) in
    sym (rw late)

pub returns-then-not-lies_within : goal.returns-then-not-lies_within
unfolding well_kept
returns-then-not-lies_within c =
    let odd = step_odd _ _ _ 0 c.loop-word.before c.loop-word.air c.loop-word.word-index c.loop-word.invariant
    c.loop-word-test.true
    (rw (← c.ontime_in-ontime.ensures) (sym c.lies_within.ensures ∙ c.if-not-lies_within.true)) in
    sym (rw odd)

pub overflow_add-air : goal.overflow_add-air
overflow_add-air c = omega arith

pub loop-word-preserved : goal.loop-word-preserved
loop-word-preserved c =
    let g = c.age_in-age in
    let o = c.ontime_in-ontime in
    rw (g.ensures.0, o.ensures)
    (step_on_lem _ _ _ 0 c.loop-word.before c.loop-word.air c.loop-word.word-index c.loop-word.invariant
    c.loop-word-test.true refl (omega (arith, c.if-before-age.false, g.ensures.0))
    (rw (← o.ensures) (sym c.lies_within.ensures ∙ c.if-not-lies_within.false)))

pub returns : goal.returns
unfolding well_kept
returns c =
    let d = step_done _ _ _ 0 c.loop-word.before c.loop-word.air c.loop-word.word-index c.loop-word.invariant
    c.loop-word-test.false in
    sym (rw (d.0, d.1, c.from.ensures))
