-- One check after the other.
use mathlib.Core.Path.{sym, ◌∙◌, ap}
use Rattle.rules.specs.Clock.{passes_end, goes_back}
use Rattle.model.specs.declared.Clock.{Clock}
use Rattle.checks.specs.Checks.{clock_number}
use Rattle.checks.proofs.clock_after.Goals as goal

pub returns-then-goes_back-clause-number : goal.returns-then-goes_back-clause-number
unfolding clock_number
returns-then-goes_back-clause-number c =
    sym (rw (ap goes_back (sym c.step.ensures) ∙ sym c.goes_back.ensures ∙ c.if-goes_back.true))

pub returns-then-passes_end-clause-number : goal.returns-then-passes_end-clause-number
unfolding clock_number
returns-then-passes_end-clause-number c =
    let on = ap goes_back (sym c.step.ensures) ∙ sym c.goes_back.ensures in
    let past = ap (λ (k : Clock). passes_end k.time) (sym c.clock_at-clock.ensures) in
    sym (rw (on ∙ c.if-goes_back.false, past ∙ sym c.passes_end.ensures ∙ c.if-passes_end.true))

pub returns-clause-number : goal.returns-clause-number
unfolding clock_number
returns-clause-number c =
    let on = ap goes_back (sym c.step.ensures) ∙ sym c.goes_back.ensures in
    let past = ap (λ (k : Clock). passes_end k.time) (sym c.clock_at-clock.ensures) in
    sym (rw (on ∙ c.if-goes_back.false, past ∙ sym c.passes_end.ensures ∙ c.if-passes_end.false))
