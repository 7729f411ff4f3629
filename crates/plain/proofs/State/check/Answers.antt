-- One check after the other.
use Rattle.std.proofs.Common.{sym, ◌∙◌}
use Rattle.std.proofs.lemmas.Result.{err_from_is_err_and}
use Rattle.checks.proofs.Engine.{sound_view}
use Rattle.plain.specs.Layout.{sound_state, entry_number}
use Rattle.plain.proofs.Views.{engine, known}
use Rattle.plain.proofs.State.check.Goals as goal

pub returns-then-not-judge-clause-exact : goal.returns-then-not-judge-clause-exact
unfolding entry_number
returns-then-not-judge-clause-exact c = sym (rw (sym c.judge.ensures.exact ∙ c.if-not-judge.true))

pub clock_after-requires : goal.clock_after-requires
unfolding sound_state
clock_after-requires c =
    let yes = c.if-not-judge.false in
    let e = c.judge.ensures in
    (known _ (e.tight yes, sound_view engine _ (sym e.exact ∙ yes))).groups.time

pub returns-in_err-clock_after-clause-exact : goal.returns-in_err-clock_after-clause-exact
unfolding entry_number
returns-in_err-clock_after-clause-exact c =
    let p = err_from_is_err_and c.from_residual.result c.from_residual.ensures.1 in
    rw (p.1, p.2) (c.in_err-clock_after.ensures.number ∙ sym (rw (sym c.judge.ensures.exact ∙ c.if-not-judge.false)))

pub returns-clause-exact : goal.returns-clause-exact
unfolding entry_number
returns-clause-exact c =
    c.in_ok-clock_after.ensures.number ∙ sym (rw (sym c.judge.ensures.exact ∙ c.if-not-judge.false))

pub returns-clause-tight : goal.returns-clause-tight
returns-clause-tight c = λ z. c.judge.ensures.tight c.if-not-judge.false
