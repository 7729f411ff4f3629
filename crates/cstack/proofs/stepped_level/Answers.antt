-- A refusal is handed on; where there is none, what was judged bounds the level, and the answer is one step towards the wanted
-- one.
use Rattle.std.proofs.Common.{◌≡◌, sym, rules}
use Rattle.std.specs.Prelude.{Err}
use Rattle.cstack.specs.Answers.{step_answer}
use Rattle.cstack.proofs.Judged.{step_judged}
use Rattle.cstack.proofs.Numbers.{answer_refused}
use Rattle.cstack.proofs.stepped_level.Goals as goal

pub returns-in_err-check_step : goal.returns-in_err-check_step
unfolding step_answer
returns-in_err-check_step c =
    let e : c.from_residual.result ≡ Err c.in_err-check_step.field-0.0 = search rules in
    rw e (answer_refused _ _ (λ n. record { refusal = n; level = 0 }) c.in_err-check_step.ensures)

pub level_step-requires : goal.level_step-requires
level_step-requires c = let a = c.args in step_judged a.profile a.load a.level (sym c.in_ok-check_step.ensures)

pub returns : goal.returns
unfolding step_answer
returns c =
    simp (sym c.in_ok-check_step.ensures, c.level_step.ensures, c.wanted-wanted.ensures, c.reactive_of.ensures)
