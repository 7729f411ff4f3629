-- A refusal is handed on; that there is none is what the wait requires.
use Rattle.std.proofs.Common.{◌≡◌, sym, rules}
use Rattle.std.specs.Prelude.{Err}
use Rattle.cstack.specs.Answers.{wait_answer}
use Rattle.cstack.proofs.Numbers.{answer_refused}
use Rattle.cstack.proofs.judged_wait.Goals as goal

pub returns-in_err-check_wait : goal.returns-in_err-check_wait
unfolding wait_answer
returns-in_err-check_wait c =
    let e : c.from_residual.result ≡ Err c.in_err-check_wait.field-0.0 = search rules in
    rw e (answer_refused _ _ (λ n. record { refusal = n; wait = 0 }) c.in_err-check_wait.ensures)

pub wait_of-requires : goal.wait_of-requires
wait_of-requires c = sym c.in_ok-check_wait.ensures

pub returns : goal.returns
unfolding wait_answer
returns c = simp (sym c.in_ok-check_wait.ensures, c.wait_of.ensures)
