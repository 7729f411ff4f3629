-- A refusal is handed on; where there is none, the answer is the profile's wanted level.
use Rattle.std.proofs.Common.{◌≡◌, sym, rules}
use Rattle.std.specs.Prelude.{Err}
use Rattle.cstack.specs.Answers.{wanted_answer}
use Rattle.cstack.proofs.Numbers.{answer_refused}
use Rattle.cstack.proofs.wanted_level.Goals as goal

pub returns-in_err-check_wanted : goal.returns-in_err-check_wanted
unfolding wanted_answer
returns-in_err-check_wanted c =
    let e : c.from_residual.result ≡ Err c.in_err-check_wanted.field-0.0 = search rules in
    rw e (answer_refused _ _ (λ n. record { refusal = n; level = 0 }) c.in_err-check_wanted.ensures)

pub returns : goal.returns
unfolding wanted_answer
returns c = simp (sym c.in_ok-check_wanted.ensures, c.wanted.ensures, c.reactive_of.ensures)
