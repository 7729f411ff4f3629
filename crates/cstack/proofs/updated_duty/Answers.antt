-- A refusal is handed on; where there is none, what was judged allows the two leaves to be called, and the answer is theirs.
use Rattle.std.proofs.Common.{◌≡◌, sym, rules}
use Rattle.std.specs.Prelude.{Err}
use Rattle.cstack.specs.Answers.{update_answer}
use Rattle.cstack.proofs.Judged.{update_judged}
use Rattle.cstack.proofs.Numbers.{answer_refused}
use Rattle.cstack.proofs.updated_duty.Goals as goal

pub returns-in_err-check_update : goal.returns-in_err-check_update
unfolding update_answer
returns-in_err-check_update c =
    let e : c.from_residual.result ≡ Err c.in_err-check_update.field-0.0 = search rules in
    rw e (answer_refused _ _ (λ n. record { refusal = n; smoothed = 0; duty = 0 }) c.in_err-check_update.ensures)

pub smooth-next-requires : goal.smooth-next-requires
smooth-next-requires c = (update_judged _ (sym c.in_ok-check_update.ensures)).loads

pub next_duty-requires : goal.next_duty-requires
next_duty-requires c =
    let judged = update_judged _ (sym c.in_ok-check_update.ensures) in
    (judged.duty.0, (judged.duty.1, c.smooth-next.ensures.1))

pub returns : goal.returns
unfolding update_answer
returns c = simp (sym c.in_ok-check_update.ensures, c.next_duty.ensures, c.smooth-next.ensures.0)
