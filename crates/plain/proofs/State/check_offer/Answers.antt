-- The checks of every call, then its own.
use Rattle.std.proofs.Common.{sym, ◌∙◌}
use Rattle.std.proofs.lemmas.Result.{err_from_is_err_and}
use Rattle.rules.proofs.Refusals.{some_number}
use Rattle.plain.proofs.Entry.{entry_first, entry_before}
use Rattle.plain.proofs.State.check_offer.Goals as goal

pub returns-in_err-check-clause-exact : goal.returns-in_err-check-clause-exact
returns-in_err-check-clause-exact c =
    let p = err_from_is_err_and c.from_residual.result c.from_residual.ensures.1 in
    rw (p.1, p.2) (entry_before c.args.self.now c.args.stamp _ _ (some_number _) c.in_err-check.ensures.exact)

pub returns-clause-exact : goal.returns-clause-exact
returns-clause-exact c =
    c.check_offer.ensures ∙ sym (entry_first c.args.self.now c.args.stamp _ c.in_ok-check.ensures.exact)
