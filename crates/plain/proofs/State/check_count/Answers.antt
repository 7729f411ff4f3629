-- The checks of every call, then its own.
use Rattle.std.proofs.Common.{[], ◌∷◌, sym, ◌∙◌}
use Rattle.std.proofs.lemmas.Result.{err_from_is_err_and}
use Rattle.rules.specs.Samples.{bad_count}
use Rattle.rules.specs.Refusals.{check, first_of}
use Rattle.rules.proofs.Refusals.{some_number}
use Rattle.plain.proofs.Entry.{entry_first, entry_before}
use Rattle.plain.proofs.State.check_count.Goals as goal

pub returns-in_err-check-clause-exact : goal.returns-in_err-check-clause-exact
returns-in_err-check-clause-exact c =
    let p = err_from_is_err_and c.from_residual.result c.from_residual.ensures.1 in
    rw (p.1, p.2) (entry_before c.args.self.now c.args.stamp _ _ (some_number _) c.in_err-check.ensures.exact)

pub returns-then-is_bad_count-clause-exact : goal.returns-then-is_bad_count-clause-exact
unfolding first_of
returns-then-is_bad_count-clause-exact c =
    let a = c.args in
    sym (entry_first a.self.now a.stamp (check 4 (bad_count a.busy a.probes) ∷ []) c.in_ok-check.ensures.exact
    ∙ rw (sym c.is_bad_count.ensures ∙ c.if-is_bad_count.true))

pub returns-clause-exact : goal.returns-clause-exact
unfolding first_of
returns-clause-exact c =
    let a = c.args in
    sym (entry_first a.self.now a.stamp (check 4 (bad_count a.busy a.probes) ∷ []) c.in_ok-check.ensures.exact
    ∙ rw (sym c.is_bad_count.ensures ∙ c.if-is_bad_count.false))
