-- Make's outcome is the model's, laid out, and so every run from it is the gate's.
use Rattle.std.proofs.Common.{◌≡◌, sym, ◌∙◌, ne_eqb}
use mathlib.Core.Path.{subst⁻¹}
use Rattle.model.specs.Calls.{Making, making_of}
use Rattle.model.specs.Gate.{make_in}
use Rattle.rules.proofs.Refusals.{some_number}
use Rattle.plain.specs.declared.Outcome.{Outcome}
use Rattle.plain.specs.Layout.{make_state}
use Rattle.plain.specs.Runs.{Agrees}
use Rattle.plain.proofs.Runs.{make_agrees}
use Rattle.plain.proofs.make.Goals as goal

both-clauses : (o : Outcome) (m : Making) → o ≡ make_state m → (o ≡ make_state m) × Agrees o m
both-clauses o m e = (e, subst⁻¹ (λ (x : Outcome). Agrees x m) e (make_agrees m))

pub returns-in-Err : goal.returns-in-Err
unfolding make_state make_in
returns-in-Err c =
    let a = c.args in
    let m = making_of a.profile a.oldway a.list a.stamp in
    let e = c.in-Err.ensures in
    let all = both-clauses _ m (c.refused_make.ensures ∙ sym (rw (sym e, ne_eqb _ 0 (some_number c.in-Err.refusal)))) in
    record { exact = all.0; same = all.1 }

pub returns : goal.returns
unfolding make_state make_in
returns c =
    let a = c.args in
    let m = making_of a.profile a.oldway a.list a.stamp in
    let e = c.in_default.ensures in
    let all = both-clauses _ m
    (rw (c.blank_state-state.ensures, c.fresh-tuning.ensures, c.list_kept-levels.ensures, sym e)) in
    record { exact = all.0; same = all.1 }
