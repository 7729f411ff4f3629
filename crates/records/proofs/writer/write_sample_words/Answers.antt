-- A good sample's record is that of its busy count; a bad one is refused.
use Rattle.std.proofs.Common.{ℕ, ◌≡◌, refl, sym, ap, ◌∙◌, Err}
use Rattle.std.proofs.lemmas.Result.{err_from_is_err_and}
use Rattle.rules.specs.declared.refusal.Refusal.TheVariants.{BadSample}
use Rattle.rules.specs.Refusals.{first_of}
use Rattle.model.specs.Calls.{words}
use Rattle.model.proofs.Sampling.{read_good, read_bad}
use Rattle.records.specs.Records.{calls}
use Rattle.records.specs.Writing.{sample_record, record_of, argument_checks}
use Rattle.records.proofs.Writing.{refused, placed}
use Rattle.records.proofs.writer.write_sample_words.Goals as goal

pub returns-in_err-busy : goal.returns-in_err-busy
unfolding argument_checks first_of
returns-in_err-busy c =
    let a = c.args in
    let bad = read_bad a.probes a.ws.now (sym c.read_sample.ensures ∙ c.in_err-busy.ensures.ok_part) in
    let e : Err BadSample ≡ Err c.in_err-busy.field-0.0 =
    sym (c.in_err-busy.ensures.value ∙ rw c.in_err-busy.ensures.ok_part refl) in
    let p = err_from_is_err_and c.from_residual.result c.from_residual.ensures.1 in
    let r : BadSample ≡ c.in_err-busy.field-0.0 = cc in
    rw (p.1, p.2, ← r) (refused a.log.now a.at (calls (words a.stamp a.probes a.ws.now)) BadSample (simp bad))

pub returns : goal.returns
unfolding record_of argument_checks first_of
returns c =
    let a = c.args in
    let w = c.write_record in
    let good = read_good a.probes a.ws.now c.in_ok-busy.busy (sym c.read_sample.ensures ∙ c.in_ok-busy.ensures.ok_part) in
    placed a.log.now a.at (calls (words a.stamp a.probes a.ws.now)) _ _ _
    (simp good.0)
    (c.sample_record.ensures ∙ ap (λ (busy : ℕ). sample_record a.stamp busy a.probes) (sym good.1))
    w.ensures.number w.ensures.bytes
