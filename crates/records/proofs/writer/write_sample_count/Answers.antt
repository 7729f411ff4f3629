-- The record is the sample's, whose counts of 32 bits are not too wide; no probes are refused.
use Rattle.std.proofs.Common.{ℕ, ◌≡◌, ◌<◌, sym, ◌∙◌, cond, eqb, arith}
use Rattle.std.proofs.lemmas.Result.{err_from_is_err_and}
use borrow.Author.Tests.{lt-leb}
use Rattle.rules.specs.Refusals.{first_of}
use Rattle.model.specs.Calls.{count}
use Rattle.records.specs.Records.{calls}
use Rattle.records.specs.Writing.{count_widths, record_of, argument_checks}
use Rattle.records.proofs.Writing.{refused, placed}
use Rattle.records.proofs.writer.write_sample_count.Goals as goal

narrow_counts :
    (busy probes : ℕ) → busy < 4294967296 → probes < 4294967296
    → first_of (count_widths busy probes) ≡ cond (eqb probes 0) 4 0
unfolding first_of
narrow_counts busy probes b p = simp (lt-leb 4294967296 busy b, lt-leb 4294967296 probes p)

pub returns-in_err-check_count : goal.returns-in_err-check_count
unfolding argument_checks
returns-in_err-check_count c =
    let a = c.args in
    let p = err_from_is_err_and c.from_residual.result c.from_residual.ensures.1 in
    rw (p.1, p.2)
    (refused a.log.now a.at (calls (count a.stamp a.busy a.probes)) _
    (c.in_err-check_count.ensures ∙ sym (narrow_counts a.busy a.probes (omega arith) (omega arith))))

pub returns : goal.returns
unfolding record_of argument_checks
returns c =
    let a = c.args in
    let w = c.write_record in
    placed a.log.now a.at (calls (count a.stamp a.busy a.probes)) _ _ _
    (c.in_ok-check_count.ensures ∙ sym (narrow_counts a.busy a.probes (omega arith) (omega arith)))
    c.sample_record.ensures w.ensures.number w.ensures.bytes
