-- The record is the offer's, and the refusal that of its arguments.
use Rattle.std.proofs.Common.{refl}
use Rattle.std.proofs.lemmas.Result.{err_from_is_err_and}
use Rattle.model.specs.Calls.{offer}
use Rattle.records.specs.Records.{calls}
use Rattle.records.specs.Writing.{record_of, argument_checks}
use Rattle.records.proofs.Writing.{refused, placed}
use Rattle.records.proofs.writer.write_offer.Goals as goal

pub returns-in_err-check_offer : goal.returns-in_err-check_offer
unfolding argument_checks
returns-in_err-check_offer c =
    let a = c.args in
    let p = err_from_is_err_and c.from_residual.result c.from_residual.ensures.1 in
    rw (p.1, p.2) (refused a.log.now a.at (calls (offer a.stamp a.o)) _ c.in_err-check_offer.ensures)

pub returns : goal.returns
unfolding record_of argument_checks
returns c =
    let a = c.args in
    let w = c.write_record in
    placed a.log.now a.at (calls (offer a.stamp a.o)) _ _ _
    c.in_ok-check_offer.ensures refl w.ensures.number w.ensures.bytes
