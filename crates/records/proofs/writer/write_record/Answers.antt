-- A place without room is refused. Elsewhere the record is put.
use Rattle.std.proofs.Common.{length, refl}
use Rattle.std.proofs.lemmas.Result.{err_from_is_err_and}
use Rattle.records.proofs.Writing.{room, kept}
use Rattle.records.proofs.writer.write_record.Goals as goal

pub returns-in_err-check_place : goal.returns-in_err-check_place
returns-in_err-check_place c =
    let a = c.args in
    let p = err_from_is_err_and c.from_residual.result c.from_residual.ensures.1 in
    rw (p.1, p.2) record { number = c.in_err-check_place.ensures; bytes = kept _ a.log.now a.at a.rec }

pub put_record-requires : goal.put_record-requires
put_record-requires c = room (length c.args.log.now) c.args.at 0 0 c.in_ok-check_place.ensures refl

pub returns : goal.returns
returns c = record { number = c.in_ok-check_place.ensures; bytes = c.put_record.ensures }
