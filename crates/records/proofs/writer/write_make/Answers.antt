-- The record is the make's, and the refusal that of its arguments.
use Rattle.std.proofs.Common.{rules}
use Rattle.std.proofs.lemmas.Result.{err_from_is_err_and}
use Rattle.machine.specs.Levels.{no_levels}
use Rattle.model.specs.Calls.{making_of}
use Rattle.records.specs.Records.{makes}
use Rattle.records.specs.Writing.{record_of, argument_checks}
use Rattle.records.proofs.Writing.{refused, placed}
use Rattle.records.proofs.writer.write_make.Goals as goal

pub returns-in_err-check_make : goal.returns-in_err-check_make
unfolding argument_checks
returns-in_err-check_make c =
    let a = c.args in
    let p = err_from_is_err_and c.from_residual.result c.from_residual.ensures.1 in
    rw (p.1, p.2)
    (refused a.log.now a.at (makes (making_of a.profile a.oldway no_levels a.stamp)) _ c.in_err-check_make.ensures)

pub returns : goal.returns
unfolding record_of argument_checks
returns c =
    let a = c.args in
    let w = c.write_record in
    placed a.log.now a.at (makes (making_of a.profile a.oldway no_levels a.stamp)) _ _ _
    c.in_ok-check_make.ensures (search rules) w.ensures.number w.ensures.bytes
