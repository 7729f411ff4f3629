-- The record is the poll's, which has no argument to refuse.
use Rattle.std.proofs.Common.{refl, rules}
use Rattle.rules.specs.Refusals.{first_of}
use Rattle.model.specs.Calls.{poll}
use Rattle.records.specs.Records.{calls}
use Rattle.records.specs.Writing.{record_of, argument_checks}
use Rattle.records.proofs.Writing.{placed}
use Rattle.records.proofs.writer.write_poll.Goals as goal

pub returns : goal.returns
unfolding record_of argument_checks first_of
returns c =
    let a = c.args in
    let w = c.write_record in
    placed a.log.now a.at (calls (poll a.stamp)) _ _ _ refl (search rules) w.ensures.number w.ensures.bytes
