-- Each field is put at its place.
use Rattle.std.proofs.Common.{arith}
use Rattle.records.proofs.Writing.{fields}
use Rattle.records.proofs.writer.put_record.Goals as goal

pub returns : goal.returns
returns c =
    let a = c.args in
    fields a.log.now _ _ _ _ _ _ a.at a.rec (omega arith)
    c.put.ensures
    c.put-2.ensures
    c.put-3.ensures
    c.put-4.ensures
    c.put-5.ensures
    c.put-6.ensures
