-- The room is a record's.
use Rattle.std.proofs.Common.{sym, ◌∙◌, arith}
use borrow.Author.Tests.{leb-true, leb-false}
use Rattle.records.proofs.Writing.{place_refused, place_passed}
use Rattle.records.proofs.writer.check_place.Goals as goal

pub returns-then-not-has_record : goal.returns-then-not-has_record
returns-then-not-has_record c =
    let a = c.args in
    sym (place_refused a.bytes a.at (omega (arith, leb-false _ _ (sym c.has_record.ensures ∙ c.if-not-has_record.true))))

pub returns : goal.returns
returns c =
    let a = c.args in
    sym (place_passed a.bytes a.at (omega (arith, leb-true _ _ (sym c.has_record.ensures ∙ c.if-not-has_record.false))))
