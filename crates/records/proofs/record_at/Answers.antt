-- A whole record stands at a place from which 16 bytes lie in the log; elsewhere all is zero.
use Rattle.std.proofs.Common.{sym, ◌∙◌}
use Rattle.records.specs.Records.{two_at, four_at, record_at, whole_record_at}
use Rattle.records.proofs.record_at.Goals as goal

pub returns-then-not-has_record : goal.returns-then-not-has_record
unfolding whole_record_at record_at two_at four_at
returns-then-not-has_record c =
    let zero = c.default.ensures in
    rw (sym c.has_record.ensures ∙ c.if-not-has_record.true)
    (λ i. record {
      kind = zero.0 i;
      priority = zero.1.0 i;
      ontime = zero.1.1.0 i;
      lifetime = zero.1.1.1.0 i;
      id = zero.1.1.1.1.0 i;
      stamp = zero.1.1.1.1.1 i;
    })

pub returns : goal.returns
unfolding whole_record_at
returns c = rw (sym c.has_record.ensures ∙ c.if-not-has_record.false) c.read_record.ensures
