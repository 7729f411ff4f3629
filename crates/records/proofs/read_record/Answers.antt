-- Each field is read at its place.
use Rattle.records.specs.Records.{record_at}
use Rattle.records.proofs.read_record.Goals as goal

pub returns : goal.returns
unfolding record_at
returns c =
    rw (
      c.from-kind.ensures,
      c.from-priority.ensures,
      c.two_bytes-ontime.ensures,
      c.four_bytes-lifetime.ensures,
      c.four_bytes-id.ensures,
      c.four_bytes-stamp.ensures,
    )
