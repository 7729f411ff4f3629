-- The sum is the definition.
use Rattle.std.proofs.Common.{arith}
use Rattle.records.specs.Records.{four_at}
use Rattle.records.proofs.four_bytes.Goals as goal

pub returns : goal.returns
unfolding four_at
returns c = omega (arith, c.from_le_bytes.ensures)
