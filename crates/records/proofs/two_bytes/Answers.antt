-- The sum is the definition.
use Rattle.std.proofs.Common.{arith}
use Rattle.records.specs.Records.{two_at}
use Rattle.records.proofs.two_bytes.Goals as goal

pub returns : goal.returns
unfolding two_at
returns c = omega (arith, c.from.ensures, c.from_le_bytes.ensures)
