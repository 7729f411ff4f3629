-- A quotient by 5 with 4 added is rounded up. It is written out so that another rounding fails by a number.
use Rattle.std.proofs.Common.{arith}
use Rattle.rules.proofs.scaled_load.Goals as goal

pub returns : goal.returns
returns c = (omega arith, omega arith)
