-- A quotient rounded up.
use Rattle.std.proofs.Common.{arith}
use Rattle.rules.specs.Harmonised.{per_mille}
use Rattle.rules.proofs.per_mille.Goals as goal

pub returns : goal.returns
unfolding per_mille
returns c = omega arith
