-- The quotient is the definition; a mean of numbers up to 1,000,000 is none above it.
use Rattle.std.proofs.Common.{refl, arith}
use Rattle.rules.specs.Duty.{smoothed_of}
use Rattle.rules.proofs.smooth.Goals as goal

pub returns : goal.returns
unfolding smoothed_of
returns c = (refl, omega arith)
