-- A difference that wraps is the stamp's step modulo 2^32.
use Rattle.std.proofs.Common.{arith}
use Rattle.rules.specs.Clock.{step_of}
use Rattle.rules.proofs.step.Goals as goal

pub returns : goal.returns
unfolding step_of
returns c = omega arith
