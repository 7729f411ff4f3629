-- The code's operations are the definition's, in its order; the code's constants are the nearest doubles, by computing.
use mathlib.Core.Path.{refl}
use lib.Ieee.{of_bits, round}
use Rattle.floats.specs.Update.{smoothed_of}
use Rattle.floats.proofs.smooth.Goals as goal

pub returns : goal.returns
unfolding smoothed_of of_bits round
returns c = refl
