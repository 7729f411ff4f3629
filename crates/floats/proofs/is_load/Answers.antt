-- The code's limits are the nearest doubles, by computing.
use mathlib.Core.Path.{◌≡◌}
use lib.Ieee.{of_bits, round}
use Rattle.floats.specs.Doubles.{compares_as}
use Rattle.floats.specs.Update.{is_load, zero64, one}
use Rattle.floats.proofs.is_load.Goals as goal

pub returns : goal.returns
unfolding is_load of_bits round
returns c =
    let e : c.compares_as.result ≡ compares_as zero64 one c.args.x = c.compares_as.ensures in
    e
