-- The code's limits are the nearest doubles, by computing.
use mathlib.Core.Path.{◌≡◌}
use lib.Ieee.{of_bits, round}
use Rattle.floats.specs.Doubles.{compares_as}
use Rattle.floats.specs.Update.{is_duty, least_duty, most_duty}
use Rattle.floats.proofs.is_duty.Goals as goal

pub returns : goal.returns
unfolding is_duty of_bits round
returns c =
    let e : c.compares_as.result ≡ compares_as least_duty most_duty c.args.x = c.compares_as.ensures in
    e
