-- The product held by both limits is the offset; the constants are the nearest doubles, by computing.
use mathlib.Core.Path.{◌≡◌, ◌∙◌}
use lib.Ieee.{Float, of_bits, round, neg}
use Rattle.floats.specs.Doubles.{minus, times, held_within}
use Rattle.floats.specs.Update.{target, gain, most_up, most_down}
use Rattle.floats.proofs.Signs.{by_both}
use Rattle.floats.proofs.offset.Goals as goal

abbrev product : Float → Float
product smoothed = times (minus target smoothed) gain

pub returns : goal.returns
unfolding of_bits round neg
returns c =
    let s = c.args.smoothed in
    let e : c.hold.result ≡ held_within most_down most_up (product s) = c.hold.ensures in
    e ∙ by_both s
