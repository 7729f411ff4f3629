-- Up is at most down, and the level is held between them.
use Rattle.std.proofs.Common.{◌≡◌, ◌∙◌, ap, take, arith}
use Rattle.machine.specs.Levels.{listed}
use Rattle.machine.specs.Moves.{highest, up_of, down_of, level_after}
use Rattle.machine.proofs.Bounds.{up_down}
use Rattle.machine.proofs.level_after.Goals as goal

pub returns : goal.returns
unfolding level_after
returns c =
    let ts = listed c.args.n c.args.above.now in
    let xs = take c.args.held c.args.slots.now in
    let up : c.highest_reached-up.result ≡ up_of ts xs =
    c.highest_reached-up.ensures ∙ ap (highest ts) c.low.ensures in
    let down : c.highest_reached-down.result ≡ down_of ts xs =
    c.highest_reached-down.ensures ∙ ap (highest ts) c.high.ensures in
    omega (arith, up_down ts xs)
