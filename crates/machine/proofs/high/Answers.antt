-- The last 50 are a part of the array.
use mathlib.Core.Path.{ap, ◌∙◌}
use Rattle.machine.specs.Moves.{greatest_of, high_of}
use Rattle.machine.proofs.Parts.{last_part}
use Rattle.machine.proofs.high.Goals as goal

pub returns : goal.returns
unfolding high_of
returns c =
    c.greatest.ensures
    ∙ ap greatest_of (rw (c.saturating_sub.ensures, c.min-m.ensures) (last_part 50 c.args.n c.args.slots.now))
