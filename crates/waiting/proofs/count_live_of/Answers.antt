-- The part of the queue has its packets.
use mathlib.Core.Path.{ap, ◌∙◌}
use mathlib.Core.List.{List}
use lib.ListN.{length}
use Rattle.waiting.specs.declared.Cell.{Cell}
use Rattle.waiting.specs.Layout.{rows, alive}
use Rattle.waiting.proofs.Wholes.{lent_short, lent_items}
use Rattle.waiting.proofs.count_live_of.Goals as goal

pub returns : goal.returns
returns c =
    let r = rows c.args.words.now c.args.came.now in
    c.count_live.ensures
    ∙ ap (λ (q : List Cell). length (alive c.args.time q)) (lent_items r c.requires.held c.args.k c.requires.k_bound)

pub count_live-requires-clause-came_bound : goal.count_live-requires-clause-came_bound
count_live-requires-clause-came_bound c =
    lent_short (rows c.args.words.now c.args.came.now) c.requires.held c.args.k c.requires.k_bound
