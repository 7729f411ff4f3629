-- The part of the queue, changed and put back.
use lib.ListN.{drop}
use Rattle.waiting.specs.Layout.{rows}
use Rattle.waiting.proofs.Wholes.{part_tight, lent_short, put_back}
use Rattle.waiting.proofs.pop_from.Goals as goal

pub returns : goal.returns
returns c =
    let r = rows c.args.words.now c.args.came.now in
    put_back r c.requires.held c.args.k c.requires.k_bound (drop 1) _ c.pop.ensures

pub pop-requires-clause-packed : goal.pop-requires-clause-packed
pop-requires-clause-packed c =
    part_tight (rows c.args.words.now c.args.came.now) c.requires.held c.args.k c.requires.k_bound

pub pop-requires-clause-came_bound : goal.pop-requires-clause-came_bound
pop-requires-clause-came_bound c =
    lent_short (rows c.args.words.now c.args.came.now) c.requires.held c.args.k c.requires.k_bound
