-- All are live where each place is.
use Rattle.std.proofs.Common.{rules}
use Rattle.std.proofs.iter.runs.Sources.{ranges}
use Rattle.waiting.specs.Layout.{rows}
use Rattle.waiting.proofs.Keeping.{all_live}
use Rattle.waiting.proofs.are_live.Goals as goal

pub returns : goal.returns
returns c =
    all_live c.args.time (rows c.args.words.now c.args.came.now) c.requires.sized c.requires.came_bound c.all.result
    (search (rules, ranges)) (search (rules, ranges))
