-- The live ones of the places are those of the packets.
use mathlib.Core.Path.{◌∙◌}
use Rattle.std.proofs.Common.{rules, tests, arith}
use Rattle.std.proofs.lemmas.Iterator.{YieldsList-from_range}
use Rattle.std.proofs.lemmas.Iterator.Consumers.{YieldsList-at, YieldsList-from_filter, count_from_yields_List}
use Rattle.waiting.specs.Layout.{rows, cell_at, len_in, is_live}
use Rattle.waiting.proofs.Keeping.{count_alive}
use Rattle.waiting.proofs.count_live.Goals as goal

pub returns : goal.returns
returns c =
    let r = rows c.args.words.now c.args.came.now in
    count_from_yields_List c.filter.result c.count.result c.count.ensures.ran
    (YieldsList-from_filter _ (λ i. is_live c.args.time (cell_at r i))
    (YieldsList-at c.filter.ensures.source (YieldsList-from_range 0 (len_in r) (len_in r) (cc) (omega arith)))
    c.filter.ensures.closure (λ x u q k. search (rules, tests)))
    ∙ count_alive c.args.time r c.requires.sized c.requires.came_bound
