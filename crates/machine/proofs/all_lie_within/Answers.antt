-- The library's `all`, with the test of the limits.
use Rattle.std.proofs.Common.{◌∙◌, rules, tests}
use Rattle.std.proofs.lemmas.Iterator.{YieldsList-from_slice}
use Rattle.std.proofs.lemmas.Iterator.Search.{all_from_yields_List}
use Rattle.rules.specs.Profiles.{within}
use Rattle.packing.proofs.Packing.{all_are_all}
use Rattle.machine.proofs.all_lie_within.Goals as goal

pub returns : goal.returns
returns c =
    let xs = c.args.xs.now in
    let test = within c.args.low c.args.high in
    all_from_yields_List test _ _ _ c.all.ensures.ran (YieldsList-from_slice xs (cc)) (λ x b q k. search (rules, tests))
    ∙ all_are_all test xs
