-- Each of the four priorities is tested.
use Rattle.std.proofs.Common.{ℕ, Bool, rules, tests, ap, ◌∙◌}
use Rattle.std.specs.List.{list_all}
use Rattle.std.proofs.lemmas.Iterator.Search.{all_from_yields_List}
use Rattle.line.specs.Line.{at_most_five}
use Rattle.line.specs.Layout.{items}
use Rattle.line.proofs.Priorities.{given, unspent}
use Rattle.line.proofs.are_counts_sound.Goals as goal

pub returns : goal.returns
returns c =
    let n = c.new.ensures in
    let test : ℕ → Bool = λ k. at_most_five k (items c.args.l.now) in
    all_from_yields_List test _ _ _ c.all.ensures.ran (given c.new.result) (λ x b q k. search (rules, tests))
    ∙ ap (list_all test) (unspent c.new.result 0 3 n.start n.end n.exhausted)
