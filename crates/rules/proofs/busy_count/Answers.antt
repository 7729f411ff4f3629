-- Each word's ones, summed, are the busy probes among the first 64 for each word.
use Rattle.std.proofs.Common.{◌≡◌, ◌∙◌, rules}
use Rattle.std.specs.List.{sum_by}
use lib.Count.{ones}
use Rattle.rules.proofs.Probes.{ones_of_all}
use Rattle.rules.proofs.busy_count.Goals as goal

pub returns : goal.returns
returns c =
    let summed : c.sum.result ≡ sum_by ones c.args.words.now = search rules in
    summed ∙ ones_of_all c.args.words.now (λ i. (c.type_inv.words i).fits)
