-- The on-times added are the library's sum of them, which fits, as it is no more than is allowed.
use Rattle.std.proofs.Common.{ℕ, List, ◌≡◌, ◌≤◌, ◌∙◌, sym, refl, rules, arith}
use Rattle.std.specs.List.{sum_by}
use Rattle.std.proofs.lemmas.List.Recursion.{is_sum_by}
use Rattle.ledger.specs.Layout.{ontime_in, added}
use Rattle.ledger.proofs.air_of.Goals as goal

summed : (ws : List ℕ) → added ws ≡ sum_by ontime_in ws
unfolding added
summed ws = is_sum_by added ontime_in refl (λ w ws. refl) ws

pub sum-requires-clause-fits : goal.sum-requires-clause-fits
sum-requires-clause-fits c =
    let few : sum_by ontime_in c.args.words.now ≤ 30000 =
    omega (arith, summed c.args.words.now, c.requires) in
    search rules

pub returns : goal.returns
returns c =
    let all : c.sum.result ≡ sum_by ontime_in c.args.words.now = search rules in
    all ∙ sym (summed c.args.words.now)
