-- The first of the least number, or the blank packet where none waits.
use Rattle.std.proofs.Common.{rules, tests, ap, ◌∙◌}
use Rattle.std.specs.Option.{unwrap_or}
use Rattle.std.proofs.lemmas.Iterator.{YieldsList-from_slice}
use Rattle.std.proofs.lemmas.Iterator.Consumers.{YieldsList-from_copied, YieldsList-at}
use Rattle.line.specs.Line.{goes_next}
use Rattle.line.proofs.Least.{first_least}
use Rattle.line.proofs.pick.Goals as goal

pub returns : goal.returns
returns c =
    let ps = c.waiting-packets.result.now in
    c.unwrap_or.ensures
    ∙ ap (unwrap_or c.min_by_key.result) (search rules)
    ∙ first_least _ _ (λ x k q h. search (rules, tests)) _ _ ps c.min_by_key.ensures.ran
    (YieldsList-from_copied (YieldsList-at c.copied.ensures.source (YieldsList-from_slice ps (cc))))
    ∙ ap goes_next c.waiting-packets.ensures.0
