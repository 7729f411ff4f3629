-- What the filter lets through, counted, is the definition's count.
use Rattle.std.proofs.Common.{◌≡◌, ap, ◌∙◌, rules, eqb}
use Rattle.std.specs.List.{count_by}
use Rattle.line.specs.Line.{count_of}
use Rattle.line.proofs.Steps.{counts}
use Rattle.line.proofs.count.Goals as goal

pub returns : goal.returns
returns c =
    let n : c.count.result ≡ count_by (λ p. eqb p.priority c.args.priority) c.waiting.result.now = search rules in
    n ∙ counts c.args.priority c.waiting.result.now ∙ ap (count_of c.args.priority) c.waiting.ensures.0
