-- Up to 620 per mille the rule is 0; above that the entry stands in its row.
use Rattle.std.proofs.Common.{ℕ, ◌%◌, List, get_or, sym, ap, ◌∙◌}
use Rattle.rules.proofs.Tabled.{row_entry, calm_entry}
use Rattle.rules.proofs.table.factor.Goals as goal

pub returns-then-c-le-CALM : goal.returns-then-c-le-CALM
returns-then-c-le-CALM c = sym (calm_entry _ c.if-c-le-CALM.true)

pub returns : goal.returns
returns c =
    let k = c.args.c in
    c.from.ensures ∙ ap (λ (row : List ℕ). get_or row (k % 16) 0) c.row-entries.ensures ∙ row_entry k
