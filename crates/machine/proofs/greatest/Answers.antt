-- The library's `max`, and 0 of none.
use Rattle.std.proofs.Common.{◌≡◌, ◌∙◌, sym, max}
use Rattle.std.specs.List.{reduce}
use Rattle.std.proofs.lemmas.Iterator.{YieldsList-from_slice}
use Rattle.std.proofs.lemmas.Iterator.Adapters.{option_map_id}
use Rattle.std.proofs.lemmas.Iterator.Consumers.{YieldsList-from_copied, max_from_yields_List}
use Rattle.machine.proofs.Parts.{greatest-reduced}
use Rattle.machine.proofs.greatest.Goals as goal

pub returns : goal.returns
returns c =
    let xs = c.args.xs.now in
    let e : c.max.result ≡ reduce max xs =
    sym (option_map_id c.max.result)
    ∙ max_from_yields_List _ _ c.max.ensures.ran (YieldsList-from_copied (YieldsList-from_slice xs (cc))) in
    c.unwrap_or.ensures ∙ rw e (greatest-reduced xs)
