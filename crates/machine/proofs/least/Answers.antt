-- The library's `min`, and 0 of none.
use Rattle.std.proofs.Common.{◌≡◌, ◌∙◌, sym, min}
use Rattle.std.specs.List.{reduce}
use Rattle.std.proofs.lemmas.Iterator.{YieldsList-from_slice}
use Rattle.std.proofs.lemmas.Iterator.Adapters.{option_map_id}
use Rattle.std.proofs.lemmas.Iterator.Consumers.{YieldsList-from_copied, min_from_yields_List}
use Rattle.machine.proofs.Parts.{least-reduced}
use Rattle.machine.proofs.least.Goals as goal

pub returns : goal.returns
returns c =
    let xs = c.args.xs.now in
    let e : c.min.result ≡ reduce min xs =
    sym (option_map_id c.min.result)
    ∙ min_from_yields_List _ _ c.min.ensures.ran (YieldsList-from_copied (YieldsList-from_slice xs (cc))) in
    c.unwrap_or.ensures ∙ rw e (least-reduced xs)
