-- A probe count outside its limits is bad; else the comparison is the definition.
use Rattle.std.proofs.Common.{◌≡◌, true, false, sym, ◌∙◌}
use Rattle.rules.specs.Samples.{good_probes, bad_count}
use Rattle.rules.proofs.is_bad_count.Goals as goal

pub returns-then-not-lies_within : goal.returns-then-not-lies_within
unfolding bad_count good_probes
returns-then-not-lies_within c =
    let outside : good_probes c.args.probes ≡ false =
    sym c.lies_within.ensures ∙ c.if-not-lies_within.true in
    rw outside

pub returns : goal.returns
unfolding bad_count good_probes
returns c =
    let inside : good_probes c.args.probes ≡ true =
    sym c.lies_within.ensures ∙ c.if-not-lies_within.false in
    rw inside
