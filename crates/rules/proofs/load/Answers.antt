-- Of 1,000 probes the quotient is the product; else it is the definition, and a count that is not bad keeps it small.
use Rattle.std.proofs.Common.{◌≡◌, ◌*◌, ◌≤◌, sym, ap, ◌∙◌, arith}
use Rattle.rules.specs.Profiles.{full_load}
use Rattle.rules.specs.Samples.{usual_probes, load_of}
use Rattle.rules.proofs.Probes.{Counted, good_count, load_le, as_before}
use Rattle.rules.proofs.load.Goals as goal

pub overflow_mul-result : goal.overflow_mul-result
overflow_mul-result c =
    let k : Counted c.args.busy c.args.probes = good_count _ _ c.requires in
    omega (arith, k.few, c.if-probes-eq-USUAL_PROBES.true)

pub returns-then-probes-eq-USUAL_PROBES : goal.returns-then-probes-eq-USUAL_PROBES
returns-then-probes-eq-USUAL_PROBES c =
    let busy = c.args.busy in
    let usual : c.args.probes ≡ usual_probes = c.if-probes-eq-USUAL_PROBES.true in
    let product : load_of busy c.args.probes ≡ 1000 * busy = ap (load_of busy) usual ∙ as_before.load busy in
    sym product

pub parts-requires : goal.parts-requires
parts-requires c =
    let k : Counted c.args.busy c.args.probes = good_count _ _ c.requires in
    (k.some, k.few, k.most)

pub overflow_cast-result : goal.overflow_cast-result
unfolding load_of
overflow_cast-result c =
    let a = c.args in
    let small : load_of a.busy a.probes ≤ full_load = load_le a.busy a.probes c.requires in
    omega (arith, small, c.parts.ensures)

pub returns : goal.returns
unfolding load_of
returns c = c.parts.ensures
