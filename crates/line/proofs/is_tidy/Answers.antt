-- A length within the places, and a test that no unused place fails.
use Rattle.std.proofs.Common.{◌≡◌, ◌-◌, rules, tests, arith, ap, refl, le-leb, ◌∙◌, length, take, drop, length-drop}
use lib.Seq.{take-length}
use Rattle.std.proofs.lemmas.Bool.{lt-leb}
use Rattle.std.proofs.lemmas.Iterator.{YieldsList-from_slice}
use Rattle.std.proofs.lemmas.Iterator.Search.{all_from_yields_List}
use Rattle.packing.specs.Packing.{padded}
use Rattle.checks.specs.Checks.{is_zero}
use Rattle.line.proofs.Steps.{tested}
use Rattle.line.proofs.is_tidy.Goals as goal

pub returns-then-l-le-PLACES : goal.returns-then-l-le-PLACES
unfolding padded
returns-then-l-le-PLACES c =
    let l = c.args.l.now in
    let unused = drop l.len l.packets in
    let places-left : 20 - l.len ≡ length unused = omega (arith, length-drop l.len l.packets) in
    let all = ap (λ n. take n unused) places-left ∙ take-length unused in
    all_from_yields_List is_zero _ _ _ c.all.ensures.ran (YieldsList-from_slice unused (c.iter.ensures.rest ∙ all))
    (λ x b q k. search (rules, tests))
    ∙ tested is_zero unused ∙ rw (le-leb _ _ c.if-l-le-PLACES.true) refl

pub returns-else-l-le-PLACES : goal.returns-else-l-le-PLACES
unfolding padded
returns-else-l-le-PLACES c = rw (lt-leb _ _ c.if-l-le-PLACES.false) refl
