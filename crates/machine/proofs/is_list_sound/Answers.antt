-- A list that is good, and then the room past it, as it is lent.
use Prim.Native.Nat.{◌≤◌}
use mathlib.Core.Path.{◌≡◌, ap, sym, ◌∙◌}
use mathlib.Core.Bool.{true}
use lib.ListN.{length}
use native.Mathlib.Omega.{arith}
use Rattle.packing.specs.Packing.{all_are, is_unused}
use Rattle.machine.specs.declared.Levels.{Levels}
use Rattle.machine.specs.Levels.{levels_of, good_list, sound_list}
use Rattle.machine.proofs.Parts.{rest}
use Rattle.machine.proofs.Judged.{there}
use Rattle.machine.proofs.is_list_sound.Goals as goal

pub returns-then-not-is_list_good : goal.returns-then-not-is_list_good
unfolding sound_list
returns-then-not-is_list_good c = rw (sym c.is_list_good.ensures ∙ c.if-not-is_list_good.true)

pub offset_bounds-above-n : goal.offset_bounds-above-n
offset_bounds-above-n c =
    let list : Levels =
    levels_of c.args.n c.args.own c.args.above.now c.args.waits.now in
    let good : good_list list ≡ true =
    sym c.is_list_good.ensures ∙ c.if-not-is_list_good.false in
    let bounds : ((c.args.n ≤ length c.args.above.now) × (c.args.n ≤ length c.args.waits.now)) =
    let t = there list good in (t.1, t.2) in
    omega (arith, bounds.0)

pub slice_bounds-are_zero-count : goal.slice_bounds-are_zero-count
slice_bounds-are_zero-count c =
    let list : Levels =
    levels_of c.args.n c.args.own c.args.above.now c.args.waits.now in
    let good : good_list list ≡ true =
    sym c.is_list_good.ensures ∙ c.if-not-is_list_good.false in
    let bounds : ((c.args.n ≤ length c.args.above.now) × (c.args.n ≤ length c.args.waits.now)) =
    let t = there list good in (t.1, t.2) in
    bounds.0

pub slice_bounds-are_zero-start : goal.slice_bounds-are_zero-start
slice_bounds-are_zero-start c =
    let list : Levels =
    levels_of c.args.n c.args.own c.args.above.now c.args.waits.now in
    let good : good_list list ≡ true =
    sym c.is_list_good.ensures ∙ c.if-not-is_list_good.false in
    let bounds : ((c.args.n ≤ length c.args.above.now) × (c.args.n ≤ length c.args.waits.now)) =
    let t = there list good in (t.1, t.2) in
    bounds.0

pub returns-then-not-are_zero : goal.returns-then-not-are_zero
unfolding sound_list
returns-then-not-are_zero c =
    let list : Levels =
    levels_of c.args.n c.args.own c.args.above.now c.args.waits.now in
    let good : good_list list ≡ true =
    sym c.is_list_good.ensures ∙ c.if-not-is_list_good.false in
    rw (
      good,
      ap (all_are is_unused) (sym (rest c.args.above.now c.args.n)) ∙ sym c.are_zero.ensures
          ∙ c.if-not-are_zero.true,
    )

pub offset_bounds-waits-n : goal.offset_bounds-waits-n
offset_bounds-waits-n c =
    let list : Levels =
    levels_of c.args.n c.args.own c.args.above.now c.args.waits.now in
    let good : good_list list ≡ true =
    sym c.is_list_good.ensures ∙ c.if-not-is_list_good.false in
    let bounds : ((c.args.n ≤ length c.args.above.now) × (c.args.n ≤ length c.args.waits.now)) =
    let t = there list good in (t.1, t.2) in
    omega (arith, bounds.1)

pub slice_bounds-are_zero-count-2 : goal.slice_bounds-are_zero-count-2
slice_bounds-are_zero-count-2 c =
    let list : Levels =
    levels_of c.args.n c.args.own c.args.above.now c.args.waits.now in
    let good : good_list list ≡ true =
    sym c.is_list_good.ensures ∙ c.if-not-is_list_good.false in
    let bounds : ((c.args.n ≤ length c.args.above.now) × (c.args.n ≤ length c.args.waits.now)) =
    let t = there list good in (t.1, t.2) in
    bounds.1

pub slice_bounds-are_zero-start-2 : goal.slice_bounds-are_zero-start-2
slice_bounds-are_zero-start-2 c =
    let list : Levels =
    levels_of c.args.n c.args.own c.args.above.now c.args.waits.now in
    let good : good_list list ≡ true =
    sym c.is_list_good.ensures ∙ c.if-not-is_list_good.false in
    let bounds : ((c.args.n ≤ length c.args.above.now) × (c.args.n ≤ length c.args.waits.now)) =
    let t = there list good in (t.1, t.2) in
    bounds.1

pub returns : goal.returns
unfolding sound_list
returns c =
    let list : Levels =
    levels_of c.args.n c.args.own c.args.above.now c.args.waits.now in
    let good : good_list list ≡ true =
    sym c.is_list_good.ensures ∙ c.if-not-is_list_good.false in
    c.are_zero-2.ensures ∙ ap (all_are is_unused) (rest c.args.waits.now c.args.n)
    ∙ sym
    (rw (
      good,
      ap (all_are is_unused) (sym (rest c.args.above.now c.args.n)) ∙ sym c.are_zero.ensures
          ∙ c.if-not-are_zero.false,
    ))
