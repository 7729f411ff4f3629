-- One rule after the other: the first that fails makes the list bad, and past the others the last decides.
use Rattle.std.proofs.Common.{◌∙◌, sym, ap, length, le-leb}
use Rattle.std.proofs.lemmas.Bool.{lt-leb}
use Rattle.rules.proofs.Cases.{true-within}
use Rattle.packing.specs.Packing.{all_are}
use Rattle.machine.specs.Levels.{levels_of, wait_allowed, threshold_allowed, rising}
use Rattle.machine.proofs.Judged.{few_listed, not_size, not_above, not-waits, not_own, not_rise, not-most, by_waits_lem}
use Rattle.machine.proofs.Judged.{too_few, too_many}
use Rattle.machine.proofs.is_list_good.Goals as goal

pub returns-then-n-lt1 : goal.returns-then-n-lt1
returns-then-n-lt1 c =
    let a = c.args in
    sym (not_size (levels_of a.n a.own a.above.now a.waits.now) (too_few a.n c.if-n-lt1.true))

pub returns-then-n-gt-MOST_LEVELS : goal.returns-then-n-gt-MOST_LEVELS
returns-then-n-gt-MOST_LEVELS c =
    let a = c.args in
    sym (not_size (levels_of a.n a.own a.above.now a.waits.now) (too_many a.n c.if-n-gt-MOST_LEVELS.true))

pub returns-then-above-n : goal.returns-then-above-n
returns-then-above-n c =
    let a = c.args in
    sym (not_above (levels_of a.n a.own a.above.now a.waits.now) (lt-leb a.n (length a.above.now) c.if-above-n.true))

pub returns-then-waits-n : goal.returns-then-waits-n
returns-then-waits-n c =
    let a = c.args in
    sym (not-waits (levels_of a.n a.own a.above.now a.waits.now) (lt-leb a.n (length a.waits.now) c.if-waits-n.true))

pub returns-then-not-lies_within : goal.returns-then-not-lies_within
returns-then-not-lies_within c =
    let a = c.args in
    sym
    (not_own (levels_of a.n a.own a.above.now a.waits.now) (sym c.lies_within.ensures ∙ c.if-not-lies_within.true))

pub returns-then-not-do_rise : goal.returns-then-not-do_rise
returns-then-not-do_rise c =
    let a = c.args in
    let read = few_listed a.n a.above.now c.if-n-gt-MOST_LEVELS.false in
    sym
    (not_rise (levels_of a.n a.own a.above.now a.waits.now)
    (ap (rising 0) read ∙ sym c.do_rise.ensures ∙ c.if-not-do_rise.true))

pub returns-then-not-all_lie_within : goal.returns-then-not-all_lie_within
returns-then-not-all_lie_within c =
    let a = c.args in
    let read = few_listed a.n a.above.now c.if-n-gt-MOST_LEVELS.false in
    sym
    (not-most (levels_of a.n a.own a.above.now a.waits.now)
    (ap (all_are threshold_allowed) read ∙ sym c.all_lie_within.ensures ∙ c.if-not-all_lie_within.true))

pub returns : goal.returns
returns c =
    let a = c.args in
    let few = c.if-n-gt-MOST_LEVELS.false in
    let read = few_listed a.n a.above.now few in
    c.all_lie_within-2.ensures ∙ ap (all_are wait_allowed) (sym (few_listed a.n a.waits.now few))
    ∙ sym
    (by_waits_lem (levels_of a.n a.own a.above.now a.waits.now)
    (record {
      size = true-within 1 8 a.n c.if-n-lt1.false few;
      above_there = le-leb a.n (length a.above.now) c.if-above-n.false;
      waits_there = le-leb a.n (length a.waits.now) c.if-waits-n.false;
      own = sym c.lies_within.ensures ∙ c.if-not-lies_within.false;
      rise = ap (rising 0) read ∙ sym c.do_rise.ensures ∙ c.if-not-do_rise.false;
      most = ap (all_are threshold_allowed) read ∙ sym c.all_lie_within.ensures ∙ c.if-not-all_lie_within.false;
    }))
