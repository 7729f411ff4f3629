-- Each test that fails is a return of no, since a sound ledger passes it; a ledger that passes those of its newest goes by its
-- words and its unused places, which are the callees'.
use mathlib.Core.Path.{◌≡◌, ap, sym, ◌∙◌}
use mathlib.Core.Bool.{◌&&◌}
use native.Mathlib.Omega.{arith}
use lib.ListN.{drop}
use Rattle.std.proofs.lemmas.Slice.{between_to_end}
use Rattle.rules.proofs.Cases.{clash}
use Rattle.packing.specs.Packing.{all_are, is_unused}
use Rattle.ledger.specs.Layout.{ledger_of, sound_ledger}
use Rattle.ledger.proofs.Kept.{Newest, newest_young, too_long, none-noted, none-held, not_newest, by_steps}
use Rattle.ledger.proofs.is_sound.Goals as goal

pub returns-then-is_recent : goal.returns-then-is_recent
returns-then-is_recent c =
    let r = c.is_recent in
    sym (rw c.if-n-eq0.true
    (none-noted c.args.profile c.args.time c.args.last c.args.slots.now (sym r.ensures ∙ c.if-is_recent.true)))

pub returns-then-n-eq0 : goal.returns-then-n-eq0
returns-then-n-eq0 c =
    c.are_zero.ensures
    ∙ sym (rw c.if-n-eq0.true
    (none-held c.args.profile c.args.time c.args.last c.args.slots.now
    (sym c.is_recent.ensures ∙ c.if-is_recent.false)))

pub returns-then-n-gt40 : goal.returns-then-n-gt40
returns-then-n-gt40 c =
    sym (too_long c.args.profile c.args.time c.args.last c.args.slots.now c.args.n c.if-n-gt40.true)

pub returns-then-not-is_recent : goal.returns-then-not-is_recent
returns-then-not-is_recent c =
    sym (not_newest c.args.profile c.args.time c.args.last c.args.slots.now c.args.n (omega arith) (omega arith)
    (λ h. let e = sym h.recent ∙ sym c.is_recent-2.ensures ∙ c.if-not-is_recent.true in clash (cc)))

pub returns-then-time-last : goal.returns-then-time-last
returns-then-time-last c =
    sym (not_newest c.args.profile c.args.time c.args.last c.args.slots.now c.args.n (omega arith) (omega arith)
    (λ h. omega (arith, h.past, c.if-time-last.true)))

pub returns-then-newest-last : goal.returns-then-newest-last
returns-then-newest-last c =
    sym (not_newest c.args.profile c.args.time c.args.last c.args.slots.now c.args.n (omega arith) (omega arith)
    (λ h. c.if-newest-last.true h.word))

pub returns-then-newest-ge-UNIT : goal.returns-then-newest-ge-UNIT
returns-then-newest-ge-UNIT c =
    sym (not_newest c.args.profile c.args.time c.args.last c.args.slots.now c.args.n (omega arith) (omega arith)
    (λ h. omega (arith, h.short, c.if-newest-last.false, c.if-newest-ge-UNIT.true)))

pub overflow_sub-first : goal.overflow_sub-first
overflow_sub-first c =
    let newest : (Newest c.args.time c.args.last c.args.n c.args.slots.now) =
    record {
      recent = sym c.is_recent-2.ensures ∙ c.if-not-is_recent.false;
      past = omega (arith, c.if-time-last.false);
      word = c.if-newest-last.false;
      short = omega (arith, c.if-newest-ge-UNIT.false, c.if-newest-last.false);
    } in
    omega (arith, c.young_from.ensures, newest_young _ _ _ _ newest)

pub returns-then-not-is_well_kept : goal.returns-then-not-is_well_kept
returns-then-not-is_well_kept c =
    let newest : (Newest c.args.time c.args.last c.args.n c.args.slots.now) =
    record {
      recent = sym c.is_recent-2.ensures ∙ c.if-not-is_recent.false;
      past = omega (arith, c.if-time-last.false);
      word = c.if-newest-last.false;
      short = omega (arith, c.if-newest-ge-UNIT.false, c.if-newest-last.false);
    } in
    let by_both : (sound_ledger c.args.profile c.args.time c.args.last (ledger_of c.args.n c.args.slots.now)
    ≡ (c.is_well_kept.result && all_are is_unused (drop c.args.n c.args.slots.now))) =
    rw (c.is_well_kept.ensures, c.most_ontime-most.ensures, c.young_from.ensures)
    (by_steps c.args.profile c.args.time c.args.last c.args.slots.now c.args.n
    (omega arith) (omega arith) c.if-n-gt40.false newest) in
    sym (by_both ∙ rw (c.if-not-is_well_kept.true))

pub returns : goal.returns
returns c =
    let newest : (Newest c.args.time c.args.last c.args.n c.args.slots.now) =
    record {
      recent = sym c.is_recent-2.ensures ∙ c.if-not-is_recent.false;
      past = omega (arith, c.if-time-last.false);
      word = c.if-newest-last.false;
      short = omega (arith, c.if-newest-ge-UNIT.false, c.if-newest-last.false);
    } in
    let by_both : (sound_ledger c.args.profile c.args.time c.args.last (ledger_of c.args.n c.args.slots.now)
    ≡ (c.is_well_kept.result && all_are is_unused (drop c.args.n c.args.slots.now))) =
    rw (c.is_well_kept.ensures, c.most_ontime-most.ensures, c.young_from.ensures)
    (by_steps c.args.profile c.args.time c.args.last c.args.slots.now c.args.n
    (omega arith) (omega arith) c.if-n-gt40.false newest) in
    c.are_zero-2.ensures
    ∙ ap (all_are is_unused) (between_to_end c.args.slots.now c.args.n 40 (omega arith))
    ∙ sym (by_both ∙ rw (c.if-not-is_well_kept.false))
