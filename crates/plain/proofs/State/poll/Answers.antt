-- Refused; or nothing waits, or the packet picked waits or goes.
use Rattle.std.proofs.Common.{refl, sym, ◌∙◌, arith}
use Rattle.model.specs.Calls.{poll}
use Rattle.ledger.proofs.Settling.{list_length}
use Rattle.checks.proofs.Polling.{idles, closes, sends, room_left, poll_keeps}
use Rattle.plain.specs.Layout.{sound_state, call_on}
use Rattle.plain.proofs.Views.{engine, known}
use Rattle.plain.proofs.Polling.{still_given, is_polled, idle, found}
use Rattle.plain.proofs.Entry.{entered, entry_refused, given}
use Rattle.plain.proofs.State.poll.Goals as goal

pub returns-in-Err : goal.returns-in-Err
returns-in-Err c =
    c.refused.ensures ∙ entry_refused c.args.self (poll c.args.stamp) _ c.in-Err.ensures.exact

pub refresh-requires : goal.refresh-requires
refresh-requires c =
    let passes = c.in_default.ensures in given c.args.self c.args.stamp (passes.tight refl) passes.exact

pub returns-then-self-eq0 : goal.returns-then-self-eq0
unfolding sound_state call_on
returns-then-self-eq0 c =
    let z = c.in_default.ensures.exact in
    let e = c.refresh.ensures in
    let then = still_given _ _ _ z e in
    idles engine c.refresh.new.self then.0 then.1 (idle _ _ _ z e c.if-self-eq0.true) ∙ is_polled _ _ _ z e

pub left_for-left-requires : goal.left_for-left-requires
left_for-left-requires c = still_given _ _ _ c.in_default.ensures.exact c.refresh.ensures

pub returns-then-left-ne0 : goal.returns-then-left-ne0
unfolding sound_state call_on
returns-then-left-ne0 c =
    let z = c.in_default.ensures.exact in
    let e = c.refresh.ensures in
    let then = still_given _ _ _ z e in
    closes engine c.refresh.new.self then.0 then.1 _ _ (found _ _ _ z e _ c.if-self-eq0.false c.pick-p.ensures) _
    c.left_for-left.ensures c.if-left-ne0.true
    ∙ is_polled _ _ _ z e

pub admit-requires : goal.admit-requires
unfolding sound_state
admit-requires c =
    let z = c.in_default.ensures.exact in
    let e = c.refresh.ensures in
    let then = still_given _ _ _ z e in
    let kept = poll_keeps engine c.args.self c.refresh.new.self c.args.stamp (entered _ _ (sym z)) e in
    let room = room_left engine c.refresh.new.self then.0 then.1 _ _
    (found _ _ _ z e _ c.if-self-eq0.false c.pick-p.ensures) _ c.left_for-left.ensures c.if-left-ne0.false kept in record {
      given = then;
      len_lt_forty = omega (arith, room, list_length _ _ (known _ then).ledger_tight);
    }

pub returns : goal.returns
unfolding sound_state call_on
returns c =
    let z = c.in_default.ensures.exact in
    let e = c.refresh.ensures in
    let then = still_given _ _ _ z e in
    sends engine c.refresh.new.self then.0 then.1 _ _ (found _ _ _ z e _ c.if-self-eq0.false c.pick-p.ensures) _
    c.left_for-left.ensures c.if-left-ne0.false c.admit.new.self c.admit.ensures
    ∙ is_polled _ _ _ z e
