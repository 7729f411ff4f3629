-- The clock's refusal; then by the request.
use mathlib.Core.Path.{refl, sym}
use Rattle.std.proofs.lemmas.Result.{err_from_is_err_and}
use Rattle.rules.specs.Refusals.{first_of}
use Rattle.waiting.specs.Layout.{rows, waiting_in}
use Rattle.rules.proofs.Refusals.{some_number}
use Rattle.gate.proofs.Entry.{by_clock, by_request}
use Rattle.gate.proofs.Head.check.Goals as goal

pub returns-in_err-clock : goal.returns-in_err-clock
returns-in_err-clock c =
    let p = err_from_is_err_and c.from_residual.result c.from_residual.ensures.1 in
    let e = c.in_err-clock in
    let a = c.args in
    rw (p.1, p.2)
    (by_clock a.self.now (waiting_in (rows a.queues.now a.came.now)) a.request a.stamp _ e.ensures.number
    (some_number e.field-0.0))

pub returns-then-is_bad_count : goal.returns-then-is_bad_count
unfolding first_of
returns-then-is_bad_count c =
    let a = c.args in
    let k = c.in_ok-clock.ensures in
    by_request a.self.now (waiting_in (rows a.queues.now a.came.now)) a.request a.stamp _ _ _
    k.number k.moved c.in-Count.is (rw (sym c.if-is_bad_count.ensures))

pub returns-else-is_bad_count : goal.returns-else-is_bad_count
unfolding first_of
returns-else-is_bad_count c =
    let a = c.args in
    let k = c.in_ok-clock.ensures in
    by_request a.self.now (waiting_in (rows a.queues.now a.came.now)) a.request a.stamp _ _ _
    k.number k.moved c.in-Count.is (rw (sym c.if-is_bad_count.ensures))

pub returns-in-Offered : goal.returns-in-Offered
returns-in-Offered c =
    let a = c.args in
    let k = c.in_ok-clock.ensures in
    by_request a.self.now (waiting_in (rows a.queues.now a.came.now)) a.request a.stamp _ _ _
    k.number k.moved c.in-Offered.is c.check_offer.ensures

pub returns-in-Poll : goal.returns-in-Poll
unfolding first_of
returns-in-Poll c =
    let a = c.args in
    let k = c.in_ok-clock.ensures in
    by_request a.self.now (waiting_in (rows a.queues.now a.came.now)) a.request a.stamp _ _ _
    k.number k.moved c.in-Poll.is refl
