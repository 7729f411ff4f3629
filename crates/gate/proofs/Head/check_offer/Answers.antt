-- Its own numbers; then the two rows of the table, in their order.
use mathlib.Core.Path.{sym}
use native.Mathlib.Omega.{arith}
use borrow.Author.Tests.{le-leb, lt-leb}
use Rattle.std.proofs.lemmas.Result.{err_from_is_err_and}
use Rattle.rules.specs.Refusals.{first_of}
use Rattle.checks.proofs.Offering.{offer_priority}
use Rattle.waiting.specs.Layout.{rows, waiting_in}
use Rattle.rules.proofs.Refusals.{some_number}
use Rattle.gate.proofs.Entry.{by_own, by_room}
use Rattle.gate.proofs.Head.check_offer.Goals as goal

pub returns-in_err-check_offer : goal.returns-in_err-check_offer
returns-in_err-check_offer c =
    let p = err_from_is_err_and c.from_residual.result c.from_residual.ensures.1 in
    let e = c.in_err-check_offer in
    let a = c.args in
    rw (p.1, p.2) (by_own a.self.now (waiting_in (rows a.queues.now a.came.now)) a.o a.time _ e.ensures (some_number e.field-0.0))

pub is_full-requires-clause-k_bound : goal.is_full-requires-clause-k_bound
is_full-requires-clause-k_bound c =
    let own = offer_priority c.args.self.now.profile c.args.o (sym c.in_ok-check_offer.ensures) in omega arith

pub returns-then-is_full : goal.returns-then-is_full
unfolding first_of
returns-then-is_full c =
    let a = c.args in
    by_room a.self.now (waiting_in (rows a.queues.now a.came.now)) a.o a.time _ c.in_ok-check_offer.ensures
    (rw (sym c.if-is_full.ensures))

pub returns-then-self-ge-MOST_OFFERS : goal.returns-then-self-ge-MOST_OFFERS
unfolding first_of
returns-then-self-ge-MOST_OFFERS c =
    let a = c.args in
    by_room a.self.now (waiting_in (rows a.queues.now a.came.now)) a.o a.time _ c.in_ok-check_offer.ensures
    (rw (sym c.if-is_full.ensures, le-leb _ _ c.if-self-ge-MOST_OFFERS.true))

pub returns : goal.returns
unfolding first_of
returns c =
    let a = c.args in
    by_room a.self.now (waiting_in (rows a.queues.now a.came.now)) a.o a.time _ c.in_ok-check_offer.ensures
    (rw (sym c.if-is_full.ensures, lt-leb _ _ c.if-self-ge-MOST_OFFERS.false))
