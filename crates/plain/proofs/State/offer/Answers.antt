-- Refused by the checks of every call, by its own numbers, for lack of room; or joined to those that are left.
use Rattle.std.proofs.Common.{◌≡◌, refl, sym, ◌∙◌, ap, arith}
use Rattle.model.specs.declared.Packet.{Packet}
use Rattle.model.specs.Calls.{offer}
use Rattle.model.specs.Gate.{number_checks}
use Rattle.checks.proofs.Entry.{own_refused, refreshed-sound}
use Rattle.checks.proofs.Offering.{own_first, offer_priority, offer_taken}
use Rattle.rules.proofs.Refusals.{some_number}
use Rattle.plain.specs.Layout.{sound_state, call_on}
use Rattle.plain.proofs.Views.{engine, given_of}
use Rattle.plain.proofs.Doing.{room_last}
use Rattle.plain.proofs.Entry.{entered, given, passed, refused_in_order}
use Rattle.plain.proofs.State.offer.Goals as goal

pub returns-in-Err : goal.returns-in-Err
returns-in-Err c =
    let a = c.args in
    c.refused.ensures
    ∙ refused_in_order a.self (offer a.stamp a.o) (number_checks a.self.profile a.o) _ c.in-Err.ensures.exact
    (λ n e some. own_first a.self.profile a.o _ n e some)

pub refresh-requires : goal.refresh-requires
refresh-requires c =
    let a = c.args in
    let passes = c.in_default.ensures in
    given a.self a.stamp (passes.tight refl) (passed a.self a.stamp (number_checks a.self.profile a.o) passes.exact).0

pub returns-in-Err-check_room : goal.returns-in-Err-check_room
unfolding call_on sound_state
returns-in-Err-check_room c =
    let a = c.args in
    let p = passed a.self a.stamp (number_checks a.self.profile a.o) c.in_default.ensures.exact in
    c.refused-in-Err-check_room.ensures
    ∙ own_refused engine a.self (offer a.stamp a.o) (entered a.self a.stamp (sym p.0)) _
    (room_last a.self a.stamp a.o c.refresh.new.self c.refresh.ensures (sym p.1)
    ∙ sym c.in-Err-check_room.ensures) (some_number _)

pub join-requires : goal.join-requires
unfolding sound_state
join-requires c =
    let a = c.args in
    let p = passed a.self a.stamp (number_checks a.self.profile a.o) c.in_default.ensures.exact in
    let priority : c.packet_of-p.result.priority ≡ a.o.priority =
    ap (λ (p : Packet). p.priority) c.packet_of-p.ensures in record {
      given = given_of _ _ c.refresh.ensures (refreshed-sound engine a.self a.stamp (entered a.self a.stamp (sym p.0)));
      priority_le_last_priority = omega (arith, priority, offer_priority a.self.profile a.o (sym p.1));
    }

pub returns : goal.returns
unfolding call_on sound_state
returns c =
    let a = c.args in
    let p = passed a.self a.stamp (number_checks a.self.profile a.o) c.in_default.ensures.exact in
    offer_taken engine a.self a.stamp (entered a.self a.stamp (sym p.0)) a.o c.refresh.new.self c.join.new.self _
    (room_last a.self a.stamp a.o c.refresh.new.self c.refresh.ensures (sym p.1)
    ∙ sym c.in_default-check_room.ensures) c.refresh.ensures c.packet_of-p.ensures c.join.ensures
