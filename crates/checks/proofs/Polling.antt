-- A poll that is not refused: nothing waits, or the packet that may go waits for the wait or for the air, or it goes; and where
-- it goes the ledger has room, since the state that it leaves is sound.
use Prim.Native.Nat.{ℕ, ◌<◌, max}
use mathlib.Core.Path.{◌≡◌, ap, ap₂, sym, ◌∙◌}
use mathlib.Core.Bool.{true, false}
use mathlib.Core.List.{[], ◌∷◌}
use native.Mathlib.Omega.{arith}
use lib.Dec.{eqb}
use lib.ListN.{length, length-append}
use borrow.Author.Tests.{ne_eqb, eq-eqb}
use Rattle.rules.proofs.Profiles.{ontime_le}
use Rattle.model.specs.declared.Packet.{Packet}
use Rattle.model.specs.declared.Answer.TheVariants.{Idle, Closed, Sent}
use Rattle.model.specs.Packets.{Holding, Chosen, nothing, chosen}
use Rattle.model.specs.Calls.{poll}
use Rattle.model.specs.Ledger.{places}
use Rattle.model.specs.State.{Status, sound}
use Rattle.model.specs.Effects.{Result, refreshed, wait_left, air_left, may_send, admits, polled, effect}
use Rattle.model.proofs.Sound.{forty_are_enough}
use Rattle.checks.specs.Checks.{Entered}
use Rattle.checks.proofs.Closing.{may_go}
use Rattle.checks.proofs.Groups.{groups}
use Rattle.checks.proofs.Engine.{Engine, sound_in, laid, call_in, sound_view, says}
use Rattle.checks.proofs.Entry.{none_own, refreshed-sound, accepted, called_effect}

-- a poll of a state laid out that is sound, its clock moved and its expired packets gone
module _ {h : Holding} (e : Engine h) (a : e.State) (tight : a ≡ e.state_of (e.view_of a)) (f : sound (e.view_of a) ≡ true) where
  abbrev v : Status h
  v = e.view_of a

  abbrev result : Result h
  result = polled v (h.next v.waiting)

  pub idles : h.next v.waiting ≡ nothing → e.outcome a Idle ≡ laid e result
  idles none = ap (λ (x : e.State). e.outcome x Idle) tight ∙ sym (ap (λ (c : Chosen h.Held). laid e (polled v c)) none)

  -- a packet may go, and leaves the rest
  module _ (p : Packet) (rest : h.Held) (picked : h.next v.waiting ≡ chosen p rest) (k : ℕ)
      (wait : k ≡ max (wait_left v) (air_left v p)) where
    goes : may_send v p ≡ eqb k 0
    goes =
        may_go v p (groups v f).ledger.noted
        (omega (arith, ontime_le v.control.profile p.ontime (e.allowed v p rest f picked)))
        ∙ ap (λ (n : ℕ). eqb n 0) (sym wait)

    pub closes : (k ≡ 0 → ⊥) → e.outcome a (Closed k) ≡ laid e result
    closes y =
        let shut : may_send v p ≡ false = goes ∙ ne_eqb k 0 y in
        ap₂ (λ (x : e.State) (n : ℕ). e.outcome x (Closed n)) tight wait ∙ sym (rw (picked, shut))

    module _ (y : k ≡ 0) where
      sent : result ≡ record { view = admits v p rest; answer = Sent p }
      sent = let now : may_send v p ≡ true = goes ∙ eq-eqb k 0 y in rw (picked, now)

      pub sends : (r : e.State) → r ≡ e.state_of (admits v p rest) → e.outcome r (Sent p) ≡ laid e result
      sends r g = ap (λ (x : e.State). e.outcome x (Sent p)) g ∙ ap (laid e) (sym sent)

      -- room in the ledger
      pub room_left : sound result.view ≡ true → length v.ledger < places
      room_left kept =
          let g : sound (admits v p rest) ≡ true = ap (λ (o : Result h). sound o.view) (sym sent) ∙ kept in
          omega (
            arith,
            forty_are_enough (admits v p rest) g,
            length-append v.ledger (record { at = v.clock.time; ontime = p.ontime } ∷ []),
          )

-- it is the call's, where a refresh leaves that state, and keeps it sound
module _ {h : Holding} (e : Engine h) (s a : e.State) (stamp : ℕ) (n : Entered (sound_in e s) (e.view_of s).clock stamp)
    (same : a ≡ e.state_of (refreshed (e.view_of s) stamp)) where
  view : e.view_of a ≡ refreshed (e.view_of s) stamp
  view = says e a (refreshed (e.view_of s) stamp) same (refreshed-sound e s stamp n)

  pub is_call : laid e (polled (e.view_of a) (h.next (e.view_of a).waiting)) ≡ call_in e s (poll stamp)
  unfolding effect
  is_call =
      ap (λ (w : Status h). laid e (polled w (h.next w.waiting))) view
      ∙ accepted e s (poll stamp) n (none_own (e.view_of s) stamp)

  pub poll_keeps : sound (polled (e.view_of a) (h.next (e.view_of a).waiting)).view ≡ true
  unfolding effect
  poll_keeps =
      ap (λ (w : Status h). sound (polled w (h.next w.waiting)).view) view
      ∙ ap (λ (o : Result h). sound o.view) (sym (called_effect e s (poll stamp) n (none_own (e.view_of s) stamp)))
      ∙ e.keeps (e.view_of s) (poll stamp) (sound_view e s n.judged_sound)
