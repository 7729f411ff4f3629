-- CLOSED, asked again: the state that the first poll left is sound, so the second passes its checks; the packet is still the
-- next; and what is left of either wait is less by the time that has passed.
use Prim.Native.Nat.{ℕ, ◌+◌, ◌-◌, ◌%◌, ◌≤◌, ◌<◌}
use mathlib.Core.Path.{◌≡◌, refl, ap, sym, ◌∙◌, subst, subst⁻¹}
use mathlib.Core.Bool.{Bool, true, false, cond, not}
use native.Mathlib.Omega.{arith}
use lib.Dec.{leb}
use Rattle.rules.specs.Clock.{stamps, step_of, goes_back, end_of_time, passes_end}
use Rattle.rules.proofs.Cases.{split, clash}
use Rattle.rules.proofs.Tests.{tested}
use Rattle.rules.proofs.Refusals.{none_of}
use Rattle.model.specs.declared.Packet.{Packet}
use Rattle.model.specs.declared.Answer.{Answer}
use Rattle.model.specs.declared.Answer.TheVariants.{Sent, Closed, Refused}
use Rattle.model.specs.Packets.{unexpired, Chosen, chosen, Holding}
use Rattle.model.specs.Queues.{in_queues}
use Rattle.model.specs.Calls.{poll}
use Rattle.model.specs.Ledger.{most_air}
use Rattle.model.specs.State.{Status, sound}
use Rattle.model.specs.Effects.{Result, refreshed, closed, may_send, polled, effect}
use Rattle.model.specs.Gate.{checks, unless_refused, call, waited, AskedAgain, ClosedAskedAgain}
use Rattle.model.proofs.Staying.{Staying, queues_stay}
use Rattle.model.proofs.Closing.{left_of, InTime, in_good_time, sends_after, left_after, closed_poll, still_sound, small}

-- d µs behind a stamp, the step is d
step_later : (stamp d : ℕ) → stamp < stamps → d < stamps → step_of ((stamp + d) % stamps) stamp ≡ d
unfolding step_of
step_later stamp d a b = omega arith

-- a poll of a sound state whose clock neither goes back nor passes its end is its effect
poll_passes : {h : Holding} (v : Status h) (stamp : ℕ) → sound v ≡ true → step_of stamp v.clock.stamp < 2147483648
    → v.clock.time + step_of stamp v.clock.stamp ≤ end_of_time → call v (poll stamp) ≡ effect v (poll stamp)
unfolding call checks goes_back passes_end
poll_passes v stamp e a b =
    ap (λ n. unless_refused n v (effect v (poll stamp)))
    (none_of (checks v (poll stamp)) (ap not e, (omega tested, (omega tested, tt))))

-- a state refreshed is one that has waited, as far as sending goes
module _ {h : Holding} (v : Status h) (stamp : ℕ) (p : Packet) where
  abbrev d : ℕ
  d = step_of stamp v.clock.stamp

  may_send_then : may_send (refreshed v stamp) p ≡ may_send (waited v d) p
  unfolding closed
  may_send_then = refl

  left_then : left_of (refreshed v stamp) p ≡ left_of (waited v d) p
  unfolding closed
  left_then = refl

  -- so it sends exactly if the step is at least what was left, and else says what is left of that
  answers_then : (rest : h.Held) → InTime v → p.ontime ≤ most_air
      → (polled (refreshed v stamp) (chosen p rest)).answer ≡ cond (leb (left_of v p) d) (Sent p) (Closed (left_of v p - d))
  answers_then rest t o =
      let goes = may_send_then ∙ sends_after v t p d o in
      let left = left_then ∙ left_after v p d t o in
      split (leb (left_of v p) d)
      (λ e. rw (goes, e) refl)
      (λ e. rw (goes, e) (ap Closed left))

module _ {h : Holding} (laws : Staying h) (v : Status h) (stamp n : ℕ) (r : (call v (poll stamp)).answer ≡ Closed n) where
  abbrev first : Status h
  first = refreshed v stamp

  abbrev p : Packet
  p = (closed_poll v stamp n r).packet

  -- a second poll, d µs later
  abbrev Says : (later d : ℕ) → Type 0
  Says later d =
      d < 2147483648 → first.clock.time + d ≤ end_of_time → unexpired (first.clock.time + d) p ≡ true
      → (call first (poll later)).answer ≡ cond (leb n d) (Sent p) (Closed (n - d))

  says : (later : ℕ) → Says later (step_of later stamp)
  unfolding effect
  says later a b u =
      let k = closed_poll v stamp n r in
      let e = still_sound laws v stamp n r in
      let s = laws.stays first p k.others (first.clock.time + step_of later stamp) e k.chosen_next (omega arith) u in
      ap (λ (o : Result h). o.answer) (poll_passes first later e a b)
      ∙ ap (λ (c : Chosen h.Held). (polled (refreshed first later) c).answer) s.1
      ∙ answers_then first later p s.0 (in_good_time first e) (small laws v stamp n r)
      ∙ ap (λ m. cond (leb m (step_of later stamp)) (Sent p) (Closed (m - step_of later stamp))) k.left

  pub asked_again : stamp < stamps
      → AskedAgain (call v (poll stamp)).view stamp n (λ later. (call (call v (poll stamp)).view (poll later)).answer)
  asked_again b =
      let k = closed_poll v stamp n r in
      subst⁻¹ (λ (w : Status h). AskedAgain w stamp n (λ later. (call w (poll later)).answer)) k.after
      (record {
        packet = p;
        others = k.others;
        chosen_next = k.chosen_next;
        again = λ d a. subst (Says ((stamp + d) % stamps)) (step_later stamp d b (omega arith)) (says ((stamp + d) % stamps)) a;
      })

pub closed-asked_again : ClosedAskedAgain in_queues
closed-asked_again v stamp n b r = asked_again queues_stay v stamp n r b

-- states that read as the model's: what a poll of a sound one answers and leaves is what the model's does, and no other is CLOSED
module _ {h : Holding} {S : Type 0} (view_of : S → Status h) (is_sound : S → Bool) (left : S → ℕ → S) (answer : S → ℕ → Answer)
    (reads : (s : S) (stamp : ℕ) → is_sound s ≡ true
    → (view_of (left s stamp) ≡ (call (view_of s) (poll stamp)).view) × (answer s stamp ≡ (call (view_of s) (poll stamp)).answer)
    × (is_sound (left s stamp) ≡ true))
    (unsound : (s : S) (stamp : ℕ) → is_sound s ≡ false → answer s stamp ≡ Refused 9) (model : ClosedAskedAgain h) where
  read_again_lem : (s : S) (stamp n : ℕ) → is_sound s ≡ true → AskedAgain (call (view_of s) (poll stamp)).view stamp n
      (λ later. (call (call (view_of s) (poll stamp)).view (poll later)).answer)
      → AskedAgain (view_of (left s stamp)) stamp n (answer (left s stamp))
  read_again_lem s stamp n e a =
      let r = reads s stamp e in
      let g = subst⁻¹ (λ (w : Status h). AskedAgain w stamp n (λ later. (call w (poll later)).answer)) r.0 a in
      record {
        packet = g.packet;
        others = g.others;
        chosen_next = g.chosen_next;
        again = λ d b t u. (reads (left s stamp) ((stamp + d) % stamps) r.2).1 ∙ g.again d b t u;
      }

  pub states_asked_again : (s : S) (stamp n : ℕ) → stamp < stamps → answer s stamp ≡ Closed n
      → AskedAgain (view_of (left s stamp)) stamp n (answer (left s stamp))
  states_asked_again s stamp n b c =
      split (is_sound s)
      (λ e. read_again_lem s stamp n e (model (view_of s) stamp n b (sym (reads s stamp e).1 ∙ c)))
      (λ e. clash (cc (unsound s stamp e)))
