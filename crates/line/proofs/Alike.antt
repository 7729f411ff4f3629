-- Two gates whose packets wait in two ways answer alike, if the two ways are alike: one call from tied states gives equal answers
-- and tied states, so a run does. Nothing here knows how packets wait, nor which groups of numbers a state has beside them; and
-- no soundness is needed, since tied states are sound alike.
use Prim.Native.Nat.{ℕ, ◌≤◌}
use mathlib.Core.Path.{◌≡◌, refl, ap, ap₂, ◌∙◌, subst, subst⁻¹}
use mathlib.Core.Bool.{Bool, true, false, cond}
use mathlib.Core.List.{List, [], ◌∷◌}
use native.Mathlib.Omega.{arith}
use lib.Dec.{ltb, eqb}
use borrow.Author.Tests.{eqb-true, ltb-false}
use Rattle.rules.specs.Profiles.{last_priority}
use Rattle.rules.specs.Refusals.{first_of, NoneHolds}
use Rattle.rules.proofs.Cases.{on_cond, split}
use Rattle.rules.proofs.Refusals.{of_none}
use Rattle.model.specs.declared.Packet.{Packet}
use Rattle.model.specs.declared.Answer.{Answer}
use Rattle.model.specs.declared.Answer.TheVariants.{Ready}
use Rattle.model.specs.Packets.{packet_of, Chosen, nothing, chosen, Holding}
use Rattle.model.specs.Calls.{Call, words, count, offer, poll, Making}
use Rattle.model.specs.State.{Status, fresh, not_live, sound}
use Rattle.model.specs.Effects.{Result, result, stepped, refreshed, is_full, room_made, joined, closed, may_send}
use Rattle.model.specs.Effects.{polled, effect}
use Rattle.model.specs.Gate.{own_checks, checks, unless_refused, make_checks, make_in, call}
use Rattle.model.specs.Claims.{view_after, events}
use Rattle.model.proofs.Refusals.{checks_numbered}
use Rattle.line.specs.Same.{waiting_as, SameRuns}

-- both choose none, or the same packet, and leave what R relates
abbrev pub BothChoose : {A B : Type 0} → (A → B → Type 0) → Chosen A → Chosen B → Type 0
BothChoose R nothing nothing = Unit {0}
BothChoose R (chosen p x) (chosen q y) = (p ≡ q) × R x y
BothChoose R nothing (chosen q y) = ⊥
BothChoose R (chosen p x) nothing = ⊥

-- R now x y: at the time now, those in x and those in y are the same packets. Two ways of waiting are alike if both then say the
-- same of them, and leave the same
pub record Alike (h k : Holding) (R : ℕ → h.Held → k.Held → Type 0) : Type 0 where
  pub none : R 0 h.none k.none
  pub later : (now then : ℕ) (x : h.Held) (y : k.Held) → now ≤ then → R now x y → R then x y
  pub total : (now : ℕ) (x : h.Held) (y : k.Held) → R now x y → h.total x ≡ k.total y
  pub of_priority : (now n : ℕ) (x : h.Held) (y : k.Held) → n ≤ last_priority → R now x y
      → h.of_priority n x ≡ k.of_priority n y
  pub expire : (now : ℕ) (x : h.Held) (y : k.Held) → R now x y → R now (h.expire now x) (k.expire now y)
  pub spill : (now n : ℕ) (x : h.Held) (y : k.Held) → n ≤ last_priority → R now x y → R now (h.spill n x) (k.spill n y)
  pub join : (p : Packet) (x : h.Held) (y : k.Held) → p.priority ≤ last_priority → R p.arrival x y
      → R p.arrival (h.join p x) (k.join p y)
  pub next : (now : ℕ) (x : h.Held) (y : k.Held) → R now x y → BothChoose (R now) (h.next x) (k.next y)
  pub fits : (profile now : ℕ) (x : h.Held) (y : k.Held) → R now x y → h.fits profile now x ≡ k.fits profile now y

-- every group of numbers is the same, and so are the packets
pub record Tied (h k : Holding) (R : ℕ → h.Held → k.Held → Type 0) (v : Status h) (w : Status k) : Type 0 where
  pub same : v ≡ waiting_as {k = h} w v.waiting
  pub packets : R w.clock.time v.waiting w.waiting

module _ (h k : Holding) (R : ℕ → h.Held → k.Held → Type 0) (laws : Alike h k R) where
  -- the same answer, and states tied again
  abbrev pub Same : Result h → Result k → Type 0
  Same o p = (o.answer ≡ p.answer) × Tied h k R o.view p.view

  -- w with the packets x
  abbrev with : h.Held → Status k → Status h
  with x w = waiting_as {k = h} w x

  tied : (x : h.Held) (w : Status k) → R w.clock.time x w.waiting → Tied h k R (with x w) w
  tied x w r = record { same = refl; packets = r }

  -- tied states are sound alike
  same_sound : (x : h.Held) (w : Status k) → R w.clock.time x w.waiting → sound (with x w) ≡ sound w
  unfolding sound
  same_sound x w r =
      rw (laws.fits w.control.profile w.clock.time x w.waiting r, laws.total w.clock.time x w.waiting r)

  pub sound_alike : (v : Status h) (w : Status k) → Tied h k R v w → sound v ≡ sound w
  sound_alike v w t = ap sound t.same ∙ same_sound v.waiting w t.packets

  later : (w : Status k) (stamp : ℕ) (x : h.Held) → R w.clock.time x w.waiting
      → R (stepped w.clock stamp).time x w.waiting
  later w stamp x r = laws.later w.clock.time (stepped w.clock stamp).time x w.waiting (omega arith) r

  -- the clock moved, and the expired gone
  abbrev live : h.Held → Status k → ℕ → h.Held
  live x w stamp = h.expire (stepped w.clock stamp).time x

  live_tied : (x : h.Held) (w : Status k) (stamp : ℕ) → R w.clock.time x w.waiting
      → R (stepped w.clock stamp).time (live x w stamp) (refreshed w stamp).waiting
  live_tied x w stamp r = laws.expire (stepped w.clock stamp).time x w.waiting (later w stamp x r)

  same_refreshed : (x : h.Held) (w : Status k) (stamp : ℕ) → R w.clock.time x w.waiting
      → refreshed (with x w) stamp ≡ with (live x w stamp) (refreshed w stamp)
  same_refreshed x w stamp r =
      rw (
        laws.total w.clock.time x w.waiting r,
        laws.total (stepped w.clock stamp).time (live x w stamp) (refreshed w stamp).waiting (live_tied x w stamp r),
      )

  pub refreshed_alike : (v : Status h) (w : Status k) (stamp : ℕ) → Tied h k R v w
      → Tied h k R (refreshed v stamp) (refreshed w stamp)
  refreshed_alike v w stamp t =
      subst⁻¹ (λ (u : Status h). Tied h k R (refreshed u stamp) (refreshed w stamp)) t.same
      (record {
        same = same_refreshed v.waiting w stamp t.packets;
        packets = live_tied v.waiting w stamp t.packets;
      })

  -- the checks
  own_number : (w : Status k) (x : h.Held) (c : Call) → R w.clock.time x w.waiting
      → first_of (own_checks (with x w) c) ≡ first_of (own_checks w c)
  unfolding first_of
  own_number w x (words stamp probes ws) r = refl
  own_number w x (count stamp busy probes) r = refl
  own_number w x (offer stamp o) r =
      split (ltb last_priority o.priority) (λ e. rw e)
      (λ e. rw (laws.of_priority (stepped w.clock stamp).time o.priority (live x w stamp) (refreshed w stamp).waiting
      (ltb-false last_priority o.priority e) (live_tied x w stamp r)))
  own_number w x (poll stamp) r = refl

  same_number : (w : Status k) (x : h.Held) (c : Call) → R w.clock.time x w.waiting
      → first_of (checks (with x w) c) ≡ first_of (checks w c)
  unfolding checks first_of
  same_number w x c r = rw (same_sound x w r, own_number w x c r)

  -- an offer: the room that it makes, and its packet
  on_both : (u : Bool) {a b : Status h} {d e : Status k} → Tied h k R a d → Tied h k R b e
      → Tied h k R (cond u a b) (cond u d e)
  on_both true s t = s
  on_both false s t = t

  same_room : (v : Status h) (w : Status k) (n : ℕ) → n ≤ last_priority → Tied h k R v w
      → Tied h k R (room_made v n) (room_made w n)
  same_room v w n a t =
      subst⁻¹ (λ (u : Status h). Tied h k R (room_made u n) (room_made w n)) t.same
      (rw (laws.of_priority w.clock.time n v.waiting w.waiting a t.packets)
      (on_both (is_full w n)
      (record { same = refl; packets = laws.spill w.clock.time n v.waiting w.waiting a t.packets })
      (tied v.waiting w t.packets)))

  room_time : (w : Status k) (n : ℕ) → (room_made w n).clock.time ≡ w.clock.time
  room_time w n = on_cond (λ (u : Status k). u.clock.time ≡ w.clock.time) (is_full w n) (λ e. refl) (λ e. refl)

  same_joined : (v : Status h) (w : Status k) (p : Packet) → p.priority ≤ last_priority → w.clock.time ≡ p.arrival
      → Tied h k R v w → Tied h k R (joined v p) (joined w p)
  same_joined v w p a e t =
      record {
        same = ap (λ (u : Status h). joined u p) t.same;
        packets =
            subst⁻¹ (λ (n : ℕ). R n (h.join p v.waiting) (k.join p w.waiting)) e
            (laws.join p v.waiting w.waiting a (subst (λ (n : ℕ). R n v.waiting w.waiting) e t.packets));
      }

  -- a poll
  same_closed : (x : h.Held) (w : Status k) → closed (with x w) ≡ closed w
  unfolding closed
  same_closed x w = refl

  either : (u : Bool) {a b : Result h} {d e : Result k} → Same a d → Same b e → Same (cond u a b) (cond u d e)
  either true s t = s
  either false s t = t

  same_polled : (x : h.Held) (w : Status k) (a : Chosen h.Held) (b : Chosen k.Held) → R w.clock.time x w.waiting
      → BothChoose (R w.clock.time) a b → Same (polled (with x w) a) (polled w b)
  same_polled x w nothing nothing r s = (refl, tied x w r)
  same_polled x w nothing (chosen q z) r s = absurd s
  same_polled x w (chosen p y) nothing r s = absurd s
  same_polled x w (chosen p y) (chosen q z) r s =
      subst (λ (t : Packet). Same (polled (with x w) (chosen p y)) (polled w (chosen t z))) s.0
      (rw (same_closed x w)
      (either (may_send w p) (refl, record { same = refl; packets = s.1 }) (refl, tied x w r)))

  -- every call that passes its checks
  same_effect : (x : h.Held) (w : Status k) (c : Call) → R w.clock.time x w.waiting → NoneHolds (checks w c)
      → Same (effect (with x w) c) (effect w c)
  unfolding effect checks
  same_effect x w (words stamp probes ws) r n = (refl, record { same = refl; packets = later w stamp x r })
  same_effect x w (count stamp busy probes) r n = (refl, record { same = refl; packets = later w stamp x r })
  same_effect x w (offer stamp o) r n =
      let a = ltb-false last_priority o.priority n.1.1.1.0 in (
        refl,
        same_joined (room_made (refreshed (with x w) stamp) o.priority) (room_made (refreshed w stamp) o.priority)
            (packet_of o (stepped w.clock stamp).time) a (room_time (refreshed w stamp) o.priority)
            (same_room (refreshed (with x w) stamp) (refreshed w stamp) o.priority a
            (refreshed_alike (with x w) w stamp (tied x w r))),
      )
  same_effect x w (poll stamp) r n =
      subst⁻¹ (λ (v : Status h). Same (polled v (h.next v.waiting)) (effect w (poll stamp))) (same_refreshed x w stamp r)
      (same_polled (live x w stamp) (refreshed w stamp) (h.next (live x w stamp)) (k.next (refreshed w stamp).waiting)
      (live_tied x w stamp r)
      (laws.next (stepped w.clock stamp).time (live x w stamp) (refreshed w stamp).waiting (live_tied x w stamp r)))

  -- one call
  same_unless : (n : ℕ) (x : h.Held) (w : Status k) (a : Result h) (b : Result k) → R w.clock.time x w.waiting
      → (n ≡ 0 → Same a b) → Same (unless_refused n (with x w) a) (unless_refused n w b)
  same_unless n x w a b r s =
      split (eqb n 0) (λ e. rw e (s (eqb-true n 0 e))) (λ e. rw e ((refl, tied x w r)))

  same_call : (x : h.Held) (w : Status k) (c : Call) → R w.clock.time x w.waiting → Same (call (with x w) c) (call w c)
  unfolding call
  same_call x w c r =
      rw (same_number w x c r)
      (same_unless (first_of (checks w c)) x w (effect (with x w) c) (effect w c) r
      (λ e. same_effect x w c r (of_none (checks w c) (checks_numbered w c) e)))

  pub call_alike : (v : Status h) (w : Status k) (c : Call) → Tied h k R v w → Same (call v c) (call w c)
  call_alike v w c t =
      subst⁻¹ (λ (u : Status h). Same (call u c) (call w c)) t.same (same_call v.waiting w c t.packets)

  -- a run
  pub record Throughout (v : Status h) (w : Status k) (cs : List Call) : Type 0 where
    pub answers : events v cs ≡ events w cs
    pub tied_after : Tied h k R (view_after v cs) (view_after w cs)

  pub run_alike : (v : Status h) (w : Status k) (cs : List Call) → Tied h k R v w → Throughout v w cs
  unfolding events view_after
  run_alike v w [] t = record { answers = refl; tied_after = t }
  run_alike v w (c ∷ cs) t =
      let s = call_alike v w c t in
      let n = run_alike (call v c).view (call w c).view cs s.1 in
      record {
        answers = ap₂ (λ (a : Answer) (l : List (Call × Answer)). (c, a) ∷ l) s.0 n.answers;
        tied_after = n.tied_after;
      }

  -- from what make gives
  pub make_alike : (m : Making) → Same (make_in h m) (make_in k m)
  unfolding make_in
  make_alike m =
      same_unless (first_of (make_checks m)) h.none not_live (result (fresh m) Ready) (result (fresh m) Ready) laws.none
      (λ e. (refl, record { same = refl; packets = laws.none }))

  pub same_runs : (m : Making) (cs : List Call) → SameRuns h k m cs
  same_runs m cs =
      let s = make_alike m in
      let r = run_alike (make_in h m).view (make_in k m).view cs s.1 in
      record {
        made = s.0;
        answers = r.answers;
        counts = ap (λ (v : Status h). v.counts) r.tied_after.same;
      }
