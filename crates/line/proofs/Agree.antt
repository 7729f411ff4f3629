-- A list in order of arrival and the queues that are its parts are alike, so the plain engine and the gate agree. That the plain
-- engine's states stay sound is carried back from the gate's.
use Prim.Native.Nat.{ℕ, ◌≤◌}
use mathlib.Core.Path.{◌≡◌, refl, ap, sym, ◌∙◌, subst⁻¹}
use mathlib.Core.Bool.{true}
use mathlib.Core.List.{List, [], ◌∷◌}
use native.Mathlib.Omega.{arith}
use lib.ListN.{drop}
use Rattle.rules.specs.Clock.{end_of_time}
use Rattle.rules.proofs.Tests.{all_true}
use Rattle.model.specs.declared.Packet.{Packet}
use Rattle.model.specs.Packets.{without_expired, at_back}
use Rattle.model.specs.Fours.{Four, each, change}
use Rattle.model.specs.Queues.{in_queues, choice}
use Rattle.model.specs.Calls.{Call, Making}
use Rattle.model.specs.State.{View, status_rules, sound}
use Rattle.model.specs.Effects.{stepped, refreshed}
use Rattle.model.specs.Gate.{make_in, call}
use Rattle.model.specs.Claims.{view_after, events}
use Rattle.model.proofs.Orders.{order_more, order_expired, order_back}
use Rattle.model.proofs.Sound.{test_view, view_test, refreshed-sound}
use Rattle.model.proofs.KeepsSound.{calls_keep_sound}
use Rattle.line.specs.Line.{picked, list_rules, in_list, Listed}
use Rattle.line.specs.Same.{of, parted, waiting_as, in_parts, EnginesAgree, SoundListsAgree}
use Rattle.line.proofs.Alike.{BothChoose, Alike, Tied}
use Rattle.line.proofs.Alike as alike
use Rattle.line.proofs.Parts.{Came, Arrived, arrived_without, length-parted, count_column, parted-expired, parted_back}
use Rattle.line.proofs.Parts.{parted-without, both_choose}
use Rattle.line.proofs.Rules.{test_arrived, same_rules}

-- the queues are the list's parts, and the list is in order of arrival
abbrev pub Parted : (now : ℕ) → List Packet → Four Packet → Type 0
Parted now ps q = (q ≡ parted ps) × Arrived now 0 ps

no_parts : Parted 0 in_list.none in_queues.none
unfolding of
no_parts = (refl, tt)

came_later : (now then : ℕ) → now ≤ then → (p : Packet) → Came now p → Came then p
came_later now then a p h = (h.0, omega (arith, h.1))

pub parts_alike : Alike in_list in_queues Parted
parts_alike =
    record {
      none = no_parts;
      later =
          λ now then ps q a r.
          (r.0, order_more (Came now) (Came then) (came_later now then a) 0 0 ps (omega arith) r.1);
      total = λ now ps q r. rw r.0 (length-parted now 0 ps r.1);
      of_priority = λ now n ps q a r. rw r.0 (count_column n ps a);
      expire =
          λ now ps q r.
          (ap (each (without_expired now)) r.0 ∙ sym (parted-expired now ps), order_expired (Came now) 0 now ps r.1);
      spill =
          λ now n ps q a r.
          (ap (change n (drop 1)) r.0 ∙ sym (parted-without n ps a), arrived_without now 0 n ps r.1);
      join =
          λ p ps q a r. (
            ap (change p.priority (at_back p)) r.0 ∙ sym (parted_back p ps a),
            order_back (Came p.arrival) 0 p ps (λ x k. k.1) (omega arith) (a, omega arith) r.1,
          );
      next =
          λ now ps q r.
          subst⁻¹ (λ (x : Four Packet). BothChoose (Parted now) (picked ps) (choice x)) r.0
          (both_choose (Parted now) ps now 0 r.1 (λ n. (refl, arrived_without now 0 n ps r.1)));
      fits = λ profile now ps q r. rw r.0 (same_rules profile now ps r.1);
    }

-- "from fresh states of any profile, both engines given the same calls give the same answers at every step"
pub engines_agree : EnginesAgree
engines_agree = alike.same_runs in_list in_queues Parted parts_alike

-- a sound list is tied to its parts
pub sound_tied : (v : Listed) → sound v ≡ true → Tied in_list in_queues Parted v (in_parts v)
unfolding sound
sound_tied v e =
    let h = all_true (status_rules v) e in
    let g = all_true (list_rules v.control.profile v.clock.time v.waiting) h.1.1.1.1.1.0 in
    record { same = refl; packets = (refl, test_arrived v.control.profile v.clock.time v.waiting g.0) }

-- tied states are sound alike, and the list's parts are the queues
pub parts_sound : (v : Listed) (w : View) → Tied in_list in_queues Parted v w → sound v ≡ sound w
parts_sound v w t = alike.sound_alike in_list in_queues Parted parts_alike v w t

pub tied_parts : (v : Listed) (w : View) → Tied in_list in_queues Parted v w → in_parts v ≡ w
tied_parts v w t =
    ap in_parts t.same ∙ ap (λ (q : Four Packet). waiting_as {k = in_queues} w q) (sym t.packets.0)

-- expiry keeps a sound list sound
pub refreshed_list : (v : Listed) (stamp : ℕ) → sound v ≡ true → (stepped v.clock stamp).time ≤ end_of_time
    → sound (refreshed v stamp) ≡ true
refreshed_list v stamp e k =
    let t = sound_tied v e in
    let w = in_parts v in
    parts_sound (refreshed v stamp) (refreshed w stamp) (alike.refreshed_alike in_list in_queues Parted parts_alike v w stamp t)
    ∙ view_test (refreshed w stamp) (refreshed-sound w stamp k (test_view w (sym (parts_sound v w t) ∙ e)))

-- a run from tied states
run_sound : (w : View) (cs : List Call) → sound w ≡ true → sound (view_after w cs) ≡ true
unfolding view_after
run_sound w [] e = e
run_sound w (c ∷ cs) e = run_sound (call w c).view cs (calls_keep_sound w c e)

pub record Agreeing (v : Listed) (w : View) (cs : List Call) : Type 0 where
  pub answers : events v cs ≡ events w cs
  pub states : in_parts (view_after v cs) ≡ view_after w cs
  pub sound_throughout : sound (view_after v cs) ≡ true

pub run_agrees : (v : Listed) (w : View) (cs : List Call) → Tied in_list in_queues Parted v w → sound w ≡ true
    → Agreeing v w cs
run_agrees v w cs t e =
    let r = alike.run_alike in_list in_queues Parted parts_alike v w cs t in
    record {
      answers = r.answers;
      states = tied_parts (view_after v cs) (view_after w cs) r.tied_after;
      sound_throughout = parts_sound (view_after v cs) (view_after w cs) r.tied_after ∙ run_sound w cs e;
    }

pub sound_lists_agree : SoundListsAgree
sound_lists_agree v cs e =
    let t = sound_tied v e in
    let r = run_agrees v (in_parts v) cs t (sym (parts_sound v (in_parts v) t) ∙ e) in
    record { answers = r.answers; states = r.states; sound_throughout = r.sound_throughout }

-- what make gives
pub made_alike : (m : Making)
    → ((make_in in_list m).answer ≡ (make_in in_queues m).answer)
    × Tied in_list in_queues Parted (make_in in_list m).view (make_in in_queues m).view
made_alike = alike.make_alike in_list in_queues Parted parts_alike
