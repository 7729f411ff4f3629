-- What a second poll asks of the way in which packets wait: that states stay sound, and that the packet which goes next is one
-- that was allowed and stays the next while it is not expired. Four queues keep it.
use Prim.Native.Nat.{ℕ, ◌≤◌}
use mathlib.Core.Path.{◌≡◌, subst}
use mathlib.Core.Bool.{true}
use mathlib.Core.List.{List, [], ◌∷◌}
use Rattle.rules.specs.Profiles.{ontime_allowed}
use Rattle.model.specs.declared.Packet.{Packet}
use Rattle.model.specs.Packets.{unexpired, without_expired, Chosen, nothing, chosen, Holding}
use Rattle.model.specs.Fours.{Four, four, each}
use Rattle.model.specs.Queues.{in_queues, choice}
use Rattle.model.specs.State.{Status, View, sound}
use Rattle.model.specs.Gate.{CallsKeepSound}
use Rattle.model.proofs.SoundQueues.{Queued, OfChoice}
use Rattle.model.proofs.Sound.{test_view, chosen_queued}
use Rattle.model.proofs.KeepsSound.{calls_keep_sound}

pub record Staying (h : Holding) : Type 0 where
  pub keeps : CallsKeepSound h
  pub allowed : (v : Status h) (p : Packet) (others : h.Held) → sound v ≡ true → h.next v.waiting ≡ chosen p others
      → ontime_allowed v.control.profile p.ontime ≡ true
  pub stays : (v : Status h) (p : Packet) (others : h.Held) (then : ℕ) → sound v ≡ true → h.next v.waiting ≡ chosen p others
      → v.clock.time ≤ then → unexpired then p ≡ true
      → (rest : h.Held) × (h.next (h.expire then v.waiting) ≡ chosen p rest)

-- four queues: the front of the first that has one
abbrev Leads : (then : ℕ) → Four Packet → Chosen (Four Packet) → Type 0
Leads then q nothing = Unit {0}
Leads then q (chosen p others) =
    unexpired then p ≡ true → choice (each (without_expired then) q) ≡ chosen p (each (without_expired then) others)

leads : (then : ℕ) (a b c d : List Packet) → Leads then (four a b c d) (choice (four a b c d))
unfolding choice without_expired
leads then (p ∷ a) b c d = λ u. rw u
leads then [] (p ∷ b) c d = λ u. rw u
leads then [] [] (p ∷ c) d = λ u. rw u
leads then [] [] [] (p ∷ d) = λ u. rw u
leads then [] [] [] [] = tt

chosen_allowed : (v : View) (p : Packet) (others : Four Packet) → sound v ≡ true → choice v.waiting ≡ chosen p others
    → ontime_allowed v.control.profile p.ontime ≡ true
chosen_allowed v p others e f =
    (subst (OfChoice (Queued v.control.profile v.clock.time)) f (chosen_queued v (test_view v e))).2.order.0.ontime

pub queues_stay : Staying in_queues
queues_stay =
    record {
      keeps = calls_keep_sound;
      allowed = chosen_allowed;
      stays = λ v p others then e f a u. (
        each (without_expired then) others,
        subst (Leads then v.waiting) f
            (leads then v.waiting.c0 v.waiting.c1 v.waiting.c2 v.waiting.c3) u,
      );
    }
