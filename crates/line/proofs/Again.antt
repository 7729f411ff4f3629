-- CLOSED, asked again, of a list: the packet that is picked stays the one that is, as it does in the list's parts.
use Prim.Native.Nat.{ℕ, ◌≤◌}
use mathlib.Core.Path.{◌≡◌, sym, ◌∙◌}
use mathlib.Core.Bool.{true}
use mathlib.Core.List.{List, [], ◌∷◌}
use Rattle.rules.proofs.Cases.{clash}
use Rattle.model.specs.declared.Packet.{Packet}
use Rattle.model.specs.Packets.{unexpired, without_expired, Chosen, nothing, chosen}
use Rattle.model.specs.Fours.{each}
use Rattle.model.specs.Queues.{choice}
use Rattle.model.specs.Calls.{Call}
use Rattle.model.specs.State.{sound}
use Rattle.model.specs.Gate.{call, ClosedIsLeast, ClosedAskedAgain}
use Rattle.model.specs.Claims.{view_after}
use Rattle.model.proofs.Staying.{Staying, queues_stay}
use Rattle.model.proofs.Closing.{is_least}
use Rattle.model.proofs.Again.{asked_again}
use Rattle.checks.proofs.Groups.{groups}
use Rattle.line.specs.Line.{picked, in_list, Listed}
use Rattle.line.specs.Same.{parted, in_parts}
use Rattle.line.proofs.Alike.{BothChoose}
use Rattle.line.proofs.Rules.{picked_ontime}
use Rattle.line.proofs.Agree.{parts_alike, sound_tied, parts_sound, sound_lists_agree}

-- where both choose, what one has chosen the other has
module _ {A B : Type 0} (R : A → B → Type 0) (p : Packet) where
  chosen_there : (x : Chosen A) (y : Chosen B) (a : A) → BothChoose R x y → x ≡ chosen p a → (b : B) × (y ≡ chosen p b)
  chosen_there nothing y a s e = clash (cc)
  chosen_there (chosen q c) nothing a s e = absurd s
  chosen_there (chosen q c) (chosen r b) a s e = (b, cc s.0)

  chosen_here : (x : Chosen A) (y : Chosen B) (b : B) → BothChoose R x y → y ≡ chosen p b → (a : A) × (x ≡ chosen p a)
  chosen_here x nothing b s e = clash (cc)
  chosen_here nothing (chosen r c) b s e = absurd s
  chosen_here (chosen q a) (chosen r c) b s e = (a, cc s.0)

keeps_sound : (v : Listed) (c : Call) → sound v ≡ true → sound (call v c).view ≡ true
unfolding view_after
keeps_sound v c e = (sound_lists_agree v (c ∷ []) e).sound_throughout

picked_stays : (v : Listed) (p : Packet) (others : List Packet) (then : ℕ) → sound v ≡ true
    → picked v.waiting ≡ chosen p others → v.clock.time ≤ then → unexpired then p ≡ true
    → (rest : List Packet) × (picked (without_expired then v.waiting) ≡ chosen p rest)
picked_stays v p others then e f a u =
    let ps = v.waiting in
    let q = parted ps in
    let now = v.clock.time in
    let t = sound_tied v e in
    let there = chosen_there _ p (picked ps) (choice q) others (parts_alike.next now ps q t.packets) f in
    let stays = queues_stay.stays (in_parts v) p there.0 then (sym (parts_sound v (in_parts v) t) ∙ e) there.1 a u in
    let live = parts_alike.expire then ps q (parts_alike.later now then ps q a t.packets) in
    chosen_here _ p (picked (without_expired then ps)) (choice (each (without_expired then) q)) stays.0
    (parts_alike.next then (without_expired then ps) (each (without_expired then) q) live) stays.1

pub lists_stay : Staying in_list
lists_stay =
    record {
      keeps = keeps_sound;
      allowed =
          λ v p others e f.
          picked_ontime v.control.profile v.clock.time v.waiting p others (groups v e).packets f;
      stays = picked_stays;
    }

pub closed_is_least : ClosedIsLeast in_list
closed_is_least = is_least lists_stay

pub closed-asked_again : ClosedAskedAgain in_list
closed-asked_again v stamp n b r = asked_again lists_stay v stamp n r b
