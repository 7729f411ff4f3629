-- What is left of a list of packets at a turn of a loop, what expiry keeps of it packet by packet, and an unused place.
use Prim.Native.Nat.{ℕ, ◌+◌, ◌≤◌, ◌<◌}
use mathlib.Core.Path.{◌≡◌, refl, ap, sym, ◌∙◌}
use mathlib.Core.Bool.{Bool, true, false, cond, and-false, false≢true}
use mathlib.Core.List.{List, [], ◌∷◌, ◌++◌, append-nil}
use native.Mathlib.Numerals.{add-one}
use lib.Dec.{eqb}
use lib.ListN.{length, take, drop, get_or}
use lib.Seq.{take-suc}
use borrow.Author.Tests.{eqb-true}
use Rattle.rules.proofs.Cases.{split}
use Rattle.packing.proofs.Walk.{next_of, done_of}
use Rattle.model.specs.declared.Packet.{Packet}
use Rattle.model.specs.Packets.{no_packet, unexpired, without_expired}
use Rattle.checks.specs.Checks.{is_zero}

pub next : (ps : List Packet) (n i : ℕ) → i < n → n ≤ length ps
    → drop i (take n ps) ≡ get_or ps i no_packet ∷ drop (i + 1) (take n ps)
next ps n i h k = next_of no_packet ps n i h k

pub done : (ps : List Packet) (n i : ℕ) → n ≤ i → n ≤ length ps → drop i (take n ps) ≡ []
done ps n i h k = done_of no_packet ps n i h k

kept_append : (now : ℕ) (ps qs : List Packet) → without_expired now (ps ++ qs) ≡ without_expired now ps ++ without_expired now qs
unfolding without_expired
kept_append now [] qs = refl
kept_append now (p ∷ ps) qs = go (unexpired now p) (kept_append now ps qs)
  where
    go : (b : Bool) → without_expired now (ps ++ qs) ≡ without_expired now ps ++ without_expired now qs
        → cond b (p ∷ without_expired now (ps ++ qs)) (without_expired now (ps ++ qs))
        ≡ cond b (p ∷ without_expired now ps) (without_expired now ps) ++ without_expired now qs
    go true e = ap (λ (x : List Packet). p ∷ x) e
    go false e = e

-- one packet more, kept or not
pub kept_yes : (now : ℕ) (ps : List Packet) (i : ℕ) → i < length ps → unexpired now (get_or ps i no_packet) ≡ true
    → without_expired now (take (i + 1) ps) ≡ without_expired now (take i ps) ++ (get_or ps i no_packet ∷ [])
unfolding without_expired
kept_yes now ps i h e = rw (add-one, take-suc ps i no_packet, kept_append, e)

pub kept_no : (now : ℕ) (ps : List Packet) (i : ℕ) → i < length ps → unexpired now (get_or ps i no_packet) ≡ false
    → without_expired now (take (i + 1) ps) ≡ without_expired now (take i ps)
unfolding without_expired
kept_no now ps i h e = rw (add-one, take-suc ps i no_packet, kept_append, e) (append-nil _)

pub zero_is : (p : Packet) → is_zero p ≡ true → p ≡ no_packet
zero_is p h =
    λ i.
    record {
      id = none p.id (λ e. simp e) i;
      priority = none p.priority (λ e. simp (e, and-false)) i;
      ontime = none p.ontime (λ e. simp (e, and-false)) i;
      lifetime = none p.lifetime (λ e. simp (e, and-false)) i;
      arrival = none p.arrival (λ e. simp (e, and-false)) i;
    }
  where
    none : (n : ℕ) → (eqb n 0 ≡ false → is_zero p ≡ false) → n ≡ 0
    none n f = split (eqb n 0) (eqb-true n 0) (λ e. absurd (false≢true (sym (f e) ∙ h)))
