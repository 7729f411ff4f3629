-- The first packet of the least priority number, as `min_by_key` picks it, is the one that goes next.
use Rattle.std.proofs.Common.{ℕ, ◌≡◌, refl, sym, ap, ap₂, subst, ◌∙◌, List, [], ◌∷◌, cond, Option, None, Some}
use Rattle.std.proofs.Common.{arith, lt-ltb, le-ltb}
use Rattle.std.specs.Fn.{CalledAt}
use Rattle.std.specs.Iterator.{PicksMinByKey, KeyTurn}
use Rattle.std.specs.List.{FoldsTo}
use Rattle.std.specs.Option.{unwrap_or}
use Rattle.std.specs.Ordering.{nat_cmp, min_by_ordering}
use Rattle.std.specs.declared.cmp.Ordering.{Ordering}
use Rattle.std.specs.declared.cmp.Ordering.TheVariants.{Less, Equal, Greater}
use Rattle.std.proofs.lemmas.Cmp.{ranked}
use Rattle.std.proofs.lemmas.Iterator.{YieldsList}
use Rattle.std.proofs.iter.Yields.{gives_Drains}
use mathlib.Core.List.{map-id}
use denote.Param.Members.{Mut}
use denote.Ref.{Bor}
use Rattle.rules.proofs.Cases.{split}
use Rattle.model.specs.declared.Packet.{Packet}
use Rattle.model.specs.Packets.{no_packet}
use Rattle.line.specs.Line.{goes_before, best, goes_next}

-- the first of two, where their numbers are equal
lesser : (o : Ordering) (p q : Packet) → o ≡ nat_cmp p.priority q.priority → min_by_ordering o p q ≡ cond (goes_before q p) q p
lesser Less p q e = rw (le-ltb q.priority p.priority (omega (arith, ranked p.priority q.priority Less e))) refl
lesser Equal p q e = rw (le-ltb q.priority p.priority (omega (arith, ranked p.priority q.priority Equal e))) refl
lesser Greater p q e = rw (lt-ltb q.priority p.priority (ranked p.priority q.priority Greater e)) refl

lesser_key : (o : Ordering) (p q : Packet) → min_by_ordering o p.priority q.priority ≡ (min_by_ordering o p q).priority
lesser_key Less p q = refl
lesser_key Equal p q = refl
lesser_key Greater p q = refl

module _ {F : Type 0} (g : Mut F (Bor Packet × Unit {0}) ℕ) (f : F)
    (keys : (x : Packet) (k : ℕ) (q : F) → CalledAt g f x k q → (q ≡ f) × (k ≡ x.priority)) where
  abbrev Turn : (F × ℕ) × Packet → Packet → (F × ℕ) × Packet → Type 0
  Turn = KeyTurn min_by_ordering min_by_ordering g nat_cmp

  best_of : (p q : (F × ℕ) × Packet) (xs : List Packet) → p.0.0 ≡ f → p.0.1 ≡ p.1.priority → FoldsTo Turn p xs q
      → q.1 ≡ best p.1 xs
  unfolding best
  best_of p q [] e k h = ap (λ r. r.1) (sym h)
  best_of p q (x ∷ xs) e k h =
      let t = h.1 in
      let z = h.0 in
      let said = keys x t.0 z.0.0 (subst (λ v. CalledAt g v x t.0 z.0.0) e t.2) in
      let o : t.1 ≡ nat_cmp p.1.priority x.priority = sym t.3 ∙ ap₂ nat_cmp k said.1 in
      let key : z.0.1 ≡ z.1.priority =
      t.4 ∙ ap₂ (min_by_ordering t.1) k said.1 ∙ lesser_key t.1 p.1 x ∙ ap (λ v. v.priority) (sym t.5) in
      best_of z q xs said.0 key h.2 ∙ ap (λ v. best v xs) (t.5 ∙ lesser t.1 p.1 x o) ∙ chosen x xs p.1
    where
      chosen : (x : Packet) (xs : List Packet) (y : Packet) → best (cond (goes_before x y) x y) xs ≡ best y (x ∷ xs)
      chosen x xs y = split (goes_before x y) (λ b. rw b refl) (λ b. rw b refl)

  module _ {S : Type 0} {steps : S → Option Packet → S → Type 0} (s : S) where
    pub first_least : (r : Option Packet) (all : List Packet) → PicksMinByKey steps g nat_cmp s f r
        → YieldsList steps (λ x. x) s all → unwrap_or r no_packet ≡ goes_next all
    unfolding goes_next
    first_least None all h e = ap goes_next (gives_Drains steps (λ x. x) [] all s e.runs h)
    first_least (Some y) all h e =
        let said = keys h.0 h.2 h.3 h.6 in
        best_of ((h.3, h.2), h.0) (h.4, y) h.1 said.0 said.1 h.7
        ∙ ap goes_next (sym (map-id (h.0 ∷ h.1)) ∙ gives_Drains steps (λ x. x) (h.0 ∷ h.1) all s e.runs h.5)
