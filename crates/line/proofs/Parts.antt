-- A list of packets and its four parts: what is done to the list is done to its parts. All by induction on the list, by cases on
-- a test, and on which of four a priority is.
use Prim.Native.Nat.{ℕ, zero, suc, ◌+◌, ◌≤◌, ◌<◌}
use mathlib.Core.Path.{◌≡◌, refl, ap, sym, ◌∙◌, subst⁻¹}
use mathlib.Core.Bool.{false, cond}
use mathlib.Core.List.{List, [], ◌∷◌, ◌++◌, append-nil}
use native.Mathlib.Omega.{arith}
use lib.Dec.{eqb}
use lib.ListN.{length, drop}
use borrow.Author.Tests.{eqb-true, eqb-false, eq-eqb, ne_eqb}
use Rattle.rules.specs.Profiles.{last_priority}
use Rattle.rules.proofs.Cases.{split, on_cond}
use Rattle.rules.proofs.Tests.{tested}
use Rattle.model.specs.declared.Packet.{Packet}
use Rattle.model.specs.Packets.{unexpired, without_expired, at_back, nothing, chosen}
use Rattle.model.specs.Fours.{Four, four, each, column, change, how_many}
use Rattle.model.specs.Queues.{choice}
use Rattle.model.proofs.Orders.{InOrder, order_more}
use Rattle.line.specs.Line.{count_of, goes_before, best, without, picked}
use Rattle.line.specs.Same.{of, parted}
use Rattle.line.proofs.Alike.{BothChoose}

-- a packet's priority is one of four
pub by_four : (P : ℕ → Type 0) → P 0 → P 1 → P 2 → P 3 → (n : ℕ) → n ≤ last_priority → P n
by_four P a b c d zero h = a
by_four P a b c d (suc zero) h = b
by_four P a b c d (suc (suc zero)) h = c
by_four P a b c d (suc (suc (suc zero))) h = d
by_four P a b c d (suc (suc (suc (suc n)))) h = absurd (omega arith)

-- a packet of one of four priorities that has come
abbrev pub Came : (now : ℕ) → Packet → Type 0
Came now p = (p.priority ≤ last_priority) × (p.arrival ≤ now)

-- such packets, in order of arrival
abbrev pub Arrived : (now since : ℕ) → List Packet → Type 0
Arrived now since ps = InOrder (Came now) since ps

pub arrived_without : (now since n : ℕ) (ps : List Packet) → Arrived now since ps → Arrived now since (without n ps)
unfolding without
arrived_without now since n [] h = tt
arrived_without now since n (p ∷ ps) h =
    on_cond (Arrived now since) (eqb p.priority n)
    (λ e. order_more (Came now) (Came now) (λ q k. k) p.arrival since ps h.1 h.2)
    (λ e. (h.0, h.1, arrived_without now p.arrival n ps h.2))

-- how many
pub count_of_lem : (n : ℕ) (ps : List Packet) → count_of n ps ≡ length (of n ps)
unfolding count_of of
count_of_lem n [] = refl
count_of_lem n (p ∷ ps) =
    split (eqb p.priority n) (λ e. rw e (omega (arith, count_of_lem n ps))) (λ e. rw e (count_of_lem n ps))

pub length-parted : (now since : ℕ) (ps : List Packet) → Arrived now since ps → length ps ≡ how_many (parted ps)
unfolding of
length-parted now since [] h = refl
length-parted now since (p ∷ ps) h =
    let i = length-parted now p.arrival ps h.2 in
    by_four (λ n. suc (length ps)
    ≡ length (cond (eqb n 0) (p ∷ of 0 ps) (of 0 ps)) + length (cond (eqb n 1) (p ∷ of 1 ps) (of 1 ps))
    + length (cond (eqb n 2) (p ∷ of 2 ps) (of 2 ps)) + length (cond (eqb n 3) (p ∷ of 3 ps) (of 3 ps)))
    (omega arith) (omega arith) (omega arith) (omega arith) p.priority h.0.0

pub count_column : (n : ℕ) (ps : List Packet) → n ≤ last_priority → count_of n ps ≡ length (column n (parted ps))
count_column n ps h =
    by_four (λ k. count_of k ps ≡ length (column k (parted ps))) (count_of_lem 0 ps) (count_of_lem 1 ps) (count_of_lem 2 ps)
    (count_of_lem 3 ps) n h

-- expiry
of-expired : (now n : ℕ) (ps : List Packet) → of n (without_expired now ps) ≡ without_expired now (of n ps)
unfolding of without_expired
of-expired now n [] = refl
of-expired now n (p ∷ ps) =
    split (unexpired now p)
    (λ u. split (eqb p.priority n) (λ e. rw (u, e, u, of-expired now n ps)) (λ e. rw (u, e, of-expired now n ps)))
    (λ u. split (eqb p.priority n) (λ e. rw (u, e, u, of-expired now n ps)) (λ e. rw (u, e, of-expired now n ps)))

pub parted-expired : (now : ℕ) (ps : List Packet) → parted (without_expired now ps) ≡ each (without_expired now) (parted ps)
parted-expired now ps = rw (of-expired now 0 ps, of-expired now 1 ps, of-expired now 2 ps, of-expired now 3 ps)

-- an offer
of-append : (n : ℕ) (ps qs : List Packet) → of n (ps ++ qs) ≡ of n ps ++ of n qs
unfolding of
of-append n [] qs = refl
of-append n (p ∷ ps) qs =
    split (eqb p.priority n) (λ e. rw (e, of-append n ps qs)) (λ e. rw (e, of-append n ps qs))

pub parted_back : (p : Packet) (ps : List Packet) → p.priority ≤ last_priority → parted (at_back p ps)
    ≡ change p.priority (at_back p) (parted ps)
unfolding of
parted_back p ps h =
    rw (of-append 0 ps (p ∷ []), of-append 1 ps (p ∷ []), of-append 2 ps (p ∷ []), of-append 3 ps (p ∷ []))
    (by_four (λ n. four (of 0 ps ++ cond (eqb n 0) (p ∷ []) []) (of 1 ps ++ cond (eqb n 1) (p ∷ []) [])
    (of 2 ps ++ cond (eqb n 2) (p ∷ []) []) (of 3 ps ++ cond (eqb n 3) (p ∷ []) []) ≡ change n (at_back p) (parted ps))
    (simp append-nil) (simp append-nil) (simp append-nil) (simp append-nil) p.priority h)

-- a packet taken away
same_without : (n : ℕ) (ps : List Packet) → of n (without n ps) ≡ drop 1 (of n ps)
unfolding of without
same_without n [] = refl
same_without n (p ∷ ps) =
    split (eqb p.priority n) (λ e. rw e) (λ e. rw (e, e, same_without n ps))

other_without : (n k : ℕ) (ps : List Packet) → eqb n k ≡ false → of k (without n ps) ≡ of k ps
unfolding of without
other_without n k [] d = refl
other_without n k (p ∷ ps) d =
    split (eqb p.priority n)
    (λ e. rw (e, ap (λ (x : ℕ). eqb x k) (eqb-true p.priority n e) ∙ d))
    (λ e. split (eqb p.priority k) (λ f. rw (e, f, other_without n k ps d)) (λ f. rw (e, f, other_without n k ps d)))

pub parted-without : (n : ℕ) (ps : List Packet) → n ≤ last_priority → parted (without n ps) ≡ change n (drop 1) (parted ps)
parted-without n ps h =
    by_four (λ k. parted (without k ps) ≡ change k (drop 1) (parted ps))
    (rw (same_without 0 ps, other_without 0 1 ps refl, other_without 0 2 ps refl, other_without 0 3 ps refl))
    (rw (same_without 1 ps, other_without 1 0 ps refl, other_without 1 2 ps refl, other_without 1 3 ps refl))
    (rw (same_without 2 ps, other_without 2 0 ps refl, other_without 2 1 ps refl, other_without 2 3 ps refl))
    (rw (same_without 3 ps, other_without 3 0 ps refl, other_without 3 1 ps refl, other_without 3 2 ps refl))
    n h

-- the packet picked: no part before its own has any, and it is the front of its own
pub best-le : (p : Packet) (ps : List Packet) → (best p ps).priority ≤ p.priority
unfolding best
best-le p [] = omega arith
best-le p (q ∷ ps) =
    on_cond (λ (m : Packet). m.priority ≤ p.priority) (goes_before q p)
    (λ e. omega (tested, best-le q ps)) (λ e. best-le p ps)

none_before : (k : ℕ) (p : Packet) (ps : List Packet) → k < (best p ps).priority → of k (p ∷ ps) ≡ []
unfolding best of
none_before k p [] h = rw (ne_eqb p.priority k (omega arith))
none_before k p (q ∷ ps) h =
    split (goes_before q p)
    (λ e. let g : k < (best q ps).priority = rw e at h in
    rw (ne_eqb p.priority k (omega (tested, best-le q ps))) (none_before k q ps g))
    (λ e. let g : k < (best p ps).priority = rw e at h in
    let i = none_before k p ps g in
    let a = ne_eqb p.priority k (omega (arith, best-le p ps)) in
    rw (a, ne_eqb q.priority k (omega (tested, best-le p ps))) (rw a at i))

abbrev front_or : Packet → List Packet → Packet
front_or p [] = p
front_or p (q ∷ qs) = q

abbrev Leads : Packet → List Packet → Type 0  -- m is the front of its part
Leads m ps = of m.priority ps ≡ m ∷ drop 1 (of m.priority ps)

leads : (p : Packet) (ps : List Packet) → Leads (best p ps) (p ∷ ps)
unfolding best of
leads p [] = rw (eq-eqb p.priority p.priority refl)
leads p (q ∷ ps) =
    on_cond (λ (m : Packet). Leads m (p ∷ q ∷ ps)) (goes_before q p)
    (λ e. rw (ne_eqb p.priority (best q ps).priority (omega (tested, best-le q ps))) (leads q ps))
    (λ e. split (eqb p.priority (best p ps).priority)
    (λ f. rw f (ap (λ (x : Packet). x ∷ of (best p ps).priority (q ∷ ps)) (ap (front_or p) (rw f at (leads p ps)))))
    (λ f. rw (
      f,
      ne_eqb q.priority (best p ps).priority
          (apart p q ps (omega tested) (eqb-false p.priority (best p ps).priority f)),
    ) (rw f at (leads p ps))))
  where
    apart : (p q : Packet) (ps : List Packet) → p.priority ≤ q.priority → (p.priority ≡ (best p ps).priority → ⊥)
        → q.priority ≡ (best p ps).priority → ⊥
    apart p q ps a n f = n (omega (arith, best-le p ps))

-- the choice of four queues, where those before the nth are empty
at_0 : (m : Packet) (l a b c d : List Packet) → a ≡ m ∷ l → choice (four a b c d) ≡ chosen m (four (drop 1 a) b c d)
unfolding choice
at_0 m l a b c d e = rw e

at_1 : (m : Packet) (l a b c d : List Packet) → a ≡ [] → b ≡ m ∷ l → choice (four a b c d) ≡ chosen m (four a (drop 1 b) c d)
unfolding choice
at_1 m l a b c d e f = rw (e, f)

at_2 : (m : Packet) (l a b c d : List Packet) → a ≡ [] → b ≡ [] → c ≡ m ∷ l → choice (four a b c d)
    ≡ chosen m (four a b (drop 1 c) d)
unfolding choice
at_2 m l a b c d e f g = rw (e, f, g)

at_3 : (m : Packet) (l a b c d : List Packet) → a ≡ [] → b ≡ [] → c ≡ [] → d ≡ m ∷ l → choice (four a b c d)
    ≡ chosen m (four a b c (drop 1 d))
unfolding choice
at_3 m l a b c d e f g h = rw (e, f, g, h)

choice_parts : (m : Packet) (ps : List Packet) (n : ℕ) → n ≤ last_priority → ((k : ℕ) → k < n → of k ps ≡ []) → of n ps
    ≡ m ∷ drop 1 (of n ps)
    → choice (parted ps) ≡ chosen m (change n (drop 1) (parted ps))
choice_parts m ps n h =
    by_four (λ i. ((k : ℕ) → k < i → of k ps ≡ []) → of i ps ≡ m ∷ drop 1 (of i ps) → choice (parted ps)
    ≡ chosen m (change i (drop 1) (parted ps)))
    (λ f e. at_0 m _ (of 0 ps) (of 1 ps) (of 2 ps) (of 3 ps) e)
    (λ f e. at_1 m _ (of 0 ps) (of 1 ps) (of 2 ps) (of 3 ps) (f 0 (omega arith)) e)
    (λ f e. at_2 m _ (of 0 ps) (of 1 ps) (of 2 ps) (of 3 ps) (f 0 (omega arith)) (f 1 (omega arith)) e)
    (λ f e. at_3 m _ (of 0 ps) (of 1 ps) (of 2 ps) (of 3 ps) (f 0 (omega arith)) (f 1 (omega arith)) (f 2 (omega arith)) e)
    n h

pub choice-best : (p : Packet) (ps : List Packet) → p.priority ≤ last_priority
    → choice (parted (p ∷ ps)) ≡ chosen (best p ps) (parted (without (best p ps).priority (p ∷ ps)))
choice-best p ps h =
    let n = (best p ps).priority in
    let a : n ≤ last_priority = omega (arith, best-le p ps) in
    choice_parts (best p ps) (p ∷ ps) n a (λ k g. none_before k p ps g) (leads p ps)
    ∙ ap (chosen (best p ps)) (sym (parted-without n (p ∷ ps) a))

none_chosen : choice (parted []) ≡ nothing
unfolding choice of
none_chosen = refl

pub both_choose : (R : List Packet → Four Packet → Type 0) (ps : List Packet) (now since : ℕ) → Arrived now since ps
    → ((n : ℕ) → R (without n ps) (parted (without n ps))) → BothChoose R (picked ps) (choice (parted ps))
unfolding picked
both_choose R [] now since h r = subst⁻¹ (BothChoose R nothing) none_chosen tt
both_choose R (p ∷ ps) now since h r =
    subst⁻¹ (BothChoose R (chosen (best p ps) (without (best p ps).priority (p ∷ ps)))) (choice-best p ps h.0.0)
    (refl, r (best p ps).priority)
