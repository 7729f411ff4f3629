-- Queue after queue: what is expired goes, and the first that is live is found.
use Prim.Native.Nat.{ℕ, ◌+◌, ◌-◌, ◌≤◌, ◌<◌}
use mathlib.Core.Path.{◌≡◌, refl, ap, sym, ◌∙◌, subst⁻¹}
use mathlib.Core.Bool.{true, false}
use mathlib.Core.List.{List, [], ◌∷◌, ◌++◌, map}
use native.Mathlib.Omega.{arith}
use lib.ListN.{length, take, drop, length-append, length-take, length-drop, length-map}
use Rattle.rules.specs.Profiles.{room}
use Rattle.packing.proofs.Walk.{next, done, next_of, done_of}
use Rattle.waiting.specs.declared.Cell.{Cell}
use Rattle.std.proofs.Common.{Some, None}
use Rattle.waiting.specs.Layout.{Rows, Sized, no_cell, cell_at, len_in, cells, items, packed, queues, queue_of, laid, Held}
use Rattle.waiting.specs.Layout.{is_live, alive, count_in, changed, found_at, first_or, found_from}
use Rattle.waiting.proofs.Places.{length-cells, read_at}
use Rattle.waiting.proofs.Keeping.{alive-length}
use Rattle.waiting.proofs.Wholes.{by_four, Short, queues_short, queues-laid, four-queues, held-laid, lent_rows, back_rows}
use Rattle.waiting.proofs.Wholes.{lent_items, lent_sized, lent_short, put_back}

-- the first k without their expired packets
abbrev mixed : (now k : ℕ) → List (List Cell) → List (List Cell)
mixed now k qs = take k (map (alive now) qs) ++ drop k qs

length_mixed : (now k : ℕ) (qs : List (List Cell)) → k ≤ length qs → length (mixed now k qs) ≡ length qs
length_mixed now k qs h =
    omega (
      arith,
      length-append (take k (map (alive now) qs)) (drop k qs),
      length-take k (map (alive now) qs),
      length-drop k qs,
      length-map qs (alive now),
    )

module _ (now : ℕ) (a b c d : List Cell) where
  abbrev qs : List (List Cell)
  qs = a ∷ b ∷ c ∷ d ∷ []

  less : (q : List Cell) → length q ≤ room → length (alive now q) ≤ room
  less q m = omega (arith, alive-length now q)

  short_mixed : (k : ℕ) → k < 4 → Short qs → Short (mixed now k qs)
  short_mixed k h s =
      by_four (λ k. Short (mixed now k qs)) s (less a s.0, s.1) (less a s.0, (less b s.1.0, s.1.1))
      (less a s.0, (less b s.1.0, (less c s.1.1.0, s.1.1.1))) k h

  short_all : Short qs → Short (map (alive now) qs)
  short_all s = (less a s.0, (less b s.1.0, (less c s.1.1.0, (less d s.1.1.1.0, tt))))

  mixed_next : (k : ℕ) → k < 4 → changed k (alive now) (mixed now k qs) ≡ mixed now (k + 1) qs
  mixed_next = by_four (λ k. changed k (alive now) (mixed now k qs) ≡ mixed now (k + 1) qs) refl refl refl refl

  count_next : (k : ℕ) → k < 4
      → count_in (mixed now (k + 1) qs) + length (queue_of (mixed now k qs) k)
      ≡ count_in (mixed now k qs) + length (alive now (queue_of (mixed now k qs) k))
  unfolding count_in
  count_next =
      by_four (λ k. count_in (mixed now (k + 1) qs) + length (queue_of (mixed now k qs) k)
      ≡ count_in (mixed now k qs) + length (alive now (queue_of (mixed now k qs) k)))
      (omega arith) (omega arith) (omega arith) (omega arith)

pub record Expiring (now : ℕ) (r₀ : Rows) (k gone : ℕ) (r : Rows) : Type 0 where
  pub places : r ≡ laid (mixed now k (queues r₀))
  pub sum : gone + count_in (mixed now k (queues r₀)) ≡ count_in (queues r₀)

pub twenty : (r : Rows) → Sized 4 r → count_in (queues r) ≤ 20
unfolding queues count_in
twenty r s = let h = queues_short r s in omega (arith, h.0, h.1.0, h.1.1.0, h.1.1.1.0)

module _ (now : ℕ) (r₀ : Rows) (h : Held r₀) where
  module _ (k gone : ℕ) (r : Rows) (b : k < 4) (e : Expiring now r₀ k gone r) where
    short_now : Short (mixed now k (queues r₀))
    unfolding queues
    short_now = short_mixed now _ _ _ _ k b (queues_short r₀ h.size)

    four_now : length (mixed now k (queues r₀)) ≡ 4
    four_now = length_mixed now k (queues r₀) (omega (arith, four-queues r₀)) ∙ four-queues r₀

    pub held_now : Held r
    held_now = subst⁻¹ Held e.places (held-laid (mixed now k (queues r₀)) four_now short_now)

    queues_now : queues r ≡ mixed now k (queues r₀)
    queues_now = ap queues e.places ∙ queues-laid (mixed now k (queues r₀)) four_now short_now

    next_mixed : changed k (alive now) (mixed now k (queues r₀)) ≡ mixed now (k + 1) (queues r₀)
    unfolding queues
    next_mixed = mixed_next now _ _ _ _ k b

    next_count : count_in (mixed now (k + 1) (queues r₀)) + length (queue_of (mixed now k (queues r₀)) k)
        ≡ count_in (mixed now k (queues r₀)) + length (alive now (queue_of (mixed now k (queues r₀)) k))
    unfolding queues
    next_count = count_next now _ _ _ _ k b

    pub expires_next : (y r' : Rows) (more : ℕ) → y ≡ packed (alive now (items (lent_rows k r)))
        → more ≡ length (items (lent_rows k r)) - length (alive now (items (lent_rows k r))) → r' ≡ back_rows k r y
        → Expiring now r₀ (k + 1) (gone + more) r'
    expires_next y r' more f g i =
        let q : items (lent_rows k r) ≡ queue_of (mixed now k (queues r₀)) k =
        lent_items r held_now k b ∙ ap (λ (l : List (List Cell)). queue_of l k) queues_now in
        let n : more ≡ length (queue_of (mixed now k (queues r₀)) k) - length (alive now (queue_of (mixed now k (queues r₀)) k)) =
        g ∙ ap (λ (l : List Cell). length l - length (alive now l)) q in
        record {
          places =
              i ∙ put_back r held_now k b (alive now) y f
              ∙ ap (λ (l : List (List Cell)). laid (changed k (alive now) l)) queues_now
              ∙ ap laid next_mixed;
          sum = omega (arith, e.sum, n, next_count, alive-length now (queue_of (mixed now k (queues r₀)) k));
        }

  pub few_gone : (k gone : ℕ) (r : Rows) → Expiring now r₀ k gone r → gone ≤ 20
  few_gone k gone r e = omega (arith, e.sum, twenty r₀ h.size)

  all_mixed : mixed now 4 (queues r₀) ≡ map (alive now) (queues r₀)
  unfolding queues
  all_mixed = refl

  pub live_short : Short (map (alive now) (queues r₀))
  unfolding queues
  live_short = short_all now _ _ _ _ (queues_short r₀ h.size)

  pub all-expired : (k gone : ℕ) (r : Rows) → k ≡ 4 → Expiring now r₀ k gone r
      → (gone ≡ count_in (queues r₀) - count_in (map (alive now) (queues r₀))) × (r ≡ laid (map (alive now) (queues r₀)))
  all-expired k gone r z e =
      let m : mixed now k (queues r₀) ≡ map (alive now) (queues r₀) =
      ap (λ (n : ℕ). mixed now n (queues r₀)) z ∙ all_mixed in
      (omega (arith, e.sum, ap count_in m), e.places ∙ ap laid m)

-- the search: nothing was found before queue k, and in it before place i
abbrev pub Sought : (now : ℕ) → Rows → (k : ℕ) → Type 0
Sought now r k = found_from now 0 (queues r) ≡ found_from now k (drop k (queues r))

abbrev pub SoughtIn : (now : ℕ) → Rows → (k i : ℕ) → Type 0
SoughtIn now r k i =
    found_from now 0 (queues r)
    ≡ first_or k (alive now (drop i (items (lent_rows k r)))) (found_from now (k + 1) (drop (k + 1) (queues r)))

module _ (now : ℕ) (r : Rows) (h : Held r) (k : ℕ) (b : k < 4) where
  pub seek_in : Sought now r k → SoughtIn now r k 0
  unfolding found_from
  seek_in e = e ∙ rw (next [] (queues r) k (omega (arith, four-queues r)), lent_items r h k b)

  module _ (i : ℕ) (e : SoughtIn now r k i) (l : i < len_in (lent_rows k r)) (x : Cell) (q : x ≡ cell_at (lent_rows k r) i) where
    split_cell : drop i (items (lent_rows k r)) ≡ x ∷ drop (i + 1) (items (lent_rows k r))
    split_cell =
        let s = lent_sized r h k b in
        let m = lent_short r h k b in
        next_of no_cell (cells (lent_rows k r)) (len_in (lent_rows k r)) i l (omega (arith, length-cells (lent_rows k r) s))
        ∙ ap (λ (y : Cell). y ∷ drop (i + 1) (items (lent_rows k r))) (sym (q ∙ read_at (lent_rows k r) s i (omega arith)))

    pub found_here : is_live now x ≡ true → found_from now 0 (queues r) ≡ Some (found_at k x)
    unfolding alive first_or
    found_here f = e ∙ rw (split_cell, f)

    pub not_here : is_live now x ≡ false → SoughtIn now r k (i + 1)
    unfolding alive
    not_here f = e ∙ rw (split_cell, f)

  pub none_in : (i : ℕ) → SoughtIn now r k i → len_in (lent_rows k r) ≤ i → Sought now r (k + 1)
  unfolding alive first_or
  none_in i e l =
      let m = lent_short r h k b in
      e
      ∙ rw (done_of no_cell (cells (lent_rows k r)) (len_in (lent_rows k r)) i l
      (omega (arith, length-cells (lent_rows k r) (lent_sized r h k b))))

pub none_found : (now : ℕ) (r : Rows) (k : ℕ) → Sought now r k → 4 ≤ k → found_from now 0 (queues r) ≡ None
unfolding found_from
none_found now r k e h = e ∙ rw (done [] (queues r) k (omega (arith, four-queues r)))
