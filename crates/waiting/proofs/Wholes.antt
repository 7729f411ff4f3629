-- Queues one behind the other: the part of a queue is its own, and a part put back changes no other.
use Prim.Native.Nat.{ℕ, zero, suc, ◌+◌, ◌*◌, ◌-◌, ◌≤◌, ◌<◌}
use mathlib.Core.Path.{◌≡◌, refl, ap, ap₂, sym, ◌∙◌, subst⁻¹}
use mathlib.Core.List.{List, [], ◌∷◌, ◌++◌, map, append_assoc}
use native.Mathlib.Omega.{arith}
use native.Mathlib.Nat.{mul-suc}
use lib.ListN.{length, take, drop, get_or, set, length-append, length-drop, length-take}
use lib.Seq.{take_at, drop_at, take-append-add, drop-append-add, length-take-le}
use Rattle.rules.specs.Profiles.{room}
use Rattle.model.specs.Claims.{All}
use Rattle.waiting.specs.declared.Cell.{Cell}
use Rattle.waiting.specs.Layout.{Rows, rows, Sized, len_in, cells, items, packed, Packed, part, flat, laid, queues, queue_of}
use Rattle.waiting.specs.Layout.{Held, count_in, changed}
use Rattle.waiting.proofs.Places.{length-cells, packed_sized, items-packed}

pub by_four : (P : ℕ → Type 0) → P 0 → P 1 → P 2 → P 3 → (n : ℕ) → n < 4 → P n
by_four P a b c d zero h = a
by_four P a b c d (suc zero) h = b
by_four P a b c d (suc (suc zero)) h = c
by_four P a b c d (suc (suc (suc zero))) h = d
by_four P a b c d (suc (suc (suc (suc n)))) h = absurd (omega arith)

-- pieces of m elements
module _ {A : Type 0} (m : ℕ) where
  abbrev Pieces : List (List A) → Type 0
  Pieces xs = All (λ (x : List A). length x ≡ m) xs

  past : (x xs : List A) (k : ℕ) → length x ≡ m → drop (m * suc k) (x ++ xs) ≡ drop (m * k) xs
  past x xs k h =
      let e : m * suc k ≡ length x + m * k = omega (arith, mul-suc m k) in
      rw e (drop-append-add x xs (m * k))

  upto : (x xs : List A) (k : ℕ) → length x ≡ m → take (m * suc k) (x ++ xs) ≡ x ++ take (m * k) xs
  upto x xs k h =
      let e : m * suc k ≡ length x + m * k = omega (arith, mul-suc m k) in
      rw e (take-append-add x xs (m * k))

  piece_flat : (xs : List (List A)) (k : ℕ) → Pieces xs → k < length xs → take m (drop (m * k) (flat xs)) ≡ get_or xs k []
  unfolding flat
  piece_flat [] k f h = absurd (omega arith)
  piece_flat (x ∷ xs) zero f h =
      let e : m * 0 ≡ 0 = omega arith in
      rw e (take_at x (flat xs) m f.0)
  piece_flat (x ∷ xs) (suc k) f h = rw (past x (flat xs) k f.0) (piece_flat xs k f.1 (omega arith))

  put_flat : (xs : List (List A)) (k : ℕ) (y : List A) → Pieces xs → k < length xs
      → take (m * k) (flat xs) ++ (y ++ drop m (drop (m * k) (flat xs))) ≡ flat (set xs k y)
  unfolding flat
  put_flat [] k y f h = absurd (omega arith)
  put_flat (x ∷ xs) zero y f h =
      let e : m * 0 ≡ 0 = omega arith in
      rw e (ap (λ (z : List A). y ++ z) (drop_at x (flat xs) m f.0))
  put_flat (x ∷ xs) (suc k) y f h =
      rw (past x (flat xs) k f.0, upto x (flat xs) k f.0, append_assoc)
      (ap (λ (z : List A). x ++ z) (put_flat xs k y f.1 (omega arith)))

  length-flat : (xs : List (List A)) → Pieces xs → length (flat xs) ≡ m * length xs
  unfolding flat
  length-flat [] f = omega arith
  length-flat (x ∷ xs) f = omega (arith, length-append x (flat xs), length-flat xs f.1, f.0, mul-suc m (length xs))

-- as the code lends the part of a queue, and as it is put back
abbrev pub lent_rows : ℕ → Rows → Rows
lent_rows k r =
    rows (take ((16 * k + 16) - 16 * k) (drop (16 * k) r.words)) (take ((5 * k + 5) - 5 * k) (drop (5 * k) r.came))

abbrev pub back_rows : ℕ → Rows → Rows → Rows
back_rows k r y =
    rows (take (16 * k) r.words ++ (y.words ++ drop ((16 * k + 16) - 16 * k) (drop (16 * k) r.words)))
    (take (5 * k) r.came ++ (y.came ++ drop ((5 * k + 5) - 5 * k) (drop (5 * k) r.came)))

sixteen : (k : ℕ) → (16 * k + 16) - 16 * k ≡ 16
sixteen k = omega arith

five : (k : ℕ) → (5 * k + 5) - 5 * k ≡ 5
five k = omega arith

pub lent : (k : ℕ) (r : Rows) → lent_rows k r ≡ part k r
lent k r = rw (sixteen k, five k)

pub part_sized : (k : ℕ) (r : Rows) → Sized 4 r → k < 4 → Sized 1 (part k r)
part_sized k r s b =
    record {
      words = length-take-le 16 (drop (16 * k) r.words) (omega (arith, length-drop (16 * k) r.words, s.words));
      came = length-take-le 5 (drop (5 * k) r.came) (omega (arith, length-drop (5 * k) r.came, s.came));
    }

-- lists that are short enough
abbrev pub Short : List (List Cell) → Type 0
Short qs = All (λ (q : List Cell). length q ≤ room) qs

words_pieces : (qs : List (List Cell)) → Short qs → Pieces 16 (map (λ (q : Rows). q.words) (map packed qs))
words_pieces [] h = tt
words_pieces (q ∷ qs) h = ((packed_sized q h.0).words, words_pieces qs h.1)

came_pieces : (qs : List (List Cell)) → Short qs → Pieces 5 (map (λ (q : Rows). q.came) (map packed qs))
came_pieces [] h = tt
came_pieces (q ∷ qs) h = ((packed_sized q h.0).came, came_pieces qs h.1)

read_map : {A B : Type 0} (f : A → List B) (g : List Cell → A) (qs : List (List Cell)) (k : ℕ) → k < length qs
    → get_or (map f (map g qs)) k [] ≡ f (g (queue_of qs k))
read_map f g [] k h = absurd (omega arith)
read_map f g (q ∷ qs) zero h = refl
read_map f g (q ∷ qs) (suc k) h = read_map f g qs k (omega arith)

set-map : {A B : Type 0} (f : A → List B) (g : List Cell → A) (qs : List (List Cell)) (k : ℕ) (x : List Cell)
    → set (map f (map g qs)) k (f (g x)) ≡ map f (map g (set qs k x))
set-map f g [] k x = refl
set-map f g (q ∷ qs) zero x = refl
set-map f g (q ∷ qs) (suc k) x = ap (λ (l : List (List _)). f (g q) ∷ l) (set-map f g qs k x)

length_maps : {A B : Type 0} (f : A → List B) (g : List Cell → A) (qs : List (List Cell)) → length (map f (map g qs)) ≡ length qs
length_maps f g [] = refl
length_maps f g (q ∷ qs) = ap suc (length_maps f g qs)

module _ (qs : List (List Cell)) (h : Short qs) where
  abbrev words_in : List (List ℕ)
  words_in = map (λ (q : Rows). q.words) (map packed qs)

  abbrev came_in : List (List ℕ)
  came_in = map (λ (q : Rows). q.came) (map packed qs)

  words_many : length words_in ≡ length qs
  words_many = length_maps (λ (q : Rows). q.words) packed qs

  came_many : length came_in ≡ length qs
  came_many = length_maps (λ (q : Rows). q.came) packed qs

  pub part-laid : (k : ℕ) → k < length qs → part k (laid qs) ≡ packed (queue_of qs k)
  unfolding laid
  part-laid k b =
      ap₂ rows
      (piece_flat 16 words_in k (words_pieces qs h) (omega (arith, words_many)) ∙ read_map (λ (q : Rows). q.words) packed qs k b)
      (piece_flat 5 came_in k (came_pieces qs h) (omega (arith, came_many)) ∙ read_map (λ (q : Rows). q.came) packed qs k b)

  pub put_laid : (k : ℕ) (x : List Cell) → k < length qs → back_rows k (laid qs) (packed x) ≡ laid (set qs k x)
  unfolding laid
  put_laid k x b =
      rw (sixteen k, five k)
      (ap₂ rows
      (put_flat 16 words_in k (packed x).words (words_pieces qs h) (omega (arith, words_many))
      ∙ ap flat (set-map (λ (q : Rows). q.words) packed qs k x))
      (put_flat 5 came_in k (packed x).came (came_pieces qs h) (omega (arith, came_many))
      ∙ ap flat (set-map (λ (q : Rows). q.came) packed qs k x)))

  pub laid_sized : length qs ≡ 4 → Sized 4 (laid qs)
  unfolding laid
  laid_sized e =
      record {
        words = omega (arith, length-flat 16 words_in (words_pieces qs h), words_many);
        came = omega (arith, length-flat 5 came_in (came_pieces qs h), came_many);
      }

-- four lists laid out are those four
queues-four : (a b c d : List Cell) → Short (a ∷ b ∷ c ∷ d ∷ []) → queues (laid (a ∷ b ∷ c ∷ d ∷ [])) ≡ a ∷ b ∷ c ∷ d ∷ []
unfolding queues
queues-four a b c d h = λ i. first i ∷ second i ∷ third i ∷ fourth i ∷ []
  where
    own : (k : ℕ) → k < 4 → items (part k (laid (a ∷ b ∷ c ∷ d ∷ []))) ≡ queue_of (a ∷ b ∷ c ∷ d ∷ []) k
    own k l = ap items (part-laid (a ∷ b ∷ c ∷ d ∷ []) h k l) ∙ items-packed (queue_of (a ∷ b ∷ c ∷ d ∷ []) k)

    first : items (part 0 (laid (a ∷ b ∷ c ∷ d ∷ []))) ≡ a
    first = own 0 (omega arith)

    second : items (part 1 (laid (a ∷ b ∷ c ∷ d ∷ []))) ≡ b
    second = own 1 (omega arith)

    third : items (part 2 (laid (a ∷ b ∷ c ∷ d ∷ []))) ≡ c
    third = own 2 (omega arith)

    fourth : items (part 3 (laid (a ∷ b ∷ c ∷ d ∷ []))) ≡ d
    fourth = own 3 (omega arith)

pub queues-laid : (qs : List (List Cell)) → length qs ≡ 4 → Short qs → queues (laid qs) ≡ qs
queues-laid [] e h = absurd (omega arith)
queues-laid (a ∷ []) e h = absurd (omega arith)
queues-laid (a ∷ b ∷ []) e h = absurd (omega arith)
queues-laid (a ∷ b ∷ c ∷ []) e h = absurd (omega arith)
queues-laid (a ∷ b ∷ c ∷ d ∷ []) e h = queues-four a b c d h
queues-laid (a ∷ b ∷ c ∷ d ∷ f ∷ qs) e h = absurd (omega arith)

pub held-laid : (qs : List (List Cell)) → length qs ≡ 4 → Short qs → Held (laid qs)
held-laid qs e h = record { size = laid_sized qs h e; tight = ap laid (sym (queues-laid qs e h)) }

-- what rows mean is short, and of rows that are held the part of a queue is its own
items_short : (r : Rows) → Sized 1 r → length (items r) ≤ room
items_short r s = omega (arith, length-take (len_in r) (cells r), length-cells r s)

pub queues_short : (r : Rows) → Sized 4 r → Short (queues r)
unfolding queues
queues_short r s = (own 0 (omega arith), (own 1 (omega arith), (own 2 (omega arith), (own 3 (omega arith), tt))))
  where
    own : (k : ℕ) → k < 4 → length (items (part k r)) ≤ room
    own k l = items_short (part k r) (part_sized k r s l)

pub four-queues : (r : Rows) → length (queues r) ≡ 4
unfolding queues
four-queues r = refl

pub count_four : (r : Rows)
    → count_in (queues r)
    ≡ length (queue_of (queues r) 0) + length (queue_of (queues r) 1) + length (queue_of (queues r) 2)
    + length (queue_of (queues r) 3)
unfolding queues count_in
count_four r = omega arith

pub queue_short : (r : Rows) → Sized 4 r → (k : ℕ) → k < 4 → length (queue_of (queues r) k) ≤ room
unfolding queues
queue_short r s k b = by_four (λ k. length (queue_of (queues r) k) ≤ room) h.0 h.1.0 h.1.1.0 h.1.1.1.0 k b
  where
    h : Short (queues r)
    h = queues_short r s

pub queue_items : (r : Rows) (k : ℕ) → k < 4 → queue_of (queues r) k ≡ items (part k r)
unfolding queues
queue_items r = by_four (λ k. queue_of (queues r) k ≡ items (part k r)) refl refl refl refl

module _ (r : Rows) (h : Held r) (k : ℕ) (b : k < 4) where
  pub part-packed : part k r ≡ packed (queue_of (queues r) k)
  part-packed =
      ap (part k) h.tight ∙ part-laid (queues r) (queues_short r h.size) k (omega (arith, four-queues r))

  pub part_tight : Packed (lent_rows k r)
  part_tight =
      subst⁻¹ Packed (lent k r) (part-packed ∙ ap packed (queue_items r k b))

  pub lent_sized : Sized 1 (lent_rows k r)
  lent_sized = subst⁻¹ (Sized 1) (lent k r) (part_sized k r h.size b)

  pub lent_items : items (lent_rows k r) ≡ queue_of (queues r) k
  lent_items = ap items (lent k r) ∙ sym (queue_items r k b)

  pub lent_len : len_in (lent_rows k r) ≡ length (queue_of (queues r) k)
  unfolding packed
  lent_len = ap len_in (lent k r) ∙ ap len_in part-packed

  pub lent_short : len_in (lent_rows k r) ≤ room
  lent_short =
      omega (
        arith,
        lent_len,
        ap (λ (q : List Cell). length q) (queue_items r k b),
        items_short (part k r) (part_sized k r h.size b),
      )

  -- a part put back that was changed
  pub put_back : (f : List Cell → List Cell) (y : Rows) → y ≡ packed (f (items (lent_rows k r)))
      → back_rows k r y ≡ laid (changed k f (queues r))
  put_back f y e =
      ap₂ (back_rows k) h.tight (e ∙ ap (λ (q : List Cell). packed (f q)) lent_items)
      ∙ put_laid (queues r) (queues_short r h.size) k (f (queue_of (queues r) k)) (omega (arith, four-queues r))
