-- A queue's rows are its length and one list of cells: places read and written one by one are those of the list.
use Prim.Native.Nat.{ℕ, zero, suc, ◌+◌, ◌*◌, ◌≤◌, ◌<◌}
use mathlib.Core.Path.{◌≡◌, refl, ap, ap₂, sym, ◌∙◌}
use mathlib.Core.Bool.{Bool, true, false, ◌&&◌}
use mathlib.Core.List.{List, [], ◌∷◌, map}
use native.Mathlib.Omega.{arith}
use lib.ListN.{length, take, drop, get_or, set, length-map, length-set}
use lib.Dec.{eqb}
use lib.Seq.{get_or-drop}
use Rattle.rules.specs.Profiles.{room}
use Rattle.packing.specs.Packing.{filled, all_are, is_unused}
use Rattle.packing.proofs.Packing.{length-filled, list_filled}
use Rattle.waiting.specs.declared.Cell.{Cell}
use Rattle.waiting.specs.Layout.{Rows, rows, Sized, cell, no_cell, cell_at, len_in, put_at, triples, cells, words_of, rows_of}
use Rattle.waiting.specs.Layout.{items, packed, is_zero}

-- the length written
abbrev pub with_len : ℕ → Rows → Rows
with_len n r = rows (set r.words 0 n) r.came

length-triples : (ws ts : List ℕ) → length (triples ws ts) ≡ length ts
unfolding triples
length-triples ws [] = refl
length-triples ws (t ∷ ts) = ap suc (length-triples (drop 3 ws) ts)

-- three further on
further : (ws : List ℕ) (i j : ℕ) → get_or (drop 3 ws) (3 * i + j) 0 ≡ get_or ws (3 * suc i + j) 0
further ws i j =
    let e : 3 + (3 * i + j) ≡ 3 * suc i + j = omega arith in
    get_or-drop 3 ws (3 * i + j) 0 ∙ ap (λ (n : ℕ). get_or ws n 0) e

get_d_triples : (ws ts : List ℕ) (i : ℕ) → i < length ts
    → get_or (triples ws ts) i no_cell
    ≡ cell (get_or ws (3 * i + 0) 0) (get_or ws (3 * i + 1) 0) (get_or ws (3 * i + 2) 0) (get_or ts i 0)
unfolding triples
get_d_triples ws [] i h = absurd (omega arith)
get_d_triples ws (t ∷ ts) zero h = refl
get_d_triples ws (t ∷ ts) (suc i) h =
    get_d_triples (drop 3 ws) ts i (omega arith) ∙ rw (further ws i 0, further ws i 1, further ws i 2)

-- three words stored
abbrev three : List ℕ → ℕ → Cell → List ℕ
three ws i c = set (set (set ws (3 * i + 0) c.id) (3 * i + 1) c.ontime) (3 * i + 2) c.lifetime

set-triples : (ws ts : List ℕ) (i : ℕ) (c : Cell) → length ws ≡ 3 * length ts
    → triples (three ws i c) (set ts i c.arrival) ≡ set (triples ws ts) i c
unfolding triples
set-triples ws [] i c h = refl
set-triples [] (t ∷ ts) i c h = absurd (omega arith)
set-triples (x ∷ []) (t ∷ ts) i c h = absurd (omega arith)
set-triples (x ∷ y ∷ []) (t ∷ ts) i c h = absurd (omega arith)
set-triples (x ∷ y ∷ z ∷ ws) (t ∷ ts) zero c h = refl
set-triples (x ∷ y ∷ z ∷ ws) (t ∷ ts) (suc i) c h =
    let e : 3 * suc i + 0 ≡ suc (suc (suc (3 * i + 0))) = omega arith in
    let f : 3 * suc i + 1 ≡ suc (suc (suc (3 * i + 1))) = omega arith in
    let g : 3 * suc i + 2 ≡ suc (suc (suc (3 * i + 2))) = omega arith in
    rw (e, f, g) (ap (λ (cs : List Cell). cell x y z t ∷ cs) (set-triples ws ts i c (omega arith)))

-- what was read is laid out again, and what is laid out is read again
words_triples : (ws ts : List ℕ) → length ws ≡ 3 * length ts → ws ≡ words_of (triples ws ts)
unfolding triples words_of
words_triples [] [] h = refl
words_triples (x ∷ ws) [] h = absurd (omega arith)
words_triples [] (t ∷ ts) h = absurd (omega arith)
words_triples (x ∷ []) (t ∷ ts) h = absurd (omega arith)
words_triples (x ∷ y ∷ []) (t ∷ ts) h = absurd (omega arith)
words_triples (x ∷ y ∷ z ∷ ws) (t ∷ ts) h = ap (λ (l : List ℕ). x ∷ y ∷ z ∷ l) (words_triples ws ts (omega arith))

came_triples : (ws ts : List ℕ) → ts ≡ map (λ (c : Cell). c.arrival) (triples ws ts)
unfolding triples
came_triples ws [] = refl
came_triples ws (t ∷ ts) = ap (λ (l : List ℕ). t ∷ l) (came_triples (drop 3 ws) ts)

-- zeros place by place, or in each row
rows_first : (a b c d w t : Bool)
    → ((a && (b && (c && (d && true)))) && (w && t)) ≡ ((a && (b && (c && w))) && (d && t))
rows_first false b c d w t = refl
rows_first true false c d w t = refl
rows_first true true false d w t = refl
rows_first true true true true w t = refl
rows_first true true true false true t = refl
rows_first true true true false false t = refl

zero-triples : (ws ts : List ℕ) → length ws ≡ 3 * length ts
    → all_are is_zero (triples ws ts) ≡ (all_are is_unused ws && all_are is_unused ts)
unfolding triples all_are
zero-triples [] [] h = refl
zero-triples (x ∷ ws) [] h = absurd (omega arith)
zero-triples [] (t ∷ ts) h = absurd (omega arith)
zero-triples (x ∷ []) (t ∷ ts) h = absurd (omega arith)
zero-triples (x ∷ y ∷ []) (t ∷ ts) h = absurd (omega arith)
zero-triples (x ∷ y ∷ z ∷ ws) (t ∷ ts) h =
    ap (λ (b : Bool). is_zero (cell x y z t) && b) (zero-triples ws ts (omega arith))
    ∙ rows_first (eqb x 0) (eqb y 0) (eqb z 0) (eqb t 0) (all_are is_unused ws) (all_are is_unused ts)

pub cells-rows : (n : ℕ) (cs : List Cell) → cells (rows_of n cs) ≡ cs
unfolding triples words_of
cells-rows n [] = refl
cells-rows n (c ∷ cs) = ap (λ (x : List Cell). c ∷ x) (cells-rows n cs)

length_words : (cs : List Cell) → length (words_of cs) ≡ 3 * length cs
unfolding words_of
length_words [] = refl
length_words (c ∷ cs) = omega (arith, length_words cs)

-- the same of a queue's rows
tail_length : (ws : List ℕ) (n : ℕ) → length ws ≡ suc n → length (drop 1 ws) ≡ n
tail_length [] n h = absurd (omega arith)
tail_length (w ∷ ws) n h = omega arith

-- a place of the words is one past that of their tail
word_at : (ws : List ℕ) (m n : ℕ) → n ≡ suc m → get_or ws n 0 ≡ get_or (drop 1 ws) m 0
word_at [] m n e = refl
word_at (w ∷ ws) m n e = rw e

store_at : (ws : List ℕ) (m n x : ℕ) → n ≡ suc m → drop 1 (set ws n x) ≡ set (drop 1 ws) m x
store_at [] m n x e = refl
store_at (w ∷ ws) m n x e = rw e

tail_first : (ws : List ℕ) (x : ℕ) → drop 1 (set ws 0 x) ≡ drop 1 ws
tail_first [] x = refl
tail_first (w ∷ ws) x = refl

head_tail : (ws : List ℕ) (n : ℕ) → length ws ≡ suc n → ws ≡ get_or ws 0 0 ∷ drop 1 ws
head_tail [] n h = absurd (omega arith)
head_tail (w ∷ ws) n h = refl

first_zero : (ws : List ℕ) → get_or ws 0 0 ≡ 0 → all_are is_unused (drop 1 ws) ≡ all_are is_unused ws
unfolding all_are
first_zero [] z = refl
first_zero (w ∷ ws) z = rw z

first_set : (ws : List ℕ) (n x : ℕ) → length ws ≡ suc n → get_or (set ws 0 x) 0 0 ≡ x
first_set [] n x h = absurd (omega arith)
first_set (w ∷ ws) n x h = refl

module _ (r : Rows) (s : Sized 1 r) where
  tail_sized : length (drop 1 r.words) ≡ 3 * length r.came
  tail_sized = omega (arith, tail_length r.words 15 s.words, s.came)

  pub length-cells : length (cells r) ≡ room
  length-cells = length-triples (drop 1 r.words) r.came ∙ s.came

  pub read_at : (i : ℕ) → i < room → cell_at r i ≡ get_or (cells r) i no_cell
  read_at i h =
      rw (
        word_at r.words (3 * i + 2) (1 + 3 * i + 2) (omega arith),
        word_at r.words (3 * i + 1) (1 + 3 * i + 1) (omega arith),
        word_at r.words (3 * i + 0) (1 + 3 * i) (omega arith),
      ) (sym (get_d_triples (drop 1 r.words) r.came i (omega (arith, s.came))))

  pub put_cells : (i : ℕ) (c : Cell) → i < room → cells (put_at i c r) ≡ set (cells r) i c
  put_cells i c h =
      let ws = r.words in
      let one = set ws (1 + 3 * i) c.id in
      let two = set one (1 + 3 * i + 1) c.ontime in
      rw (
        store_at two (3 * i + 2) (1 + 3 * i + 2) c.lifetime (omega arith),
        store_at one (3 * i + 1) (1 + 3 * i + 1) c.ontime (omega arith),
        store_at ws (3 * i + 0) (1 + 3 * i) c.id (omega arith),
      ) (set-triples (drop 1 ws) r.came i c tail_sized)

  pub put_sized : (i : ℕ) (c : Cell) → Sized 1 (put_at i c r)
  put_sized i c =
      record {
        words = simp length-set s.words;
        came = length-set r.came i c.arrival ∙ s.came;
      }

  pub zero-cells : len_in r ≡ 0 → all_are is_zero (cells r) ≡ (all_are is_unused r.words && all_are is_unused r.came)
  zero-cells z =
      zero-triples (drop 1 r.words) r.came tail_sized
      ∙ ap (λ (b : Bool). b && all_are is_unused r.came) (first_zero r.words z)

  pub len_cells : (n : ℕ) → cells (with_len n r) ≡ cells r
  len_cells n = rw (tail_first r.words n)

  pub rows-cells : r ≡ rows_of (len_in r) (cells r)
  rows-cells =
      ap₂ (λ (ws ts : List ℕ). rows ws ts)
      (head_tail r.words 15 s.words
      ∙ ap (λ (l : List ℕ). len_in r ∷ l) (words_triples (drop 1 r.words) r.came tail_sized))
      (came_triples (drop 1 r.words) r.came)

pub len_sized : (n : ℕ) (r : Rows) → Sized 1 r → Sized 1 (with_len n r)
len_sized n r s = record { words = length-set r.words 0 n ∙ s.words; came = s.came }

pub len_set : (n : ℕ) (r : Rows) → Sized 1 r → len_in (with_len n r) ≡ n
len_set n r s = first_set r.words 15 n s.words

pub rows_sized : (n : ℕ) (cs : List Cell) → length cs ≡ room → Sized 1 (rows_of n cs)
rows_sized n cs h =
    record { words = omega (arith, length_words cs); came = omega (arith, length-map cs (λ (c : Cell). c.arrival)) }

-- a queue's rows of a list
pub packed_sized : (cs : List Cell) → length cs ≤ room → Sized 1 (packed cs)
unfolding packed
packed_sized cs h = rows_sized (length cs) (filled room no_cell cs) (length-filled room no_cell cs h)

pub items-packed : (cs : List Cell) → items (packed cs) ≡ cs
unfolding packed
items-packed cs = ap (take (length cs)) (cells-rows (length cs) (filled room no_cell cs)) ∙ list_filled room no_cell cs
