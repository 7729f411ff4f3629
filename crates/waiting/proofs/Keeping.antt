-- A queue rewritten in place, place by place: cleared behind its first n, and without those that are expired.
use Prim.Native.Nat.{ℕ, zero, suc, ◌+◌, ◌-◌, ◌≤◌, ◌<◌}
use mathlib.Core.Path.{◌≡◌, refl, ap, ap₂, sym, ◌∙◌, subst⁻¹}
use mathlib.Core.Bool.{Bool, true, false, cond}
use mathlib.Core.List.{List, [], ◌∷◌, ◌++◌, map, append-nil}
use native.Mathlib.Numerals.{add-one}
use native.Mathlib.Omega.{arith}
use lib.ListN.{length, take, drop, get_or, set, replicate, length-append, length-take, length-drop, take-append-drop}
use lib.Seq.{take-suc, take-suc-set, drop-set-lt, drop-drop, drop_at, drop-append-add, get_or-drop, length-take-le}
use lib.Seq.{get_or-take}
use Rattle.std.specs.List.{filter, range_with_len}
use Rattle.std.proofs.lemmas.List.FromFn.{fill_by_all}
use Rattle.std.proofs.lemmas.List.Recursion.{and_is}
use Rattle.rules.specs.Profiles.{room}
use Rattle.rules.proofs.Cases.{both}
use Rattle.packing.specs.Packing.{filled, all_are}
use Rattle.packing.proofs.Packing.{set-filled, length-filled}
use Rattle.packing.proofs.Stores.{Stored, clear_begun, clear_next, shift_next, shifted}
use Rattle.waiting.specs.declared.Cell.{Cell}
use Rattle.waiting.specs.Layout.{Rows, rows, Sized, no_cell, cell_at, len_in, put_at, cells, rows_of, items, packed, Packed}
use Rattle.waiting.specs.Layout.{ZeroFrom, is_live, alive}
use Rattle.waiting.proofs.Places.{with_len, length-cells, read_at, put_cells, put_sized, rows-cells, cells-rows, len_cells}
use Rattle.waiting.proofs.Places.{len_set, len_sized}

-- zeros behind a list, from a place past it on
drop_zeros : (m k : ℕ) → drop m (replicate k no_cell) ≡ replicate (k - m) no_cell
drop_zeros zero k =
    let e : k ≡ k - 0 = omega arith in
    ap (λ (n : ℕ). replicate n no_cell) e
drop_zeros (suc m) zero =
    let e : 0 ≡ 0 - suc m = omega arith in
    ap (λ (n : ℕ). replicate n no_cell) e
drop_zeros (suc m) (suc k) =
    let e : k - m ≡ suc k - suc m = omega arith in
    drop_zeros m k ∙ ap (λ (n : ℕ). replicate n no_cell) e

filled_zeros : (cs : List Cell) (m : ℕ) → length cs ≤ m → drop m (filled room no_cell cs) ≡ replicate (room - m) no_cell
unfolding filled
filled_zeros cs m h =
    let e : m ≡ length cs + (m - length cs) = omega arith in
    let f : (room - length cs) - (m - length cs) ≡ room - m = omega arith in
    ap (λ (k : ℕ). drop k (cs ++ replicate (room - length cs) no_cell)) e
    ∙ drop-append-add cs (replicate (room - length cs) no_cell) (m - length cs)
    ∙ drop_zeros (m - length cs) (room - length cs)
    ∙ ap (λ (k : ℕ). replicate k no_cell) f

-- rows that hold nothing but what they mean
pub cells_tight : (r : Rows) → Packed r → cells r ≡ filled room no_cell (items r)
unfolding packed
cells_tight r t = ap cells t ∙ cells-rows (length (items r)) (filled room no_cell (items r))

pub length-items : (r : Rows) → Sized 1 r → len_in r ≤ room → length (items r) ≡ len_in r
length-items r s h = length-take-le (len_in r) (cells r) (omega (arith, length-cells r s))

tight_zero : (r : Rows) → Sized 1 r → Packed r → len_in r ≤ room → ZeroFrom (len_in r) r
tight_zero r s t h =
    ap (drop (len_in r)) (cells_tight r t) ∙ filled_zeros (items r) (len_in r) (omega (arith, length-items r s h))

-- zeros behind the first n, stored up to place i
pub record Clearing (n : ℕ) (r₀ : Rows) (i : ℕ) (r : Rows) : Type 0 where
  pub sized : Sized 1 r
  pub stored : Stored (filled room no_cell (take n (cells r₀))) (cells r₀) i (cells r)

module _ (n : ℕ) (r₀ : Rows) (s : Sized 1 r₀) (b : n ≤ room) where
  pub clearing : Clearing n r₀ n r₀
  clearing = record { sized = s; stored = clear_begun room no_cell (cells r₀) n (length-cells r₀ s) b }

  pub clears_next : (i : ℕ) (r r' : Rows) → Clearing n r₀ i r → n ≤ i → i < room → r' ≡ put_at i no_cell r
      → Clearing n r₀ (i + 1) r'
  clears_next i r r' c h k e =
      subst⁻¹ (Clearing n r₀ (i + 1)) e (record {
        sized = put_sized r c.sized i no_cell;
        stored =
            put_cells r c.sized i no_cell k
            ∙ clear_next room no_cell (cells r₀) n 0 (length-cells r₀ s) b (cells r) i (omega arith) k c.stored;
      })

  cleared_cells : (i : ℕ) (r : Rows) → Clearing n r₀ i r → n ≤ i → ZeroFrom i r₀
      → cells r ≡ filled room no_cell (take n (cells r₀))
  cleared_cells i r c h z =
      let w = filled room no_cell (take n (cells r₀)) in
      let e : drop i (cells r₀) ≡ drop i w =
      z ∙ sym (filled_zeros (take n (cells r₀)) i (omega (arith, length-take n (cells r₀)))) in
      c.stored ∙ ap (λ (l : List Cell). take i w ++ l) e ∙ take-append-drop i w

  pub all_cleared : (i : ℕ) (ws ws' ts : List ℕ) → Clearing n r₀ i (rows ws ts) → n ≤ i → ZeroFrom i r₀ → ws' ≡ set ws 0 n
      → rows ws' ts ≡ packed (take n (cells r₀))
  unfolding packed
  all_cleared i ws ws' ts c h z e =
      let r = rows ws ts in
      ap (λ (l : List ℕ). rows l ts) e ∙ rows-cells (with_len n r) (len_sized n r c.sized)
      ∙ ap₂ rows_of (len_set n r c.sized ∙ sym (length-take-le n (cells r₀) (omega (arith, length-cells r₀ s))))
      (len_cells r c.sized n ∙ cleared_cells i r c h z)

-- those among the first i that are live stand in front, and the places from i on are as they were
alive-append : (now : ℕ) (cs ds : List Cell) → alive now (cs ++ ds) ≡ alive now cs ++ alive now ds
unfolding alive
alive-append now [] ds = refl
alive-append now (c ∷ cs) ds = go (is_live now c) (alive-append now cs ds)
  where
    go : (b : Bool) → alive now (cs ++ ds) ≡ alive now cs ++ alive now ds
        → cond b (c ∷ alive now (cs ++ ds)) (alive now (cs ++ ds)) ≡ cond b (c ∷ alive now cs) (alive now cs) ++ alive now ds
    go true e = ap (λ (x : List Cell). c ∷ x) e
    go false e = e

pub alive-length : (now : ℕ) (cs : List Cell) → length (alive now cs) ≤ length cs
unfolding alive
alive-length now [] = omega arith
alive-length now (c ∷ cs) = go (is_live now c) (alive-length now cs)
  where
    go : (b : Bool) → length (alive now cs) ≤ length cs → length (cond b (c ∷ alive now cs) (alive now cs)) ≤ suc (length cs)
    go true e = omega arith
    go false e = omega arith

-- one more of a list
pub alive_yes : (now : ℕ) (cs : List Cell) (i : ℕ) → i < length cs → is_live now (get_or cs i no_cell) ≡ true
    → alive now (take (i + 1) cs) ≡ alive now (take i cs) ++ (get_or cs i no_cell ∷ [])
unfolding alive
alive_yes now cs i h e = rw (add-one, take-suc cs i no_cell, alive-append, e)

pub alive_no : (now : ℕ) (cs : List Cell) (i : ℕ) → i < length cs → is_live now (get_or cs i no_cell) ≡ false
    → alive now (take (i + 1) cs) ≡ alive now (take i cs)
unfolding alive
alive_no now cs i h e = rw (add-one, take-suc cs i no_cell, alive-append, e) (append-nil _)

pub record Keeping (now : ℕ) (r₀ : Rows) (left i : ℕ) (r : Rows) : Type 0 where
  pub sized : Sized 1 r
  pub few : left ≤ i
  pub kept : take left (cells r) ≡ alive now (take i (cells r₀))
  pub rest : drop i (cells r) ≡ drop i (cells r₀)

module _ (now : ℕ) (r₀ : Rows) (s : Sized 1 r₀) where
  pub keeping : Keeping now r₀ 0 0 r₀
  unfolding alive
  keeping = record { sized = s; few = omega arith; kept = refl; rest = refl }

  module _ (left i : ℕ) (r : Rows) (k : Keeping now r₀ left i r) (h : i < room) where
    same_here : cell_at r i ≡ get_or (cells r₀) i no_cell
    same_here =
        read_at r k.sized i h
        ∙ sym (get_or-drop i (cells r) 0 no_cell ∙ ap (λ (j : ℕ). get_or (cells r) j no_cell) (omega arith))
        ∙ ap (λ (cs : List Cell). get_or cs 0 no_cell) k.rest
        ∙ get_or-drop i (cells r₀) 0 no_cell
        ∙ ap (λ (j : ℕ). get_or (cells r₀) j no_cell) (omega arith)

    further : drop (i + 1) (cells r) ≡ drop (i + 1) (cells r₀)
    further =
        sym (drop-drop 1 i (cells r)) ∙ ap (drop 1) k.rest ∙ drop-drop 1 i (cells r₀)

    -- a packet looked at, and what is left then
    module _ (x : Cell) (q : x ≡ cell_at r i) (left' : ℕ) (r' : Rows) where
      here : is_live now (get_or (cells r₀) i no_cell) ≡ is_live now x
      here = ap (is_live now) (sym (q ∙ same_here))

      pub expires : is_live now x ≡ false → left' ≡ left → r' ≡ r → Keeping now r₀ left' (i + 1) r'
      expires e g f =
          subst⁻¹ (λ (n : ℕ). Keeping now r₀ n (i + 1) r') g (subst⁻¹ (Keeping now r₀ left (i + 1)) f (record {
            sized = k.sized;
            few = omega (arith, k.few);
            kept = k.kept ∙ sym (alive_no now (cells r₀) i (omega (arith, length-cells r₀ s)) (here ∙ e));
            rest = further;
          }))

      pub keeps : is_live now x ≡ true → left' ≡ left + 1 → r' ≡ put_at left (cell_at r i) r → Keeping now r₀ left' (i + 1) r'
      keeps e g moved =
          let f : r' ≡ put_at left x r = moved ∙ ap (λ (y : Cell). put_at left y r) (sym q) in
          let n = length-cells r k.sized in
          let put = put_cells r k.sized left x (omega (arith, k.few)) in
          subst⁻¹ (λ (n : ℕ). Keeping now r₀ n (i + 1) r') g (subst⁻¹ (Keeping now r₀ (left + 1) (i + 1)) f (record {
            sized = put_sized r k.sized left x;
            few = omega (arith, k.few);
            kept =
                ap (take (left + 1)) put
                ∙ rw (add-one left, take-suc-set (cells r) left x (omega (arith, k.few, n)), k.kept)
                (sym (alive_yes now (cells r₀) i (omega (arith, length-cells r₀ s)) (here ∙ e)
                ∙ ap (λ (y : Cell). alive now (take i (cells r₀)) ++ (y ∷ [])) (sym (q ∙ same_here))));
            rest = ap (drop (i + 1)) put ∙ drop-set-lt (i + 1) (cells r) left x (omega (arith, k.few)) ∙ further;
          }))

  -- where all have been looked at, zeros behind those that are left make the places
  pub all_kept : (n left : ℕ) (r : Rows) → n ≤ room → Keeping now r₀ left n r
      → (left ≡ length (alive now (take n (cells r₀)))) × (packed (take left (cells r)) ≡ packed (alive now (take n (cells r₀))))
  all_kept n left r h k = (
    sym (length-take-le left (cells r) (omega (arith, k.few, length-cells r k.sized)))
        ∙ ap (λ (cs : List Cell). length cs) k.kept,
    ap packed k.kept,
  )

  pub kept_zero : Packed r₀ → len_in r₀ ≤ room → (n i left : ℕ) (r : Rows) → n ≡ len_in r₀ → n ≡ i → Keeping now r₀ left i r
      → ZeroFrom n r
  kept_zero t h n i left r z y k =
      subst⁻¹ (λ (m : ℕ). drop m (cells r) ≡ drop m (cells r₀)) y k.rest
      ∙ subst⁻¹ (λ (m : ℕ). ZeroFrom m r₀) z (tight_zero r₀ s t h)

-- those behind the front one moved up, place by place
pub record Shifting (n : ℕ) (r₀ : Rows) (i : ℕ) (r : Rows) : Type 0 where
  pub sized : Sized 1 r
  pub stored : Stored (filled room no_cell (drop 1 (take n (cells r₀)))) (cells r₀) i (cells r)

module _ (n : ℕ) (r₀ : Rows) (s : Sized 1 r₀) (b : n ≤ room) where
  pub shifts_next : (i : ℕ) (r r' : Rows) → Shifting n r₀ i r → i < n - 1 → r' ≡ put_at i (cell_at r (i + 1)) r
      → Shifting n r₀ (i + 1) r'
  shifts_next i r r' c h e =
      subst⁻¹ (Shifting n r₀ (i + 1)) e (record {
        sized = put_sized r c.sized i (cell_at r (i + 1));
        stored =
            put_cells r c.sized i (cell_at r (i + 1)) (omega arith)
            ∙ ap (set (cells r) i) (read_at r c.sized (i + 1) (omega arith))
            ∙ shift_next room no_cell (cells r₀) n 1 (length-cells r₀ s) b (cells r) i h c.stored;
      })

  pub all_shifted : (i left : ℕ) (r : Rows) → Shifting n r₀ i r → i ≡ left → left ≡ n - 1 → n ≡ len_in r₀
      → packed (take left (cells r)) ≡ packed (drop 1 (items r₀))
  all_shifted i left r c z y x =
      let e : i ≡ n - 1 = z ∙ y in
      ap packed (ap (λ (k : ℕ). take k (cells r)) y
      ∙ (shifted room no_cell (cells r₀) n 1 (length-cells r₀ s) b (cells r) (rw e at c.stored)).0
      ∙ ap (λ (k : ℕ). drop 1 (take k (cells r₀))) x)

  pub shifted_zero : Packed r₀ → (i : ℕ) (r : Rows) → Shifting n r₀ i r → suc i ≡ n → n ≡ len_in r₀ → ZeroFrom n r
  shifted_zero t i r c z y =
      let w = filled room no_cell (drop 1 (take n (cells r₀))) in
      let short = length-drop 1 (take n (cells r₀)) in
      let m : length w ≡ room =
      length-filled room no_cell (drop 1 (take n (cells r₀))) (omega (arith, short, length-take n (cells r₀))) in
      let e : drop i (cells r) ≡ drop i (cells r₀) =
      ap (drop i) c.stored ∙ drop_at (take i w) (drop i (cells r₀)) i (length-take-le i w (omega (arith, m))) in
      let j : n ≡ i + 1 = omega arith in
      ap (λ (k : ℕ). drop k (cells r)) j
      ∙ sym (drop-drop 1 i (cells r)) ∙ ap (drop 1) e ∙ drop-drop 1 i (cells r₀)
      ∙ ap (λ (k : ℕ). drop k (cells r₀)) (sym j)
      ∙ subst⁻¹ (λ (k : ℕ). ZeroFrom k r₀) y (tight_zero r₀ s t (omega arith))

-- one more behind
pub pushes : (r : Rows) (x : Cell) (m : ℕ) (ws ws' ts : List ℕ) → Sized 1 r → Packed r → len_in r < room → m ≡ len_in r
    → rows ws ts ≡ put_at m x r → ws' ≡ set ws 0 (m + 1) → rows ws' ts ≡ packed (items r ++ (x ∷ []))
unfolding packed
pushes r x m ws ws' ts s t h z e f =
    let n = length-items r s (omega arith) in
    let p = put_sized r s (len_in r) x in
    ap (λ (l : List ℕ). rows l ts) f
    ∙ ap (with_len (m + 1)) e
    ∙ ap (λ (k : ℕ). with_len (k + 1) (put_at k x r)) z
    ∙ rows-cells (with_len (len_in r + 1) (put_at (len_in r) x r)) (len_sized (len_in r + 1) (put_at (len_in r) x r) p)
    ∙ ap₂ rows_of
    (len_set (len_in r + 1) (put_at (len_in r) x r) p ∙ omega (arith, n, length-append (items r) (x ∷ [])))
    (len_cells (put_at (len_in r) x r) p (len_in r + 1) ∙ put_cells r s (len_in r) x h
    ∙ ap₂ (λ (cs : List Cell) (i : ℕ). set cs i x) (cells_tight r t) (sym n)
    ∙ set-filled room no_cell (items r) x (omega (arith, n)))

-- the live ones of a queue, from its places one by one: whether all are, and how many
live_places : (now : ℕ) (f : ℕ → Cell) (is : List ℕ)
    → length (filter (λ i. is_live now (f i)) is) ≡ length (alive now (map f is))
unfolding alive
live_places now f [] = refl
live_places now f (i ∷ is) = go (is_live now (f i)) (live_places now f is)
  where
    go : (b : Bool) → length (filter (λ j. is_live now (f j)) is) ≡ length (alive now (map f is))
        → length (cond b (i ∷ filter (λ j. is_live now (f j)) is) (filter (λ j. is_live now (f j)) is))
        ≡ length (cond b (f i ∷ alive now (map f is)) (alive now (map f is)))
    go true e = ap suc e
    go false e = e

module _ (now : ℕ) (r : Rows) (s : Sized 1 r) (b : len_in r ≤ room) where
  item_at : (i : ℕ) → i < len_in r → get_or (items r) i no_cell ≡ cell_at r i
  item_at i h = get_or-take (len_in r) (cells r) i no_cell h ∙ sym (read_at r s i (omega arith))

  pub all_live : (u : Bool) → (u ≡ true → (i : ℕ) → i < len_in r → is_live now (cell_at r i) ≡ true)
      → (u ≡ false → (i : ℕ) × (i < len_in r) × (is_live now (cell_at r i) ≡ false)) → u ≡ all_are (is_live now) (items r)
  unfolding all_are
  all_live u good bad =
      let n = length-items r s b in
      and_is (all_are (is_live now)) (is_live now) refl (λ _ _. refl) (items r) no_cell u
      (λ e i h. ap (is_live now) (item_at i (omega arith)) ∙ good e i (omega arith))
      (λ e.
      let f = bad e in
      (f.0, omega (arith, f.1), ap (is_live now) (item_at f.0 f.1) ∙ f.2))

  pub count_alive : length (filter (λ i. is_live now (cell_at r i)) (range_with_len 0 (len_in r))) ≡ length (alive now (items r))
  count_alive =
      live_places now (cell_at r) (range_with_len 0 (len_in r))
      ∙ ap (λ (cs : List Cell). length (alive now cs))
      (sym (fill_by_all (cell_at r) (items r) (len_in r) no_cell (length-items r s b) item_at))

-- where all are live, the rows are those of the live ones already
alive-all : (now : ℕ) (cs : List Cell) → all_are (is_live now) cs ≡ true → alive now cs ≡ cs
unfolding alive all_are
alive-all now [] e = refl
alive-all now (c ∷ cs) e =
    let b = both (is_live now c) (all_are (is_live now) cs) e in
    rw b.0 (ap (λ (l : List Cell). c ∷ l) (alive-all now cs b.1))

pub none-expired : (now : ℕ) (r : Rows) → Packed r → all_are (is_live now) (items r) ≡ true
    → (0 ≡ length (items r) - length (alive now (items r))) × (r ≡ packed (alive now (items r)))
none-expired now r t e =
    let a = alive-all now (items r) e in
    (omega (arith, ap (λ (cs : List Cell). length cs) a), t ∙ ap packed (sym a))
