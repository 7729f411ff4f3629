-- A queue is judged place by place: the packets first, each against the one before it, then the zeros behind them. Where nothing
-- waits it is judged at once: all of it is zero.
use Prim.Native.Nat.{ℕ, zero, suc, ◌+◌, ◌-◌, ◌≤◌, ◌<◌}
use mathlib.Core.Path.{◌≡◌, refl, ap, sym, ◌∙◌}
use mathlib.Core.Bool.{Bool, true, false, ◌&&◌, and-true}
use mathlib.Core.List.{List, [], ◌∷◌}
use native.Mathlib.Omega.{arith}
use lib.Dec.{ltb}
use lib.ListN.{take, drop}
use borrow.Author.Tests.{le-leb, lt-leb, ltb-true, ltb-false}
use Rattle.rules.specs.Profiles.{room}
use Rattle.rules.proofs.Cases.{split}
use Rattle.packing.specs.Packing.{all_are, is_unused, padded}
use Rattle.packing.proofs.Walk.{next, done}
use Rattle.waiting.specs.declared.Cell.{Cell}
use Rattle.waiting.specs.Layout.{Rows, Sized, no_cell, cell_at, len_in, cells, is_zero, cell_sound, cells_sound}
use Rattle.waiting.specs.Layout.{place_sound, sound_queue}
use Rattle.waiting.proofs.Places.{length-cells, read_at, zero-cells}

-- n packets, the first of them no earlier than `since`, and zeros behind them
unfoldable pub fits : (most now since : ℕ) → List Cell → (n : ℕ) → Bool
fits most now since [] n = true
fits most now since (c ∷ cs) zero = is_zero c && fits most now c.arrival cs zero
fits most now since (c ∷ cs) (suc n) = cell_sound most now since c && fits most now c.arrival cs n

swap : (a b c : Bool) → (a && (b && c)) ≡ (b && (a && c))
swap true b c = refl
swap false true c = refl
swap false false c = refl

fits_zero : (most now since : ℕ) (cs : List Cell) → fits most now since cs 0 ≡ all_are is_zero cs
unfolding fits all_are
fits_zero most now since [] = refl
fits_zero most now since (c ∷ cs) = ap (λ (b : Bool). is_zero c && b) (fits_zero most now c.arrival cs)

fits_both : (most now since : ℕ) (cs : List Cell) (n : ℕ)
    → (all_are is_zero (drop n cs) && cells_sound most now since (take n cs)) ≡ fits most now since cs n
unfolding fits all_are cells_sound
fits_both most now since cs zero = and-true (all_are is_zero cs) ∙ sym (fits_zero most now since cs)
fits_both most now since [] (suc n) = refl
fits_both most now since (c ∷ cs) (suc n) =
    swap (all_are is_zero (drop n cs)) (cell_sound most now since c) (cells_sound most now c.arrival (take n cs))
    ∙ ap (λ (b : Bool). cell_sound most now since c && b) (fits_both most now c.arrival cs n)

-- one place more
fits_next : (most now since n i : ℕ) (c : Cell) (cs : List Cell)
    → fits most now since (c ∷ cs) (n - i)
    ≡ (place_sound most now since (ltb i n) c && fits most now c.arrival cs (n - (i + 1)))
unfolding fits
fits_next most now since n i c cs =
    split (ltb i n)
    (λ t.
    let l = ltb-true i n t in
    let e : n - i ≡ suc (n - (i + 1)) = omega arith in
    rw (e, t))
    (λ f.
    let l = ltb-false i n f in
    let e : n - i ≡ 0 = omega arith in
    let g : n - (i + 1) ≡ 0 = omega arith in
    rw (e, g, f))

-- from place i on
abbrev pub Fitting : (most now : ℕ) → Rows → (since i : ℕ) → Type 0
Fitting most now r since i = sound_queue most now r ≡ fits most now since (drop i (cells r)) (len_in r - i)

module _ (most now : ℕ) (r : Rows) (s : Sized 1 r) where
  pub too_long : room < len_in r → sound_queue most now r ≡ false
  unfolding sound_queue padded
  too_long h = rw (lt-leb (len_in r) room h)

  in_room : len_in r ≤ room → sound_queue most now r ≡ fits most now 0 (cells r) (len_in r)
  unfolding sound_queue padded
  in_room h = rw (le-leb (len_in r) room h) (fits_both most now 0 (cells r) (len_in r))

  pub none-waits : len_in r ≡ 0 → sound_queue most now r ≡ (all_are is_unused r.words && all_are is_unused r.came)
  none-waits z =
      in_room (omega (arith, z)) ∙ ap (fits most now 0 (cells r)) z ∙ fits_zero most now 0 (cells r) ∙ zero-cells r s z

  pub fitting : len_in r ≤ room → Fitting most now r 0 0
  fitting h = in_room h ∙ ap (fits most now 0 (cells r)) (omega arith)

  module _ (n : ℕ) (w : n ≡ len_in r) (since i : ℕ) (e : Fitting most now r since i) (h : i < room) (x : Cell)
      (q : x ≡ cell_at r i) where
    split_place : sound_queue most now r
        ≡ (place_sound most now since (ltb i n) x && fits most now x.arrival (drop (i + 1) (cells r)) (len_in r - (i + 1)))
    split_place =
        e
        ∙ ap (λ (cs : List Cell). fits most now since cs (len_in r - i))
        (next no_cell (cells r) i (omega (arith, length-cells r s))
        ∙ ap (λ (y : Cell). y ∷ drop (i + 1) (cells r)) (sym (q ∙ read_at r s i h)))
        ∙ fits_next most now since (len_in r) i x (drop (i + 1) (cells r))
        ∙ ap (λ (m : ℕ). place_sound most now since (ltb i m) x
        && fits most now x.arrival (drop (i + 1) (cells r)) (len_in r - (i + 1))) (sym w)

    pub bad_place : place_sound most now since (ltb i n) x ≡ false → sound_queue most now r ≡ false
    bad_place f = split_place ∙ rw f

    pub good_place : place_sound most now since (ltb i n) x ≡ true → Fitting most now r x.arrival (i + 1)
    good_place f = split_place ∙ rw f

  pub all_fit : (since i : ℕ) → Fitting most now r since i → room ≤ i → sound_queue most now r ≡ true
  unfolding fits
  all_fit since i e h =
      e
      ∙ ap (λ (cs : List Cell). fits most now since cs (len_in r - i))
      (done no_cell (cells r) i (omega (arith, length-cells r s)))
