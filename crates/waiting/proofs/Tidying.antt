-- Rows whose unused room is zero hold nothing but what they mean.
use Prim.Native.Nat.{ℕ, ◌+◌}
use mathlib.Core.Path.{◌≡◌, refl, ap, ap₂, sym, ◌∙◌}
use mathlib.Core.Bool.{true, false, and-false, false≢true}
use mathlib.Core.List.{List, [], ◌∷◌, ◌++◌}
use native.Mathlib.Omega.{arith}
use lib.Dec.{eqb, leb}
use lib.ListN.{length, take, drop, take-append-drop, drop_of_length-le}
use lib.Seq.{drop-drop}
use borrow.Author.Tests.{eqb-true, leb-true}
use Rattle.rules.specs.Profiles.{room}
use Rattle.rules.proofs.Cases.{both, split}
use Rattle.rules.proofs.Tests.{all_true}
use Rattle.packing.specs.Packing.{all_are, padded}
use Rattle.packing.proofs.Packing.{padded-filled}
use Rattle.waiting.specs.declared.Cell.{Cell}
use Rattle.waiting.specs.Layout.{Rows, rows, Sized, no_cell, len_in, cells, rows_of, items, packed, Packed, is_zero, tidy_queue}
use Rattle.waiting.specs.Layout.{part, flat, laid, queues, Held, tidy}
use Rattle.waiting.proofs.Places.{length-cells, rows-cells}
use Rattle.waiting.proofs.Keeping.{length-items}
use Rattle.waiting.proofs.Wholes.{part_sized}

zero_is : (c : Cell) → is_zero c ≡ true → c ≡ no_cell
zero_is c h =
    λ i.
    record {
      id = none c.id (λ e. simp e) i;
      ontime = none c.ontime (λ e. simp (e, and-false)) i;
      lifetime = none c.lifetime (λ e. simp (e, and-false)) i;
      arrival = none c.arrival (λ e. simp (e, and-false)) i;
    }
  where
    none : (n : ℕ) → (eqb n 0 ≡ false → is_zero c ≡ false) → n ≡ 0
    none n f = split (eqb n 0) (eqb-true n 0) (λ e. absurd (false≢true (sym (f e) ∙ h)))

pub tidy-packed : (r : Rows) → Sized 1 r → tidy_queue r ≡ true → Packed r
unfolding packed padded
tidy-packed r s h =
    let b = both (leb (len_in r) room) (all_are is_zero (drop (len_in r) (cells r))) h in
    let n = leb-true (len_in r) room b.0 in
    rows-cells r s
    ∙ ap₂ rows_of (sym (length-items r s n)) (padded-filled room no_cell is_zero zero_is (len_in r) (cells r) (length-cells r s)
    h)

-- rows of four queues are their parts one behind the other
module _ (m : ℕ) (xs : List ℕ) where
  cut : (a b : ℕ) → b ≡ a + m → drop a xs ≡ take m (drop a xs) ++ drop b xs
  cut a b e =
      sym (take-append-drop m (drop a xs))
      ∙ ap (λ (l : List ℕ). take m (drop a xs) ++ l) (drop-drop m a xs ∙ ap (λ (n : ℕ). drop n xs) (sym e))

  four_pieces : (a b c d : ℕ) → a ≡ m → b ≡ a + m → c ≡ b + m → d ≡ c + m → length xs ≡ d
      → xs ≡ take m xs ++ (take m (drop a xs) ++ (take m (drop b xs) ++ (take m (drop c xs) ++ [])))
  four_pieces a b c d f g h i n =
      let ends : drop d xs ≡ [] = drop_of_length-le xs {i = d} (omega arith) in
      cut 0 a (omega arith)
      ∙ ap (λ (l : List ℕ). take m xs ++ l) (cut a b g
      ∙ ap (λ (l : List ℕ). take m (drop a xs) ++ l) (cut b c h
      ∙ ap (λ (l : List ℕ). take m (drop b xs) ++ l) (cut c d i ∙ ap (λ (l : List ℕ). take m (drop c xs) ++ l) ends)))

pub tidy-held : (r : Rows) → Sized 4 r → tidy r ≡ true → Held r
unfolding tidy queues laid flat
tidy-held r s e =
    record {
      size = s;
      tight =
          ap₂ rows
          (four_pieces 16 r.words 16 32 48 64 refl refl refl refl s.words
          ∙ (λ i. (first i).words ++ ((second i).words ++ ((third i).words ++ ((fourth i).words ++ [])))))
          (four_pieces 5 r.came 5 10 15 20 refl refl refl refl s.came
          ∙ (λ i. (first i).came ++ ((second i).came ++ ((third i).came ++ ((fourth i).came ++ [])))));
    }
  where
    all : (tidy_queue (part 0 r) ≡ true)
        × ((tidy_queue (part 1 r) ≡ true) × ((tidy_queue (part 2 r) ≡ true) × ((tidy_queue (part 3 r) ≡ true) × Unit {0})))
    all = all_true (tidy_queue (part 0 r) ∷ tidy_queue (part 1 r) ∷ tidy_queue (part 2 r) ∷ tidy_queue (part 3 r) ∷ []) e

    first : part 0 r ≡ packed (items (part 0 r))
    first = tidy-packed (part 0 r) (part_sized 0 r s (omega arith)) all.0

    second : part 1 r ≡ packed (items (part 1 r))
    second = tidy-packed (part 1 r) (part_sized 1 r s (omega arith)) all.1.0

    third : part 2 r ≡ packed (items (part 2 r))
    third = tidy-packed (part 2 r) (part_sized 2 r s (omega arith)) all.1.1.0

    fourth : part 3 r ≡ packed (items (part 3 r))
    fourth = tidy-packed (part 3 r) (part_sized 3 r s (omega arith)) all.1.1.1.0
