-- Numbers past some place: their bits, all in one number, which is zero if each of them is.
use Prim.Native.Nat.{ℕ, suc, ◌+◌, ◌≤◌, ◌<◌}
use mathlib.Core.Path.{◌≡◌, refl, ap, ◌∙◌}
use mathlib.Core.Bool.{Bool, true, false, ◌&&◌}
use mathlib.Core.List.{List, [], ◌∷◌}
use native.Mathlib.Numerals.{add-one}
use native.Mathlib.Omega.{arith}
use lib.ListN.{length, drop, get_or, replicate, drop_of_length-le}
use lib.Seq.{drop-cons}
use lib.Dec.{eqb}
use lib.Bits.{bit_or, or_zero_l, or_add_and, and_le_r}
use borrow.Author.Tests.{ne_eqb, eqb-true, eqb-false}
use Rattle.std.specs.Cmp.Lexicographic.{pointwise}
use Rattle.rules.proofs.Cases.{split}
use Rattle.packing.specs.Packing.{all_are, is_unused}

-- bits together are zero if both are
pub or-none : (a b : ℕ) → eqb (bit_or a b) 0 ≡ (eqb a 0 && eqb b 0)
or-none a b =
    split (eqb a 0)
    (λ e. rw (eqb-true a 0 e, or_zero_l b))
    (λ e. rw e (ne_eqb (bit_or a b) 0 (λ z. eqb-false a 0 e (omega (arith, or_add_and a b, and_le_r a b)))))

and_assoc : (a b c : Bool) → (a && (b && c)) ≡ ((a && b) && c)
and_assoc true b c = refl
and_assoc false b c = refl

and-true : (a : Bool) → (a && true) ≡ a
and-true true = refl
and-true false = refl

-- past j places, whose bits are in one number
abbrev pub ZerosPast : (n : ℕ) → List ℕ → (bits j : ℕ) → Type 0
ZerosPast n ns bits j = all_are is_unused (drop n ns) ≡ (eqb bits 0 && all_are is_unused (drop j ns))

module _ (n : ℕ) (ns : List ℕ) (bits j : ℕ) (e : ZerosPast n ns bits j) where
  pub zeros_next : j < length ns → ZerosPast n ns (bit_or bits (get_or ns j 0)) (j + 1)
  unfolding all_are
  zeros_next h =
      e
      ∙ rw (add-one, drop-cons ns j 0 h, or-none bits (get_or ns j 0))
      (and_assoc (eqb bits 0) (eqb (get_or ns j 0) 0) (all_are is_unused (drop (suc j) ns)))

  pub zeros_done : length ns ≤ j → all_are is_unused (drop n ns) ≡ eqb bits 0
  unfolding all_are
  zeros_done h =
      e ∙ ap (λ (l : List ℕ). eqb bits 0 && all_are is_unused l) (drop_of_length-le ns h) ∙ and-true (eqb bits 0)

-- room that `==` finds equal to zeros is unused
pub equal_zeros : (xs : List ℕ) → pointwise eqb xs (replicate (length xs) 0) ≡ all_are is_unused xs
unfolding all_are
equal_zeros [] = refl
equal_zeros (x ∷ xs) = rw (equal_zeros xs)
