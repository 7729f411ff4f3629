-- An array of a list gives its list back; a store behind the list is the array of one more, and a shift to the front that of all
-- but the first: the zeros give up their first at a store, and gain a last at a shift. An array whose unused room is zero is the
-- array of its list.
use Prim.Native.Nat.{ℕ, zero, suc, ◌+◌, ◌-◌, ◌≤◌, ◌<◌}
use mathlib.Core.Path.{◌≡◌, refl, ap, sym, ◌∙◌}
use mathlib.Core.Bool.{Bool, true}
use mathlib.Core.List.{List, [], ◌∷◌, ◌++◌, append_assoc, append-nil}
use native.Mathlib.Omega.{arith}
use lib.Dec.{leb}
use borrow.Rule.Slice.PartMut.{put_mid}
use Rattle.std.specs.List.{list_all}
use lib.ListN.{length, take, drop, set, replicate, length-append, length-replicate, length-drop, take-append-drop}
use lib.ListN.{replicate-append-replicate, drop_of_length-le}
use lib.Seq.{take-append_seam, drop-append_seam, set-append_seam, append_snoc, length-take-le}
use borrow.Author.Tests.{leb-true, le-leb}
use Rattle.rules.proofs.Cases.{both}
use Rattle.packing.specs.Packing.{filled, all_are, padded}

-- the library's `all` of a list is the same test
pub all_are_all : {A : Type 0} (test : A → Bool) (xs : List A) → list_all test xs ≡ all_are test xs
unfolding all_are
all_are_all test [] = refl
all_are_all test (x ∷ xs) = rw (all_are_all test xs)

module _ {A : Type 0} (room : ℕ) (none : A) where
  pub length-filled : (xs : List A) → length xs ≤ room → length (filled room none xs) ≡ room
  unfolding filled
  length-filled xs h = simp (length-append, length-replicate) (omega arith)

  pub list_filled : (xs : List A) → take (length xs) (filled room none xs) ≡ xs
  unfolding filled
  list_filled xs = take-append_seam xs _

  -- one more takes the place of a zero
  first_zero : (n : ℕ) → n < room → replicate (room - n) none ≡ none ∷ replicate (room - (n + 1)) none
  first_zero n h =
      let e : room - n ≡ suc (room - (n + 1)) = omega arith in
      rw e

  pub set-filled : (xs : List A) (x : A) → length xs < room
      → set (filled room none xs) (length xs) x ≡ filled room none (xs ++ (x ∷ []))
  unfolding filled
  set-filled xs x h =
      rw (first_zero (length xs) h, set-append_seam, length-append xs (x ∷ [])) (sym (append_snoc xs x _))

  -- one fewer leaves a zero at the end
  pub drop-filled : (x : A) (xs : List A) → suc (length xs) ≤ room
      → drop 1 (filled room none (x ∷ xs)) ++ (none ∷ []) ≡ filled room none xs
  unfolding filled
  drop-filled x xs h =
      let n = room - suc (length xs) in
      let e : n + 1 ≡ room - length xs = omega arith in
      append_assoc xs (replicate n none) (none ∷ [])
      ∙ ap (λ (l : List A). xs ++ l) (replicate-append-replicate n 1 none ∙ ap (λ (k : ℕ). replicate k none) e)

  -- the test for zero, and what it says
  module _ (is_zero : A → Bool) where
    zeros : ((x : A) → is_zero x ≡ true → x ≡ none) → (xs : List A) → all_are is_zero xs ≡ true
        → xs ≡ replicate (length xs) none
    unfolding all_are
    zeros f [] h = refl
    zeros f (x ∷ xs) h =
        let b = both (is_zero x) (all_are is_zero xs) h in
        λ i. f x b.0 i ∷ zeros f xs b.1 i

    all_zeros : is_zero none ≡ true → (n : ℕ) → all_are is_zero (replicate n none) ≡ true
    unfolding all_are
    all_zeros e zero = refl
    all_zeros e (suc n) = rw e (all_zeros e n)

    -- an array that is padded is that of its list
    pub padded-filled : ((x : A) → is_zero x ≡ true → x ≡ none) → (len : ℕ) (slots : List A) → length slots ≡ room
        → padded is_zero room len slots ≡ true → slots ≡ filled room none (take len slots)
    unfolding padded filled
    padded-filled f len slots s h =
        let b = both (leb len room) (all_are is_zero (drop len slots)) h in
        let m = leb-true len room b.0 in
        let n : length (take len slots) ≡ len = length-take-le len slots (omega arith) in
        let d : length (drop len slots) ≡ room - length (take len slots) = omega (arith, length-drop len slots) in
        sym (take-append-drop len slots)
        ∙ ap (λ (l : List A). take len slots ++ l)
        (zeros f (drop len slots) b.1 ∙ ap (λ (k : ℕ). replicate k none) d)

    -- and that of a list that is not too long is padded
    pub filled-padded : is_zero none ≡ true → (xs : List A) → length xs ≤ room
        → padded is_zero room (length xs) (filled room none xs) ≡ true
    unfolding padded filled
    filled-padded e xs h =
        rw (
          le-leb (length xs) room h,
          drop-append_seam xs (replicate (room - length xs) none),
          all_zeros e (room - length xs),
        )

-- zeros written over all behind the first n
pub filled_past : {A : Type 0} (none : A) (n : ℕ) (xs : List A) → n ≤ length xs
    → put_mid n (length xs - n) xs (replicate (length xs - n) none) ≡ filled (length xs) none (take n xs)
unfolding filled
filled_past none n xs h =
    let zeros = replicate (length xs - n) none in
    let e : drop (length xs - n) (drop n xs) ≡ [] =
    drop_of_length-le (drop n xs) {i = length xs - n} (omega (arith, length-drop n xs)) in
    rw (e, append-nil zeros, length-take-le n xs h)
