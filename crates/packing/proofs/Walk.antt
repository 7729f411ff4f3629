-- What is left of a list at a turn of a loop: the next element and those after it, or none. So too of the first n of a list.
use Prim.Native.Nat.{ℕ, ◌+◌, ◌≤◌, ◌<◌}
use mathlib.Core.Path.{◌≡◌}
use mathlib.Core.List.{List, [], ◌∷◌}
use native.Mathlib.Numerals.{add-one}
use native.Mathlib.Omega.{arith}
use lib.ListN.{length, take, drop, get_or, drop_of_length-le}
use lib.Seq.{drop-cons, get_or-take, length-take-le}

module _ {A : Type 0} (none : A) (xs : List A) where
  pub next : (i : ℕ) → i < length xs → drop i xs ≡ get_or xs i none ∷ drop (i + 1) xs
  next i h = rw (add-one, drop-cons xs i none h)

  pub done : (i : ℕ) → length xs ≤ i → drop i xs ≡ []
  done i h = drop_of_length-le xs h

  pub next_of : (n i : ℕ) → i < n → n ≤ length xs → drop i (take n xs) ≡ get_or xs i none ∷ drop (i + 1) (take n xs)
  next_of n i h k =
      let e : i < length (take n xs) = rw length-take-le (omega arith) in
      rw (add-one, drop-cons (take n xs) i none, get_or-take n xs i none)

  pub done_of : (n i : ℕ) → n ≤ i → n ≤ length xs → drop i (take n xs) ≡ []
  done_of n i h k =
      let e : length (take n xs) ≤ i = rw length-take-le (omega arith) in
      drop_of_length-le (take n xs) e
