-- A list in an array of some capacity, and "everything unused is zero" (document 01, "State and calls"), over
-- any element.
use Rattle.std.specs.Prelude.{ℕ, ◌-◌, Bool, true, ◌&&◌, List, [], ◌∷◌, ◌++◌, leb, eqb, length, drop}
use Rattle.std.specs.Prelude.{replicate}

-- the array of a list: what lies past the list is zero
unfoldable pub filled : {A : Type 0} → (room : ℕ) → (zero : A) → List A → List A
filled room zero xs = xs ++ replicate (room - length xs) zero

-- every element passes a test
unfoldable pub all_are : {A : Type 0} → (A → Bool) → List A → Bool
all_are test [] = true
all_are test (x ∷ xs) = test x && all_are test xs

-- of a place that holds a number: that it is unused
abbrev pub is_unused : ℕ → Bool
is_unused n = eqb n 0

-- a length within the capacity, judged on the length itself, and zeros in the places past it
unfoldable pub padded : {A : Type 0} → (is_zero : A → Bool) → (room len : ℕ) → List A → Bool
padded is_zero room len slots = leb len room && all_are is_zero (drop len slots)
