-- Four lists, one a priority: the gate's "four queues" and the "four columns" of the book (document 01,
-- "State and calls", "A run and its book"). Nothing here looks into an element.
use Rattle.std.specs.Prelude.{ℕ, zero, suc, ◌+◌, List, [], length}

-- "four queues", "index 0 highest"
pub record Four (A : Type 0) : Type 0 where
  pub c0 : List A
  pub c1 : List A
  pub c2 : List A
  pub c3 : List A

-- the four of them, index 0 first
abbrev pub four : {A : Type 0} → List A → List A → List A → List A → Four A
four a b c d = record { c0 = a; c1 = b; c2 = c; c3 = d }

-- "columns empty"
abbrev pub none_of_four : {A : Type 0} → Four A
none_of_four = four [] [] [] []

-- f of each
abbrev pub each : {A B : Type 0} → (List A → List B) → Four A → Four B
each f q = four (f q.c0) (f q.c1) (f q.c2) (f q.c3)

-- "one a priority": the list of a priority (0 to 3; a higher number reads as 3)
abbrev pub column : {A : Type 0} → (priority : ℕ) → Four A → List A
column zero q = q.c0
column (suc zero) q = q.c1
column (suc (suc zero)) q = q.c2
column (suc (suc (suc n))) q = q.c3

-- f of the list of a priority
abbrev pub change : {A : Type 0} → (priority : ℕ) → (List A → List A) → Four A → Four A
change zero f q = four (f q.c0) q.c1 q.c2 q.c3
change (suc zero) f q = four q.c0 (f q.c1) q.c2 q.c3
change (suc (suc zero)) f q = four q.c0 q.c1 (f q.c2) q.c3
change (suc (suc (suc n))) f q = four q.c0 q.c1 q.c2 (f q.c3)

-- how many there are
abbrev pub how_many : {A : Type 0} → Four A → ℕ
how_many q = length q.c0 + length q.c1 + length q.c2 + length q.c3
