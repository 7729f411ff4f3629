-- Stores at each place in turn: the first i places are as wanted, the others as they were. So all but the k oldest move to the
-- front, and zeros fill the places behind them, which makes the array of the list without those k.
use Prim.Native.Nat.{ℕ, zero, suc, ◌+◌, ◌-◌, ◌≤◌, ◌<◌}
use mathlib.Core.Path.{◌≡◌, refl, ap, sym, ◌∙◌}
use mathlib.Core.List.{List, ◌++◌, append-nil}
use native.Mathlib.Numerals.{add-one}
use native.Mathlib.Omega.{arith}
use lib.ListN.{length, take, drop, get_or, set, replicate, length-append, length-drop, take-append-drop, drop_of_length-le}
use lib.ListN.{get_or-append}
use lib.Seq.{take-suc, drop-cons, append_snoc, set_at, length-take-le, take_all, take_at, get_or-append-add, get_or-drop}
use lib.Seq.{get_or-take}
use Rattle.packing.specs.Packing.{filled}
use Rattle.packing.proofs.Packing.{length-filled}

-- the first i places are as wanted, the others as they were
abbrev pub Stored : {A : Type 0} → (wanted given : List A) → ℕ → List A → Type 0
Stored wanted given i l = l ≡ take i wanted ++ drop i given

module _ {A : Type 0} (none : A) (wanted given : List A) (same : length wanted ≡ length given) where
  stored : (l : List A) (i : ℕ) (x : A) → Stored wanted given i l → i < length wanted → x ≡ get_or wanted i none
      → Stored wanted given (i + 1) (set l i x)
  stored l i x e h v =
      rw (
        e,
        drop-cons given i none (omega arith),
        set_at (take i wanted) (get_or given i none) (drop (suc i) given) x i (length-take-le i wanted (omega arith)),
        add-one i,
        take-suc wanted i none h,
        v,
      ) (sym (append_snoc (take i wanted) (get_or wanted i none) (drop (suc i) given)))

  all_stored : (l : List A) (i : ℕ) → Stored wanted given i l → length wanted ≤ i → l ≡ wanted
  all_stored l i e h =
      e ∙ rw (take_all i wanted h, drop_of_length-le given {i = i} (omega arith)) (append-nil wanted)

  -- a place that was not stored to yet
  unstored : (l : List A) (i k : ℕ) → Stored wanted given i l → i ≤ length wanted
      → get_or l (i + k) none ≡ get_or given (i + k) none
  unstored l i k e h =
      let m = length-take-le i wanted h in
      ap (λ (x : List A). get_or x (i + k) none) e
      ∙ ap (λ (j : ℕ). get_or (take i wanted ++ drop i given) (j + k) none) (sym m)
      ∙ get_or-append-add (take i wanted) (drop i given) k none
      ∙ get_or-drop i given k none

module _ {A : Type 0} (room : ℕ) (none : A) where
  zero_at : (m i : ℕ) → get_or (replicate m none) i none ≡ none
  zero_at zero i = refl
  zero_at (suc m) zero = refl
  zero_at (suc m) (suc i) = zero_at m i

  wanted_zero : (xs : List A) (i : ℕ) → length xs ≤ i → get_or (filled room none xs) i none ≡ none
  unfolding filled
  wanted_zero xs i h =
      let e : i ≡ length xs + (i - length xs) = omega arith in
      ap (λ (j : ℕ). get_or (xs ++ replicate (room - length xs) none) j none) e
      ∙ get_or-append-add xs (replicate (room - length xs) none) (i - length xs) none
      ∙ zero_at (room - length xs) (i - length xs)

  -- s has n elements, the k oldest of which go
  module _ (s : List A) (n k : ℕ) (m : length s ≡ room) (b : n ≤ room) where
    abbrev rest : List A
    rest = drop k (take n s)

    length_rest : length rest ≡ n - k
    length_rest = omega (arith, length-drop k (take n s), length-take-le n s (omega arith))

    full : length (filled room none rest) ≡ room
    full = length-filled room none rest (omega (arith, length_rest))

    wanted_at : (i : ℕ) → i < n - k → get_or (filled room none rest) i none ≡ get_or s (i + k) none
    unfolding filled
    wanted_at i h =
        let f : k + i ≡ i + k = omega arith in
        get_or-append rest _ none i (omega (arith, length_rest))
        ∙ get_or-drop k (take n s) i none
        ∙ get_or-take n s (k + i) none (omega arith)
        ∙ ap (λ (j : ℕ). get_or s j none) f

    -- to the front
    pub shift_next : (l : List A) (i : ℕ) → i < n - k → Stored (filled room none rest) s i l
        → Stored (filled room none rest) s (i + 1) (set l i (get_or l (i + k) none))
    shift_next l i h e =
        stored none (filled room none rest) s (omega (arith, full)) l i (get_or l (i + k) none) e (omega (arith, full))
        (unstored none (filled room none rest) s (omega (arith, full)) l i k e (omega (arith, full)) ∙ sym (wanted_at i h))

    pub shifted : (l : List A) → Stored (filled room none rest) s (n - k) l
        → (take (n - k) l ≡ rest) × (length l ≡ room)
    unfolding filled
    shifted l e =
        let w = filled room none rest in
        let t = length-take-le (n - k) w (omega (arith, full)) in (
          ap (take (n - k)) e ∙ take_at (take (n - k) w) (drop (n - k) s) (n - k) t ∙ take_at rest _ (n - k) length_rest,
          omega (arith, ap length e, length-append (take (n - k) w) (drop (n - k) s), length-drop (n - k) s),
        )

    -- zeros behind
    pub clear_next : (l : List A) (i : ℕ) → n - k ≤ i → i < room → Stored (filled room none rest) s i l
        → Stored (filled room none rest) s (i + 1) (set l i none)
    clear_next l i h c e =
        stored none (filled room none rest) s (omega (arith, full)) l i none e (omega (arith, full))
        (sym (wanted_zero rest i (omega (arith, length_rest))))

    pub cleared : (l : List A) (i : ℕ) → room ≤ i → Stored (filled room none rest) s i l → l ≡ filled room none rest
    cleared l i c e =
        all_stored none (filled room none rest) s (omega (arith, full)) l i e (omega (arith, full))

  -- where clearing begins
  pub clear_begun : (s : List A) (n : ℕ) → length s ≡ room → n ≤ room → Stored (filled room none (take n s)) s n s
  unfolding filled
  clear_begun s n m b =
      sym (take-append-drop n s)
      ∙ ap (λ (x : List A). x ++ drop n s) (sym (take_at (take n s) _ n (length-take-le n s (omega arith))))
