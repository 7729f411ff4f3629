-- Parts of arrays as the code lends them: a length past the array reads all of it, the last k of the first n are a part, and a
-- level's number stands one place before it.
use Prim.Native.Nat.{ℕ, zero, suc, ◌+◌, ◌-◌, ◌≤◌, ◌<◌, min, max}
use mathlib.Core.Path.{◌≡◌, refl, ap, sym, ◌∙◌}
use mathlib.Core.Bool.{true, false}
use mathlib.Core.List.{List, [], ◌∷◌}
use native.Mathlib.Nat.{suc-add}
use native.Mathlib.Omega.{arith}
use lib.Dec.{leb}
use lib.ListN.{length, take, drop, get_or, length-take, length-drop, drop_of_length-le}
use lib.Seq.{take-nil, take_all, get_or-take}
use borrow.Author.Tests.{le-leb, lt-leb, leb-true, leb-false}
use Rattle.std.specs.List.{fold, reduce}
use Rattle.std.specs.Option.{unwrap_or}
use Rattle.rules.proofs.Cases.{split}
use Rattle.machine.specs.Levels.{most_levels, most_listed, listed, threshold_at, wait_at}
use Rattle.machine.specs.Loads.{last_of}
use Rattle.machine.specs.Moves.{least_from, greatest_from, least_of, greatest_of, reaches, highest_to}

module _ (xs : List ℕ) where
  -- so many as there are
  pub take_fewer : (n : ℕ) → take (min n (length xs)) xs ≡ take n xs
  take_fewer n =
      split (leb n (length xs))
      (λ e. let m : min n (length xs) ≡ n = omega (arith, leb-true n (length xs) e) in ap (λ (k : ℕ). take k xs) m)
      (λ e. take_all (min n (length xs)) xs (omega (arith, leb-false n (length xs) e))
      ∙ sym (take_all n xs (omega (arith, leb-false n (length xs) e))))

  pub drop_fewer : (n : ℕ) → drop (min n (length xs)) xs ≡ drop n xs
  drop_fewer n =
      split (leb n (length xs))
      (λ e. let m : min n (length xs) ≡ n = omega (arith, leb-true n (length xs) e) in ap (λ (k : ℕ). drop k xs) m)
      (λ e. drop_of_length-le xs {i = min n (length xs)} (omega (arith, leb-false n (length xs) e))
      ∙ sym (drop_of_length-le xs {i = n} (omega (arith, leb-false n (length xs) e))))

  -- all from some place on
  pub rest : (n : ℕ) → take (length xs - n) (drop n xs) ≡ drop n xs
  rest n = take_all (length xs - n) (drop n xs) (omega (arith, length-drop n xs))

drop-take : (a b : ℕ) (xs : List ℕ) → drop a (take (a + b) xs) ≡ take b (drop a xs)
drop-take zero b xs = ap (λ (k : ℕ). take k xs) (let e : 0 + b ≡ b = omega arith in e)
drop-take (suc a) b [] = rw (suc-add a b) (sym (take-nil b))
drop-take (suc a) b (x ∷ xs) = rw (suc-add a b) (drop-take a b xs)

-- the last k of the first n, as a part
pub last_part : (k n : ℕ) (xs : List ℕ)
    → (let m = min n (length xs) in take (m - (m - k)) (drop (m - k) xs) ≡ last_of k (take n xs))
last_part k n xs =
    let m = min n (length xs) in
    let e : (m - k) + (m - (m - k)) ≡ m = omega arith in
    let l : length (take n xs) ≡ m = omega (arith, length-take n xs) in
    sym (drop-take (m - k) (m - (m - k)) xs) ∙ ap (λ (i : ℕ). drop (m - k) (take i xs)) e
    ∙ ap (λ (ys : List ℕ). drop (m - k) ys) (take_fewer xs n) ∙ ap (λ (i : ℕ). drop (i - k) (take n xs)) (sym l)

-- the least and the greatest as the library takes them: of none there is neither
least-fold : (m : ℕ) (xs : List ℕ) → least_from m xs ≡ fold min m xs
unfolding least_from
least-fold m [] = refl
least-fold m (x ∷ xs) = least-fold (min m x) xs

greatest-fold : (m : ℕ) (xs : List ℕ) → greatest_from m xs ≡ fold max m xs
unfolding greatest_from
greatest-fold m [] = refl
greatest-fold m (x ∷ xs) = greatest-fold (max m x) xs

pub least-reduced : (xs : List ℕ) → unwrap_or (reduce min xs) 0 ≡ least_of xs
unfolding least_of
least-reduced [] = refl
least-reduced (x ∷ xs) = sym (least-fold x xs)

pub greatest-reduced : (xs : List ℕ) → unwrap_or (reduce max xs) 0 ≡ greatest_of xs
unfolding greatest_from
greatest-reduced [] = refl
greatest-reduced (x ∷ xs) = let e : max 0 x ≡ x = omega arith in rw e (sym (greatest-fold x xs))

-- how many levels are read
pub length-listed : (n : ℕ) (xs : List ℕ) → length (listed n xs) ≡ min (min n most_levels) (length xs)
length-listed n xs = omega (arith, length-take (min n most_levels) xs)

pub listed_at : (n k d : ℕ) (xs : List ℕ) → k < min n most_levels → get_or (listed n xs) k d ≡ get_or xs k d
listed_at n k d xs h = get_or-take (min n most_levels) xs k d h

-- what reaching says, and what says it
pub reaches-true : (load t : ℕ) → reaches load t ≡ true → t ≤ load
unfolding reaches
reaches-true load t e = leb-true t load e

pub reaches-false : (load t : ℕ) → reaches load t ≡ false → load < t
unfolding reaches
reaches-false load t e = leb-false t load e

true-reaches : (load t : ℕ) → t ≤ load → reaches load t ≡ true
unfolding reaches
true-reaches load t h = le-leb t load h

false-reaches : (load t : ℕ) → load < t → reaches load t ≡ false
unfolding reaches
false-reaches load t h = lt-leb t load h

-- a level whose threshold is reached, and one whose isn't
pub reached : (ts : List ℕ) (load n : ℕ) → 0 < n → get_or ts (n - 1) 0 ≤ load → highest_to ts load n ≡ n
unfolding highest_to threshold_at
reached ts load zero p h = absurd (omega arith)
reached ts load (suc n) p h = let e : suc n - 1 ≡ n = omega arith in rw (true-reaches load (get_or ts n 0) (rw e at h))

pub missed : (ts : List ℕ) (load n : ℕ) → 0 < n → load < get_or ts (n - 1) 0 → highest_to ts load n ≡ highest_to ts load (n - 1)
unfolding highest_to threshold_at
missed ts load zero p h = absurd (omega arith)
missed ts load (suc n) p h = let e : suc n - 1 ≡ n = omega arith in rw (false-reaches load (get_or ts n 0) (rw e at h), e)

-- the wait of a level above 0: of one in the list, and of one past it
pub wait_above : (own level : ℕ) (ws : List ℕ) → 0 < level → wait_at own ws level ≡ get_or ws (level - 1) most_listed
unfolding wait_at
wait_above own zero ws p = absurd (omega arith)
wait_above own (suc k) ws p = let e : suc k - 1 ≡ k = omega arith in rw e

pub past_end : (ws : List ℕ) (k d : ℕ) → length ws ≤ k → get_or ws k d ≡ d
past_end [] k d h = refl
past_end (w ∷ ws) zero d h = absurd (omega arith)
past_end (w ∷ ws) (suc k) d h = past_end ws k d (omega arith)

-- what stands past the end doesn't matter before it
pub before_end : (ws : List ℕ) (k c d : ℕ) → k < length ws → get_or ws k c ≡ get_or ws k d
before_end [] k c d h = absurd (omega arith)
before_end (w ∷ ws) zero c d h = refl
before_end (w ∷ ws) (suc k) c d h = before_end ws k c d (omega arith)
