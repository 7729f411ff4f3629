-- The last ten are among the last fifty, so the least of the ten is at most the greatest of the fifty; a greater load reaches no
-- lower level, so up is at most down. A level held between the two is moved no further than to the nearer of them.
use Prim.Native.Nat.{ℕ, zero, suc, ◌+◌, ◌-◌, ◌≤◌, min, max}
use mathlib.Core.Path.{◌≡◌, ap, ◌∙◌}
use mathlib.Core.List.{List, [], ◌∷◌}
use native.Mathlib.Omega.{arith}
use lib.Dec.{leb, ltb}
use lib.ListN.{length, drop}
use lib.Seq.{drop-drop}
use borrow.Author.Tests.{leb-true, leb-false}
use Rattle.rules.proofs.Cases.{split, on_cond}
use Rattle.machine.specs.Levels.{threshold_at}
use Rattle.machine.specs.Loads.{last_of, most_loads}
use Rattle.machine.specs.Moves.{least_from, greatest_from, least_of, greatest_of, low_over, low_of, high_of, reaches}
use Rattle.machine.specs.Moves.{highest_to, highest, up_of, down_of, level_after, AlwaysHighest, AlwaysMoves}
use Rattle.machine.proofs.Parts.{reaches-true, reaches-false}

pub least_le : (m : ℕ) (xs : List ℕ) → least_from m xs ≤ m
unfolding least_from
least_le m [] = omega arith
least_le m (x ∷ xs) = omega (arith, least_le (min m x) xs)

pub greatest_ge : (m : ℕ) (xs : List ℕ) → m ≤ greatest_from m xs
unfolding greatest_from
greatest_ge m [] = omega arith
greatest_ge m (x ∷ xs) = omega (arith, greatest_ge (max m x) xs)

greatest_mono : (m n : ℕ) (xs : List ℕ) → m ≤ n → greatest_from m xs ≤ greatest_from n xs
unfolding greatest_from
greatest_mono m n [] h = h
greatest_mono m n (x ∷ xs) h = greatest_mono (max m x) (max n x) xs (omega arith)

-- of those from some place on
greatest_drop : (m k : ℕ) (xs : List ℕ) → greatest_from m (drop k xs) ≤ greatest_from m xs
unfolding greatest_from
greatest_drop m zero xs = omega arith
greatest_drop m (suc k) [] = omega arith
greatest_drop m (suc k) (x ∷ xs) = omega (arith, greatest_drop m k xs, greatest_mono m (max m x) xs (omega arith))

least_greatest : (xs : List ℕ) → least_of xs ≤ greatest_of xs
unfolding least_of greatest_from
least_greatest [] = omega arith
least_greatest (x ∷ xs) = omega (arith, least_le x xs, greatest_ge (max 0 x) xs)

-- the last ten are among the last fifty
those_of_low : (xs : List ℕ) → drop ((length xs - low_over) - (length xs - most_loads)) (last_of most_loads xs)
    ≡ last_of low_over xs
those_of_low xs =
    let n = length xs in
    let e : (n - most_loads) + ((n - low_over) - (n - most_loads)) ≡ n - low_over = omega arith in
    drop-drop ((n - low_over) - (n - most_loads)) (n - most_loads) xs ∙ ap (λ (k : ℕ). drop k xs) e

pub low_high : (xs : List ℕ) → low_of xs ≤ high_of xs
unfolding low_of high_of
low_high xs =
    on_cond (λ n. n ≤ greatest_of (last_of most_loads xs)) (ltb (length xs) low_over) (λ e. omega arith)
    (λ e. rw (← those_of_low xs) (
    let k = (length xs - low_over) - (length xs - most_loads) in
    let ys = last_of most_loads xs in
    omega (arith, least_greatest (drop k ys), greatest_drop 0 k ys)))

highest-le : (ts : List ℕ) (load n : ℕ) → highest_to ts load n ≤ n
unfolding highest_to
highest-le ts load zero = omega arith
highest-le ts load (suc n) =
    on_cond (λ k. k ≤ suc n) (reaches load (threshold_at ts (suc n))) (λ e. omega arith)
    (λ e. omega (arith, highest-le ts load n))

highest_reached : (ts : List ℕ) (load n : ℕ) → threshold_at ts (highest_to ts load n) ≤ load
unfolding highest_to threshold_at
highest_reached ts load zero = omega arith
highest_reached ts load (suc n) =
    on_cond (λ k. threshold_at ts k ≤ load) (reaches load (threshold_at ts (suc n)))
    (λ e. reaches-true load (threshold_at ts (suc n)) e)
    (λ e. highest_reached ts load n)

none_above : (ts : List ℕ) (load n k : ℕ) → k ≤ n → threshold_at ts k ≤ load → k ≤ highest_to ts load n
unfolding highest_to
none_above ts load zero k h r = h
none_above ts load (suc n) k h r =
    on_cond (λ m. k ≤ m) (reaches load (threshold_at ts (suc n))) (λ e. h)
    (λ e. split (leb k n) (λ f. none_above ts load n k (leb-true k n f) r)
    (λ f.
    let s : k ≡ suc n = omega (arith, leb-false k n f) in
    absurd (omega (arith, reaches-false load (threshold_at ts (suc n)) e, rw s at r))))

pub always_highest : AlwaysHighest
always_highest ts load =
    record {
      listed = highest-le ts load (length ts);
      reached = highest_reached ts load (length ts);
      none_above = none_above ts load (length ts);
    }

-- a greater load reaches no lower level
pub highest_mono : (ts : List ℕ) (a b : ℕ) → a ≤ b → highest ts a ≤ highest ts b
highest_mono ts a b h =
    none_above ts b (length ts) (highest ts a) (highest-le ts a (length ts)) (omega (arith, highest_reached ts a (length ts)))

pub up_down : (ts xs : List ℕ) → up_of ts xs ≤ down_of ts xs
up_down ts xs = highest_mono ts (low_of xs) (high_of xs) (low_high xs)

pub always_moves : AlwaysMoves
unfolding level_after
always_moves ts xs level =
    let h = up_down ts xs in
    let t = highest-le ts (high_of xs) (length ts) in
    record {
      up_down = h;
      from_up = omega arith;
      to_down = omega arith;
      least = λ n a b. omega arith;
      level_listed = omega arith;
    }
