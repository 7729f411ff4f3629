-- The least of a list is at most each of it, and any number that is at most each is at most the least; so of the greatest, the
-- other way round. The last k of a list are its places from the k-th last on.
use Prim.Native.Nat.{ℕ, zero, suc, ◌+◌, ◌-◌, ◌≤◌, ◌<◌, min, max}
use mathlib.Core.Path.{◌≡◌, ap, ◌∙◌}
use mathlib.Core.List.{List, [], ◌∷◌}
use native.Mathlib.Omega.{arith}
use lib.ListN.{length, get_or, length-drop}
use lib.Seq.{get_or-drop}
use borrow.Author.Tests.{lt-ltb, le-ltb}
use Rattle.machine.specs.Levels.{thresholds}
use Rattle.machine.specs.Loads.{most_loads, loads, last_of, noted}
use Rattle.machine.specs.Moves.{least_from, greatest_from, least_of, low_over, low_of, high_of, moved_by}
use Rattle.machine.specs.Moves.{AmongLast, AlwaysLowAndHigh, SamplesKeep}
use Rattle.machine.proofs.Parts.{length-listed}
use Rattle.machine.proofs.Noted.{noted-sound}
use Rattle.machine.proofs.Bounds.{least_le, greatest_ge, always_moves}

least_at : (m : ℕ) (ys : List ℕ) (j : ℕ) → j < length ys → least_from m ys ≤ get_or ys j 0
unfolding least_from
least_at m [] j h = absurd (omega arith)
least_at m (y ∷ ys) zero h = omega (arith, least_le (min m y) ys)
least_at m (y ∷ ys) (suc j) h = least_at (min m y) ys j (omega arith)

at_least : (m : ℕ) (ys : List ℕ) (n : ℕ) → n ≤ m → ((j : ℕ) → j < length ys → n ≤ get_or ys j 0) → n ≤ least_from m ys
unfolding least_from
at_least m [] n h f = h
at_least m (y ∷ ys) n h f =
    let k : n ≤ y = f 0 (omega arith) in
    at_least (min m y) ys n (omega arith) (λ j i. f (suc j) (omega arith))

least_of_at : (ys : List ℕ) (j : ℕ) → j < length ys → least_of ys ≤ get_or ys j 0
unfolding least_of
least_of_at [] j h = absurd (omega arith)
least_of_at (y ∷ ys) zero h = least_le y ys
least_of_at (y ∷ ys) (suc j) h = least_at y ys j (omega arith)

at_least_of : (ys : List ℕ) (n : ℕ) → 0 < length ys → ((j : ℕ) → j < length ys → n ≤ get_or ys j 0) → n ≤ least_of ys
unfolding least_of
at_least_of [] n p f = absurd (omega arith)
at_least_of (y ∷ ys) n p f = at_least y ys n (f 0 (omega arith)) (λ j h. f (suc j) (omega arith))

greatest_at : (m : ℕ) (ys : List ℕ) (j : ℕ) → j < length ys → get_or ys j 0 ≤ greatest_from m ys
unfolding greatest_from
greatest_at m [] j h = absurd (omega arith)
greatest_at m (y ∷ ys) zero h = omega (arith, greatest_ge (max m y) ys)
greatest_at m (y ∷ ys) (suc j) h = greatest_at (max m y) ys j (omega arith)

at_greatest : (m : ℕ) (ys : List ℕ) (n : ℕ) → m ≤ n → ((j : ℕ) → j < length ys → get_or ys j 0 ≤ n) → greatest_from m ys ≤ n
unfolding greatest_from
at_greatest m [] n h f = h
at_greatest m (y ∷ ys) n h f =
    let k : y ≤ n = f 0 (omega arith) in
    at_greatest (max m y) ys n (omega arith) (λ j i. f (suc j) (omega arith))

-- the last k, place by place
module _ (k : ℕ) (xs : List ℕ) where
  length_last : length (last_of k xs) ≡ length xs - (length xs - k)
  length_last = length-drop (length xs - k) xs

  last_place : (i : ℕ) → AmongLast k xs i → get_or (last_of k xs) (i - (length xs - k)) 0 ≡ get_or xs i 0
  last_place i h =
      let e : (length xs - k) + (i - (length xs - k)) ≡ i = omega arith in
      get_or-drop (length xs - k) xs (i - (length xs - k)) 0 ∙ ap (λ (j : ℕ). get_or xs j 0) e

  place_last : (j : ℕ) → j < length (last_of k xs) → AmongLast k xs ((length xs - k) + j)
  place_last j h = let e = length_last in (omega arith, omega arith)

  last_at_lem : (j : ℕ) → get_or (last_of k xs) j 0 ≡ get_or xs ((length xs - k) + j) 0
  last_at_lem j = get_or-drop (length xs - k) xs j 0

pub always_low_and_high : AlwaysLowAndHigh
unfolding low_of high_of
always_low_and_high xs =
    let low = last_of low_over xs in
    let high = last_of most_loads xs in
    let n = length xs in
    record {
      early = λ h. rw (lt-ltb n low_over (omega arith));
      low_le = λ h i a.
          let l = length_last low_over xs in
          rw (le-ltb n low_over (omega arith), ← last_place low_over xs i a) (least_of_at low (i - (n - low_over)) (omega arith));
      low_most = λ h b f.
          let l = length_last low_over xs in
          rw (le-ltb n low_over (omega arith))
          (at_least_of low b (omega arith)
          (λ j k. rw (last_at_lem low_over xs j) (f ((n - low_over) + j) (place_last low_over xs j k))));
      high_ge = λ i a.
          let l = length_last most_loads xs in
          rw (← last_place most_loads xs i a) (greatest_at 0 high (i - (n - most_loads)) (omega arith));
      high_least = λ b f.
          at_greatest 0 high b (omega arith)
          (λ j k. rw (last_at_lem most_loads xs j) (f ((n - most_loads) + j) (place_last most_loads xs j k)));
    }

pub samples_keep : SamplesKeep
unfolding moved_by
samples_keep l held level load =
    let m = always_moves (thresholds l) (noted (loads held) load) level in
    record {
      level_listed = omega (arith, m.level_listed, length-listed l.len l.above);
      loads-sound = λ e h. noted-sound held load e h;
    }
