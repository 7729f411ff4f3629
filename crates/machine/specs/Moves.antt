-- How a sample moves the level (document 02, W-213; document 000, clause 6.4.2). EQ 24 and EQ 25 of document
-- 000 print unlike indices, so document 02 decides.
use Rattle.std.specs.Prelude.{ℕ, zero, suc, ◌+◌, ◌-◌, ◌≤◌, ◌<◌, min, max, ◌≡◌, Bool, true, cond, List, []}
use Rattle.std.specs.Prelude.{◌∷◌, leb, ltb, length, get_or}
use Rattle.rules.specs.Profiles.{full_load}
use Rattle.rules.specs.Duty.{held}
use Rattle.machine.specs.declared.Levels.{Levels}
use Rattle.machine.specs.declared.Loads.{Loads}
use Rattle.machine.specs.declared.Moved.{Moved}
use Rattle.machine.specs.Levels.{thresholds, threshold_at}
use Rattle.machine.specs.Loads.{loads, last_of, noted, packed, most_loads, sound_loads}

-- the least of a number and a list, and the greatest
unfoldable pub least_from : ℕ → List ℕ → ℕ
least_from m [] = m
least_from m (x ∷ xs) = least_from (min m x) xs

unfoldable pub greatest_from : ℕ → List ℕ → ℕ
greatest_from m [] = m
greatest_from m (x ∷ xs) = greatest_from (max m x) xs

-- the least of a list, and the greatest; of none 0
unfoldable pub least_of : List ℕ → ℕ
least_of [] = 0
least_of (x ∷ xs) = least_from x xs

abbrev pub greatest_of : List ℕ → ℕ
greatest_of xs = greatest_from 0 xs

-- "the last 10 samples"
abbrev pub low_over : ℕ
low_over = 10

-- "Low is the least load of the last 10 samples, 0 before there are ten"
unfoldable pub low_of : List ℕ → ℕ
low_of xs = cond (ltb (length xs) low_over) 0 (least_of (last_of low_over xs))

-- "high is the greatest of the last 50, or of those there are"
unfoldable pub high_of : List ℕ → ℕ
high_of xs = greatest_of (last_of most_loads xs)

-- a load "reaches" a threshold if it is no less
unfoldable pub reaches : (load threshold : ℕ) → Bool
reaches load threshold = leb threshold load

-- "the highest level whose threshold" a load "reaches", of levels 0 to n
unfoldable pub highest_to : (ts : List ℕ) → (load n : ℕ) → ℕ
highest_to ts load zero = 0
highest_to ts load (suc n) = cond (reaches load (threshold_at ts (suc n))) (suc n) (highest_to ts load n)

abbrev pub highest : (ts : List ℕ) → (load : ℕ) → ℕ
highest ts load = highest_to ts load (length ts)

-- "Up is the highest level whose threshold low reaches, down the highest that high reaches"
abbrev pub up_of : (ts xs : List ℕ) → ℕ
up_of ts xs = highest ts (low_of xs)

abbrev pub down_of : (ts xs : List ℕ) → ℕ
down_of ts xs = highest ts (high_of xs)

-- "the level becomes the current one moved the least needed to lie from up to down"
unfoldable pub level_after : (ts xs : List ℕ) → (level : ℕ) → ℕ
level_after ts xs level = held (up_of ts xs) (down_of ts xs) level

-- "On each sample, itself counted": the loads with the sample's, and the level that they leave
unfoldable pub moved_by : Levels → Loads → (level load : ℕ) → Moved
moved_by l held level load =
    let xs = noted (loads held) load in
    record { level = level_after (thresholds l) xs level; loads = packed xs }

-- What the definitions come to.

-- the place of one of the last k
abbrev pub AmongLast : (k : ℕ) → List ℕ → (i : ℕ) → Type 0
AmongLast k xs i = (i < length xs) × (length xs ≤ i + k)

-- low is at most each of the last 10, and nothing greater is; high is at least each of the last 50, and
-- nothing less is
pub record LowAndHigh (xs : List ℕ) : Type 0 where
  pub early : length xs < 10 → low_of xs ≡ 0
  pub low_le : 10 ≤ length xs → (i : ℕ) → AmongLast 10 xs i → low_of xs ≤ get_or xs i 0
  pub low_most : 10 ≤ length xs → (n : ℕ) → ((i : ℕ) → AmongLast 10 xs i → n ≤ get_or xs i 0) → n ≤ low_of xs
  pub high_ge : (i : ℕ) → AmongLast 50 xs i → get_or xs i 0 ≤ high_of xs
  pub high_least : (n : ℕ) → ((i : ℕ) → AmongLast 50 xs i → get_or xs i 0 ≤ n) → high_of xs ≤ n

abbrev pub AlwaysLowAndHigh : Type 0
AlwaysLowAndHigh = (xs : List ℕ) → LowAndHigh xs

-- the level that a load reaches is of the list, the load reaches it, and it reaches none above it
pub record Highest (ts : List ℕ) (load : ℕ) : Type 0 where
  pub listed : highest ts load ≤ length ts
  pub reached : threshold_at ts (highest ts load) ≤ load
  pub none_above : (n : ℕ) → n ≤ length ts → threshold_at ts n ≤ load → n ≤ highest ts load

-- how far a level is from another
abbrev pub apart : (a b : ℕ) → ℕ
apart a b = (a - b) + (b - a)

-- of any list, any loads, any level
pub record Moves (ts xs : List ℕ) (level : ℕ) : Type 0 where
  -- "to lie from up to down": there is such a level
  pub up_down : up_of ts xs ≤ down_of ts xs
  pub from_up : up_of ts xs ≤ level_after ts xs level
  pub to_down : level_after ts xs level ≤ down_of ts xs
  -- "the least needed"
  pub least : (n : ℕ) → up_of ts xs ≤ n → n ≤ down_of ts xs
      → apart level (level_after ts xs level) ≤ apart level n
  -- the level is one of the list
  pub level_listed : level_after ts xs level ≤ length ts

abbrev pub AlwaysMoves : Type 0
AlwaysMoves = (ts xs : List ℕ) (level : ℕ) → Moves ts xs level

abbrev pub AlwaysHighest : Type 0
AlwaysHighest = (ts : List ℕ) (load : ℕ) → Highest ts load

-- after a sample the level is one of the list, and sound loads stay so
pub record Sampled (l : Levels) (held : Loads) (level load : ℕ) : Type 0 where
  pub level_listed : (moved_by l held level load).level ≤ l.len
  pub loads-sound : sound_loads held ≡ true → load ≤ full_load
      → sound_loads (moved_by l held level load).loads ≡ true

abbrev pub SamplesKeep : Type 0
SamplesKeep = (l : Levels) (held : Loads) (level load : ℕ) → Sampled l held level load
