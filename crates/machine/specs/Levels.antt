-- A list of levels, the first edition's states (document 02, W-213; document 000, clause 6.4.3): what it
-- means, which list is good, and the wait of each level.
use Rattle.std.specs.Prelude.{ℕ, zero, suc, ◌≤◌, ◌<◌, min, ◌≡◌, Bool, true, false, not, ◌&&◌, List, [], ◌∷◌}
use Rattle.std.specs.Prelude.{leb, ltb, eqb, length, take, drop, get_or, replicate}
use Rattle.rules.specs.Tests.{all_of}
use Rattle.rules.specs.Profiles.{within, full_load}
use Rattle.packing.specs.Packing.{filled, all_are, is_unused}
use Rattle.machine.specs.declared.Levels.{Levels}

-- "a list of 1 to 8 levels above level 0"
abbrev pub most_levels : ℕ
most_levels = 8

-- "a wait of 40,000 to 1,000,000"
abbrev pub least_listed : ℕ
least_listed = 40000

abbrev pub most_listed : ℕ
most_listed = 1000000

abbrev pub wait_allowed : ℕ → Bool
wait_allowed wait = within least_listed most_listed wait

-- "a load threshold up to 1,000,000"
abbrev pub threshold_allowed : ℕ → Bool
threshold_allowed threshold = within 0 full_load threshold

-- a list of its parts
abbrev pub levels_of : (len wait : ℕ) → (above waits : List ℕ) → Levels
levels_of len wait above waits = record { len = len; wait = wait; above = above; waits = waits }

-- of the numbers in an array, those of the first n levels; no more than 8 are read, whatever n is
abbrev pub listed : (n : ℕ) → List ℕ → List ℕ
listed n xs = take (min n most_levels) xs

-- the meaning: the thresholds and the waits of levels 1, 2 and so on
abbrev pub thresholds : Levels → List ℕ
thresholds l = listed l.len l.above

abbrev pub waits : Levels → List ℕ
waits l = listed l.len l.waits

-- "level 0 has threshold 0": the threshold of a level, NDL_asChanLoad(n)
unfoldable pub threshold_at : List ℕ → (level : ℕ) → ℕ
threshold_at ts zero = 0
threshold_at ts (suc n) = get_or ts n 0

-- "level 0 has .. a wait of its own": the wait of a level. One that is not of the list waits the longest
unfoldable pub wait_at : (own : ℕ) → List ℕ → (level : ℕ) → ℕ
wait_at own ws zero = own
wait_at own ws (suc n) = get_or ws n most_listed

abbrev pub wait_of : Levels → (level : ℕ) → ℕ
wait_of l level = wait_at l.wait (waits l) level

-- "Thresholds rise strictly (EQ 23)": each is above the one before it
unfoldable pub rising : (before : ℕ) → List ℕ → Bool
rising before [] = true
rising before (t ∷ ts) = ltb before t && rising t ts

-- "a list of 1 to 8 levels above level 0, each with a load threshold up to 1,000,000 and a wait of 40,000 to
-- 1,000,000; level 0 has threshold 0 and a wait of its own in that range. Thresholds rise strictly". The
-- length itself is judged; there are as many thresholds and waits, as in arrays of 8 there always are. What
-- lies past the length is no part of the list
abbrev pub list_rules : Levels → List Bool
list_rules l =
    within 1 most_levels l.len
    ∷ leb l.len (length l.above)
    ∷ leb l.len (length l.waits)
    ∷ wait_allowed l.wait
    ∷ rising 0 (thresholds l)
    ∷ all_are threshold_allowed (thresholds l)
    ∷ all_are wait_allowed (waits l)
    ∷ []

unfoldable pub good_list : Levels → Bool
good_list l = all_of (list_rules l)

-- "A list that breaks a rule is refused at making with 15, BAD-LIST"
abbrev pub bad_list : Levels → Bool
bad_list l = not (good_list l)

-- "a sound state .. has such a list, .. unused room zero"
unfoldable pub sound_list : Levels → Bool
sound_list l =
    good_list l && (all_are is_unused (drop l.len l.above) && all_are is_unused (drop l.len l.waits))

-- the list in its room, "unused room zero": what a state keeps of the list that make is handed
unfoldable pub tidied : Levels → Levels
tidied l =
    levels_of (min l.len most_levels) l.wait (filled most_levels 0 (thresholds l))
    (filled most_levels 0 (waits l))

-- other profiles have none: "everything unused is zero" (document 01)
unfoldable pub none_listed : Levels → Bool
none_listed l =
    all_of (eqb l.len 0 ∷ eqb l.wait 0 ∷ all_are is_unused l.above ∷ all_are is_unused l.waits ∷ [])

abbrev pub no_levels : Levels
no_levels = levels_of 0 0 (replicate most_levels 0) (replicate most_levels 0)

-- What a list must be, level by level, in EQ 23's form: "NDL_asChanLoad(n-1) < NDL_asChanLoad(n)".
pub record Good (l : Levels) : Type 0 where
  pub some : 1 ≤ l.len
  pub few : l.len ≤ 8
  pub above_there : l.len ≤ length l.above
  pub waits_there : l.len ≤ length l.waits
  pub rise : (n : ℕ) → n < l.len → threshold_at (thresholds l) n < threshold_at (thresholds l) (suc n)
  pub most : (n : ℕ) → n ≤ l.len → threshold_at (thresholds l) n ≤ 1000000
  pub least_wait : (n : ℕ) → n ≤ l.len → 40000 ≤ wait_of l n
  pub most_wait : (n : ℕ) → n ≤ l.len → wait_of l n ≤ 1000000

-- a list is good exactly if it is such
pub record ListsJudged : Type 0 where
  pub good : (l : Levels) → bad_list l ≡ false → Good l
  pub only : (l : Levels) → Good l → bad_list l ≡ false

-- every wait of a good list lies in the limits, whatever the level
abbrev pub WaitsListed : Type 0
WaitsListed =
    (l : Levels) (level : ℕ) → bad_list l ≡ false → (40000 ≤ wait_of l level) × (wait_of l level ≤ 1000000)

-- a good list, tidied, is a sound state's and means the same
pub record Tidied (l : Levels) : Type 0 where
  pub sound : sound_list (tidied l) ≡ true
  pub same_thresholds : thresholds (tidied l) ≡ thresholds l
  pub same_waits : (level : ℕ) → wait_of (tidied l) level ≡ wait_of l level

abbrev pub GoodIsTidied : Type 0
GoodIsTidied = (l : Levels) → bad_list l ≡ false → Tidied l

-- no list is this one alone
abbrev pub NoneListedIsNone : Type 0
NoneListedIsNone =
    (l : Levels) → length l.above ≡ most_levels → length l.waits ≡ most_levels → none_listed l ≡ true
    → l ≡ no_levels
