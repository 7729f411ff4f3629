-- The numbers of demand 3, and what demand 3 needs of the profiles, each by its sound controls and the
-- on-times that it allows.
use Rattle.std.specs.Prelude.{ℕ, ◌+◌, ◌*◌, ◌≤◌, ◌≡◌, Bool, true, ◌||◌, eqb}
use Rattle.rules.specs.Profiles.{within, limits_of, most_ontime, ontime_allowed}
use Rattle.rules.specs.Wait.{start_of}
use Rattle.control.specs.Control.{Control, sound_control}
use Rattle.control.specs.Wait.{closed_after}

-- the ceiling: "in any window of W µs, 100 x air time admitted ≤ 3 W + 400,000"
abbrev pub spare : ℕ
spare = 400000

-- "gaps of at least 25,000 µs" (document 02, W-207)
abbrev pub least_gap : ℕ
least_gap = 25000

-- "Test houses slide source 004's one second." (document 02, W-207)
abbrev pub second : ℕ
second = 1000000

-- the floor: a poll that finds a packet so many µs or more after every earlier admission sends. It is the
-- longest wait, from where the wait of the longest packet starts
unfoldable pub quiet : (profile : ℕ) → ℕ
quiet profile = start_of profile (most_ontime profile) + (limits_of profile).mostwait

-- "its floor reads 1,001,000 µs for profile 1, 1,000,500 for profile 2 and 1,000,000 for profile 3" (document
-- 02, W-202); of profile 4 "Its floor is 1,004,000 µs." (W-209), of profile 5 "the floor is 1,001,000 µs"
-- (W-213)
abbrev pub Floors : Type 0
Floors =
    (quiet 1 ≡ 1001000) × (quiet 2 ≡ 1000500) × (quiet 3 ≡ 1000000) × (quiet 4 ≡ 1004000)
    × (quiet 5 ≡ 1001000)

-- the profiles of which "Demand 3's ceiling" is claimed; of profile 4, "01's ceiling isn't claimed for it"
-- (document 02, W-209); of profile 5 "01's ceiling holds" (W-213)
unfoldable pub claims_ceiling : (profile : ℕ) → Bool
claims_ceiling profile = within 1 3 profile || eqb profile 5

-- "State what all four profiles have in common once." (document 02, W-209): every profile owes this, whatever
-- its rule
pub record Keeps (k : Control) (ontime : ℕ) : Type 0 where
  -- the floor: no wait ends after the quiet time
  pub longest : closed_after k ontime ≤ quiet k.profile
  -- admissions are so far apart
  pub apart : least_gap ≤ closed_after k ontime
  -- after the quiet time no admission is left in the last second
  pub forgets : second ≤ quiet k.profile

-- what a profile owes besides that claims the ceiling
pub record KeepsCeiling (k : Control) (ontime : ℕ) : Type 0 where
  -- an admission's air time is at most 3 % of the time to the next
  pub spaced : 100 * ontime ≤ 3 * closed_after k ontime
  -- one admission by itself fits the spare
  pub alone : 100 * ontime ≤ spare

-- a sound control, and an on-time that its profile allows
abbrev pub Allowed : Control → (ontime : ℕ) → Type 0
Allowed k ontime = (sound_control k ≡ true) × (ontime_allowed k.profile ontime ≡ true)

-- all profiles owe what they have in common
abbrev pub AllKeep : Type 0
AllKeep = (k : Control) (ontime : ℕ) → Allowed k ontime → Keeps k ontime

-- what those owe besides that claim the ceiling
abbrev pub ClaimantsKeep : Type 0
ClaimantsKeep =
    (k : Control) (ontime : ℕ) → Allowed k ontime → claims_ceiling k.profile ≡ true → KeepsCeiling k ontime
