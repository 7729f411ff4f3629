-- The wait, and how long it keeps the gate closed (document 01, "Waiting and leaving"; document 02, W-209 and
-- W-213).
use Rattle.std.specs.Prelude.{ℕ, ◌+◌}
use Rattle.rules.specs.Profiles.{profile1, profile2, profile3, profile4, by_profile}
use Rattle.rules.specs.Levels.{wait_by}
use Rattle.rules.specs.Wait.{adaptive_wait, start_of}
use Rattle.rules.specs.Harmonised.{harmonised_wait}
use Rattle.machine.specs.Levels as listing
use Rattle.control.specs.declared.Tuning.{Tuning}
use Rattle.control.specs.Control.{Control}

-- "The wait in profiles 1 and 2 is the current level's"; in profile 3 it goes by the last on-time and the
-- duty, in profile 4 by the last on-time and the latest load; in profile 5 it is the one listed for the level
unfoldable pub wait_with : (profile : ℕ) → Tuning → (listed ontime : ℕ) → ℕ
wait_with profile t listed ontime =
    by_profile profile (wait_by profile1 t.level) (wait_by profile2 t.level)
    (adaptive_wait profile3.limits ontime t.duty) (harmonised_wait profile4 ontime t.latest) listed

-- "a wait of its own": the wait of the list for the level
abbrev pub listed_wait : Control → ℕ
listed_wait k = listing.wait_of k.levels k.tuning.level

abbrev pub wait_of : Control → (ontime : ℕ) → ℕ
wait_of k ontime = wait_with k.profile k.tuning (listed_wait k) ontime

-- how long after an admission of an on-time the gate stays closed: the wait, from where it starts (document
-- 02, W-202)
abbrev pub closed_with : (profile : ℕ) → Tuning → (listed ontime : ℕ) → ℕ
closed_with profile t listed ontime = start_of profile ontime + wait_with profile t listed ontime

abbrev pub closed_after : Control → (ontime : ℕ) → ℕ
closed_after k ontime = closed_with k.profile k.tuning (listed_wait k) ontime
