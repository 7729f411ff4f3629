-- What samples steer: how it starts, when it is sound, and what a sample does to it (document 01, "State and
-- calls", "Samples"; document 02, W-209, W-213). A state has the groups of a control side by side.
use Rattle.std.specs.Prelude.{ℕ, ◌≤◌, ◌≡◌, Bool, true, cond, ◌&&◌, List, [], ◌∷◌, leb, eqb}
use Rattle.rules.specs.Tests.{all_of}
use Rattle.rules.specs.Profiles.{profile3, full_load, top_level, is_profile, is_reactive, reactive_of}
use Rattle.rules.specs.Profiles.{duty_allowed}
use Rattle.rules.specs.Levels.{wanted_by, towards}
use Rattle.rules.specs.Duty.{smoothed_of, duty_of}
use Rattle.machine.specs.declared.Levels.{Levels}
use Rattle.machine.specs.declared.Loads.{Loads}
use Rattle.machine.specs.declared.Moved.{Moved}
use Rattle.machine.specs.Levels.{sound_list, none_listed, tidied, no_levels}
use Rattle.machine.specs.Loads.{sound_loads, none_held, no_loads}
use Rattle.machine.specs.Moves.{moved_by}
use Rattle.control.specs.declared.Tuning.{Tuning}

-- "profile, .. level 0 to 4, duty, smoothed load, a sample kept for pairing and whether one is kept"; "the
-- latest load" (document 02, W-209); profile 5's "list", and "its last loads in order of coming" (W-213)
pub record Control : Type 0 where
  pub profile : ℕ
  pub tuning : Tuning
  pub levels : Levels
  pub loads : Loads

-- a control from its groups
abbrev pub control_of : ℕ → Tuning → Levels → Loads → Control
control_of profile tuning levels loads =
    record { profile = profile; tuning = tuning; levels = levels; loads = loads }

-- "level 0, duty 600,000, smoothed load 0, no sample kept"; the latest load is "0 before any sample"
-- (document 02, W-209)
abbrev pub fresh_tuning : Tuning
fresh_tuning =
    record { level = 0; duty = profile3.leastduty; smoothed = 0; kept = 0; pairing = 0; latest = 0 }

-- the list that a make leaves: the one it was handed in profile 5; "a bad list with profile 1 is READY, and
-- the state's list is zero" (reading 22)
unfoldable pub list_kept : (profile : ℕ) → Levels → Levels
list_kept profile list = cond (eqb profile 5) (tidied list) no_levels

-- a control as make leaves it
abbrev pub fresh_control : (profile : ℕ) → Levels → Control
fresh_control profile list = control_of profile fresh_tuning (list_kept profile list) no_loads

-- "all-zero"
abbrev pub no_tuning : Tuning
no_tuning = record { level = 0; duty = 0; smoothed = 0; kept = 0; pairing = 0; latest = 0 }

-- that of a state that is not live
abbrev pub no_control : Control
no_control = control_of 0 no_tuning no_levels no_loads

-- "a sample kept only in profile 3"; the kept sample is zero "when none is kept"
unfoldable pub pairing_sound : ℕ → Tuning → Bool
pairing_sound profile t = cond (eqb t.pairing 1) (eqb profile 3) (eqb t.kept 0)

-- "loads at most 1,000,000" in profile 4, whose wait goes by the latest load; zero elsewhere, as "what a
-- later request adds for profiles other than the state's"
unfoldable pub latest_sound : (profile latest : ℕ) → Bool
latest_sound profile latest = cond (eqb profile 4) (leb latest full_load) (eqb latest 0)

-- "level at most 4"; in profile 5 "a level of" its list, "(which may pass 4)" (document 02, W-213)
unfoldable pub top_of : (profile listed : ℕ) → ℕ
top_of profile listed = cond (eqb profile 5) listed top_level

-- "a sound state may have profile 5, and then has such a list, .. and its last loads"; in every other profile
-- they are zero, as "what a later request adds for profiles other than the state's" (reading 23)
unfoldable pub listing_sound : (profile : ℕ) → Levels → Loads → Bool
listing_sound profile levels loads =
    cond (eqb profile 5) (sound_list levels && sound_loads loads) (none_listed levels && none_held loads)

-- "level at most 4; duty 600,000 to 30,000,000; loads at most 1,000,000"
abbrev pub tuning_rules : (profile listed : ℕ) → Tuning → List Bool
tuning_rules profile listed t =
    leb t.level (top_of profile listed)
    ∷ duty_allowed t.duty
    ∷ leb t.smoothed full_load
    ∷ leb t.kept full_load
    ∷ latest_sound profile t.latest
    ∷ leb t.pairing 1
    ∷ pairing_sound profile t
    ∷ []

-- what samples change, with the profile: "profile 1 to 3"; "a sound state may have profile 4" (document 02,
-- W-209), and 5 (W-213)
unfoldable pub tuning_sound : (profile listed : ℕ) → Tuning → Bool
tuning_sound profile listed t = is_profile profile && all_of (tuning_rules profile listed t)

-- what the arithmetic of samples and waits needs of them
pub record Steerable (profile : ℕ) (t : Tuning) : Type 0 where
  pub level : is_reactive profile ≡ true → t.level ≤ top_level
  pub duty : duty_allowed t.duty ≡ true
  pub smoothed : t.smoothed ≤ full_load
  pub kept : t.kept ≤ full_load
  pub latest : t.latest ≤ full_load

abbrev pub control_rules : Control → List Bool
control_rules k =
    tuning_sound k.profile k.levels.len k.tuning
    ∷ listing_sound k.profile k.levels k.loads
    ∷ []

-- a control all of whose rules hold
unfoldable pub sound_control : Control → Bool
sound_control k = all_of (control_rules k)

-- a level in place of the one that was
abbrev pub with_level : Tuning → ℕ → Tuning
with_level t level =
    record {
      level = level;
      duty = t.duty;
      smoothed = t.smoothed;
      kept = t.kept;
      pairing = t.pairing;
      latest = t.latest;
    }

-- "Each sample moves the level by at most one towards the wanted one"
abbrev pub level_stepped : ℕ → Tuning → (load : ℕ) → Tuning
level_stepped profile t load = with_level t (towards t.level (wanted_by (reactive_of profile) load))

-- "Each even one, with the kept one, updates and clears the kept", by the load smoothed with this pair
abbrev pub updated : Tuning → (smoothed : ℕ) → Tuning
updated t smoothed =
    record {
      level = t.level;
      duty = duty_of profile3 t.duty smoothed;
      smoothed = smoothed;
      kept = 0;
      pairing = 0;
      latest = t.latest;
    }

-- "the 1st, 3rd, 5th sample is kept"
abbrev pub sample_kept : Tuning → (load : ℕ) → Tuning
sample_kept t load =
    record {
      level = t.level;
      duty = t.duty;
      smoothed = t.smoothed;
      kept = load;
      pairing = 1;
      latest = t.latest;
    }

-- profile 3 pairs its samples
abbrev pub paired : Tuning → (load : ℕ) → Tuning
paired t load =
    cond (eqb t.pairing 1) (updated t (smoothed_of t.smoothed t.kept load)) (sample_kept t load)

-- profile 4 notes "the latest load" (document 02, W-209)
abbrev pub noted : Tuning → (load : ℕ) → Tuning
noted t load =
    record {
      level = t.level;
      duty = t.duty;
      smoothed = t.smoothed;
      kept = t.kept;
      pairing = t.pairing;
      latest = load;
    }

-- "Profiles 1 and 2 keep no sample and never change duty or smoothed load; profile 3 never changes level";
-- profile 4 changes its latest load alone, profile 5 its level, to the one that its loads move it to
unfoldable pub tuned : (profile : ℕ) → Tuning → (moved load : ℕ) → Tuning
tuned profile t moved load =
    cond (is_reactive profile) (level_stepped profile t load)
    (cond (eqb profile 4) (noted t load) (cond (eqb profile 5) (with_level t moved) (paired t load)))

-- a sample's load moves profile 5's level, "itself counted"
abbrev pub moved_in : Control → (load : ℕ) → Moved
moved_in k load = moved_by k.levels k.loads k.tuning.level load

-- its loads are noted in profile 5 alone
abbrev pub loads_after : Control → (load : ℕ) → Loads
loads_after k load = cond (eqb k.profile 5) (moved_in k load).loads k.loads

unfoldable pub sampled : Control → (load : ℕ) → Control
sampled k load =
    control_of k.profile (tuned k.profile k.tuning (moved_in k load).level load) k.levels
    (loads_after k load)
