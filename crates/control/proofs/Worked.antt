-- Worked examples of what documents 01 and 02 say of what samples steer and of the wait. Each side computes to the other, so a
-- definition that reads a sentence otherwise fails here.
use Prim.Native.Nat.{ℕ, ◌*◌, ◌≤◌}
use mathlib.Core.Path.{◌≡◌, refl}
use mathlib.Core.Bool.{true, false, cond}
use mathlib.Core.List.{List, [], ◌∷◌, ◌++◌, map}
use lib.Dec.{eqb}
use lib.ListN.{replicate}
use Rattle.rules.specs.Profiles.{within, profiles, reactive_of, most_ontime, ontime_allowed}
use Rattle.rules.specs.Levels.{wanted_by, towards, wait_by}
use Rattle.rules.specs.Duty.{smoothed_of, offset_of, duty_of}
use Rattle.rules.specs.Wait.{adaptive_wait, start_of}
use Rattle.rules.specs.Harmonised.{per_mille, factor_of, harmonised_wait}
use Rattle.packing.specs.Packing as packing
use Rattle.machine.specs.declared.Levels.{Levels}
use Rattle.machine.specs.Levels.{levels_of, no_levels, threshold_at, wait_at, rising, good_list, sound_list, tidied, none_listed}
use Rattle.machine.specs.Loads.{loads_of, no_loads, packed, sound_loads, none_held}
use Rattle.machine.specs.Moves.{least_from, greatest_from, least_of, low_of, high_of, reaches, highest_to, level_after, moved_by}
use Rattle.control.specs.declared.Tuning.{Tuning}
use Rattle.control.specs.Control.{Control, control_of, list_kept, fresh_control, no_control, pairing_sound, latest_sound}
use Rattle.control.specs.Control.{top_of, listing_sound, tuning_sound, sound_control, tuned, sampled}
use Rattle.control.specs.Wait.{wait_of, wait_with, closed_after}
use Rattle.control.specs.Owed.{spare, least_gap, second, quiet, claims_ceiling}
use Rattle.control.proofs.Owed.{floors, all_keep, claimants_keep}

-- a list of two levels above level 0: reached at 30 % and 60 %, with waits of 60 ms, 100 ms and 1 s
abbrev two : Levels
two = levels_of 2 60000 (300000 ∷ 600000 ∷ replicate 6 0) (100000 ∷ 1000000 ∷ replicate 6 0)

-- a control by its numbers: profile, level, duty, smoothed load, kept sample, whether one is kept, latest load; with that
-- list in profile 5 and none elsewhere, and no loads
abbrev whole : (profile level duty smoothed kept pairing latest : ℕ) → Control
whole profile level duty smoothed kept pairing latest =
    control_of profile (record {
      level = level;
      duty = duty;
      smoothed = smoothed;
      kept = kept;
      pairing = pairing;
      latest = latest;
    }) (cond (eqb profile 5) two no_levels) no_loads

-- one without a latest load
abbrev control : (profile level duty smoothed kept pairing : ℕ) → Control
control profile level duty smoothed kept pairing = whole profile level duty smoothed kept pairing 0

-- a control of profile 5: its list, its level and its loads
abbrev listed : Levels → (level : ℕ) → List ℕ → Control
listed list level xs = control_of 5 (control 5 level 600000 0 0 0).tuning list (packed xs)

-- "A fresh state: .. level 0, duty 600,000, smoothed load 0, no sample kept"; "0 before any sample" (W-209)
fresh_controls :
    map (λ (p : ℕ). fresh_control p two) profiles
    ≡ whole 1 0 600000 0 0 0 0
    ∷ whole 2 0 600000 0 0 0 0
    ∷ whole 3 0 600000 0 0 0 0
    ∷ whole 4 0 600000 0 0 0 0
    ∷ whole 5 0 600000 0 0 0 0
    ∷ []
unfolding list_kept tidied packing.filled
fresh_controls = refl

-- "a bad list with profile 1 is READY, and the state's list is zero" (reading 22); in profile 5 it is the list handed over,
-- "unused room zero", and no loads
fresh_with_a_list :
    fresh_control 5
    (levels_of 2 60000 (300000 ∷ 600000 ∷ 7 ∷ 7 ∷ 7 ∷ 7 ∷ 7 ∷ 7 ∷ []) (100000 ∷ 1000000 ∷ 7 ∷ 7 ∷ 7 ∷ 7 ∷ 7 ∷ 7 ∷ []))
    ≡ listed two 0 []
unfolding list_kept tidied packed packing.filled
fresh_with_a_list = refl

-- "the all-zero, not live state"
all-zero : no_control ≡ whole 0 0 0 0 0 0 0
all-zero = refl

-- A sound control keeps all of the rules below; in each example the rest of the control is sound.
unfoldable of_soundness : Type 0
unfolding within pairing_sound latest_sound sound_control tuning_sound top_of listing_sound good_list rising sound_list
    none_listed
    sound_loads none_held packed packing.all_are packing.filled packing.padded
of_soundness = Unit {0}

-- "profile 1 to 3"; "a sound state may have profile 4" (W-209), and 5 "and then has such a list" (W-213)
sound-profiles :
    map (λ (p : ℕ). sound_control (control p 0 600000 0 0 0)) (0 ∷ profiles ++ 6 ∷ [])
    ≡ false ∷ true ∷ true ∷ true ∷ true ∷ true ∷ false ∷ []
unfolding of_soundness
sound-profiles = refl

-- "level at most 4"; in profile 5 "a level of it", which has 2 above level 0
sound_levels :
    map (λ (p : ℕ). map (λ (level : ℕ). sound_control (control p level 600000 0 0 0)) (0 ∷ 2 ∷ 3 ∷ 4 ∷ 5 ∷ [])) profiles
    ≡ (true ∷ true ∷ true ∷ true ∷ false ∷ [])
    ∷ (true ∷ true ∷ true ∷ true ∷ false ∷ [])
    ∷ (true ∷ true ∷ true ∷ true ∷ false ∷ [])
    ∷ (true ∷ true ∷ true ∷ true ∷ false ∷ [])
    ∷ (true ∷ true ∷ false ∷ false ∷ false ∷ [])
    ∷ []
unfolding of_soundness
sound_levels = refl

-- "duty 600,000 to 30,000,000", in every profile
sound_duties :
    map (λ (p : ℕ). map (λ (duty : ℕ). sound_control (control p 0 duty 0 0 0)) (599999 ∷ 600000 ∷ 30000000 ∷ 30000001 ∷ []))
    profiles
    ≡ (false ∷ true ∷ true ∷ false ∷ [])
    ∷ (false ∷ true ∷ true ∷ false ∷ [])
    ∷ (false ∷ true ∷ true ∷ false ∷ [])
    ∷ (false ∷ true ∷ true ∷ false ∷ [])
    ∷ (false ∷ true ∷ true ∷ false ∷ [])
    ∷ []
unfolding of_soundness
sound_duties = refl

-- "loads at most 1,000,000", in every profile
sound_smoothed_loads :
    map (λ (p : ℕ). map (λ (load : ℕ). sound_control (control p 0 600000 load 0 0)) (1 ∷ 1000000 ∷ 1000001 ∷ []))
    profiles
    ≡ (true ∷ true ∷ false ∷ [])
    ∷ (true ∷ true ∷ false ∷ [])
    ∷ (true ∷ true ∷ false ∷ [])
    ∷ (true ∷ true ∷ false ∷ [])
    ∷ (true ∷ true ∷ false ∷ [])
    ∷ []
unfolding of_soundness
sound_smoothed_loads = refl

sound_kept_loads :
    map (λ (load : ℕ). sound_control (control 3 0 600000 0 load 1)) (0 ∷ 1 ∷ 1000000 ∷ 1000001 ∷ [])
    ≡ true ∷ true ∷ true ∷ false ∷ []
unfolding of_soundness
sound_kept_loads = refl

-- "a sample kept only in profile 3"
sample_kept_only_in_profile_3 :
    map (λ (p : ℕ). sound_control (control p 0 600000 0 0 1)) profiles ≡ false ∷ false ∷ true ∷ false ∷ false ∷ []
unfolding of_soundness
sample_kept_only_in_profile_3 = refl

-- "everything unused is zero": "the kept sample when none is kept"
nothing_in_an_unused_sample :
    map (λ (p : ℕ). sound_control (control p 0 600000 0 1 0)) profiles ≡ false ∷ false ∷ false ∷ false ∷ false ∷ []
unfolding of_soundness
nothing_in_an_unused_sample = refl

-- "whether one is kept" is yes or no
one_is_kept_or_none : map (λ (n : ℕ). sound_control (control 3 0 600000 0 0 n)) (0 ∷ 1 ∷ 2 ∷ []) ≡ true ∷ true ∷ false ∷ []
unfolding of_soundness
one_is_kept_or_none = refl

-- "loads at most 1,000,000", and the latest load "is kept in profile 4 alone and zero elsewhere"
sound_latest_loads :
    map (λ (p : ℕ). map (λ (load : ℕ). sound_control (whole p 0 600000 0 0 0 load)) (0 ∷ 1 ∷ 1000000 ∷ 1000001 ∷ []))
    profiles
    ≡ (true ∷ false ∷ false ∷ false ∷ [])
    ∷ (true ∷ false ∷ false ∷ false ∷ [])
    ∷ (true ∷ false ∷ false ∷ false ∷ [])
    ∷ (true ∷ true ∷ true ∷ false ∷ [])
    ∷ (true ∷ false ∷ false ∷ false ∷ [])
    ∷ []
unfolding of_soundness
sound_latest_loads = refl

-- "a level of it (which may pass 4)" (W-213): 0 to the last of its list
sound_levels_of_a_list :
    map (λ (level : ℕ). sound_control (listed two level (1 ∷ 1000000 ∷ []))) (0 ∷ 2 ∷ 3 ∷ [])
    ≡ true ∷ true ∷ false ∷ []
unfolding of_soundness
sound_levels_of_a_list = refl

-- "its last loads in order of coming, at most 50, unused room zero"; a load at most 1,000,000
sound-loads-of_a_list :
    map (λ (xs : List ℕ). sound_control (listed two 0 xs)) ((1000001 ∷ []) ∷ replicate 50 1 ∷ replicate 51 1 ∷ [])
    ++ sound_control (control_of 5 (listed two 0 []).tuning two (loads_of 1 (1 ∷ 1 ∷ replicate 48 0)))
    ∷ sound_control
    (control_of 5 (listed two 0 []).tuning (levels_of 1 60000 (1 ∷ 2 ∷ replicate 6 0) (40000 ∷ replicate 7 0)) no_loads)
    ∷ sound_control (listed no_levels 0 [])
    ∷ []
    ≡ false ∷ true ∷ false ∷ false ∷ false ∷ false ∷ []
unfolding of_soundness
sound-loads-of_a_list = refl

-- "another profile's state has it zero": a list in profile 5 alone, and loads in no other
no_list_elsewhere :
    map (λ (p : ℕ).
    sound_control (control_of p (listed two 0 []).tuning two no_loads)
    ∷ sound_control (control_of p (listed two 0 []).tuning no_levels (packed (0 ∷ [])))
    ∷ sound_control (control_of p (listed two 0 []).tuning no_levels no_loads)
    ∷ [])
    profiles
    ≡ (false ∷ false ∷ true ∷ [])
    ∷ (false ∷ false ∷ true ∷ [])
    ∷ (false ∷ false ∷ true ∷ [])
    ∷ (false ∷ false ∷ true ∷ [])
    ∷ (true ∷ false ∷ false ∷ [])
    ∷ []
unfolding of_soundness
no_list_elsewhere = refl

-- "A sound state may have a level outside up to down" (reading 22): the last 50 loads are 0, or the highest there is, and the
-- level is the last one, or 0
level_outside_up_to_down :
    map sound_control (listed two 2 (replicate 50 0) ∷ listed two 0 (replicate 50 1000000) ∷ [])
    ≡ true ∷ true ∷ []
unfolding of_soundness
level_outside_up_to_down = refl

-- odd, and sound by the letter: profiles 1, 2, 4 and 5 with a duty and a smoothed load, profiles 3 and 4 with a level
odd_but_sound :
    map sound_control
    (control 1 4 12345678 1000000 0 0
    ∷ control 2 3 30000000 680000 0 0
    ∷ control 3 4 12345678 1000000 1000000 1
    ∷ whole 4 4 12345678 1000000 0 0 1000000
    ∷ control 5 2 12345678 1000000 0 0
    ∷ [])
    ≡ true ∷ true ∷ true ∷ true ∷ true ∷ []
unfolding of_soundness
odd_but_sound = refl

-- what a list and its loads compute by
unfoldable of_lists : Type 0
unfolding list_kept tidied packed packing.filled threshold_at least_from greatest_from least_of low_of high_of reaches highest_to
    level_after moved_by
of_lists = Unit {0}

-- What a control is after a sample, and after each of several.
unfoldable of_samples : Type 0
unfolding within reactive_of wanted_by towards smoothed_of offset_of duty_of list_kept tuned sampled
of_samples = Unit {0}

course : Control → (loads : List ℕ) → List Control
unfolding of_samples
course k [] = []
course k (load ∷ loads) = let next = sampled k load in next ∷ course next loads

-- "Each sample moves the level by at most one towards the wanted one": up, down, or not at all
sample_of_profile_1 :
    map (sampled (control 1 2 700000 123456 0 0)) (1000000 ∷ 500000 ∷ 499999 ∷ 400000 ∷ 399999 ∷ 0 ∷ [])
    ≡ control 1 3 700000 123456 0 0
    ∷ control 1 3 700000 123456 0 0
    ∷ control 1 2 700000 123456 0 0
    ∷ control 1 2 700000 123456 0 0
    ∷ control 1 1 700000 123456 0 0
    ∷ control 1 1 700000 123456 0 0
    ∷ []
unfolding of_samples
sample_of_profile_1 = refl

sample_of_profile_2 :
    map (sampled (control 2 3 700000 123456 0 0)) (1000000 ∷ 650001 ∷ 650000 ∷ 500000 ∷ 499999 ∷ 0 ∷ [])
    ≡ control 2 4 700000 123456 0 0
    ∷ control 2 4 700000 123456 0 0
    ∷ control 2 3 700000 123456 0 0
    ∷ control 2 3 700000 123456 0 0
    ∷ control 2 2 700000 123456 0 0
    ∷ control 2 2 700000 123456 0 0
    ∷ []
unfolding of_samples
sample_of_profile_2 = refl

-- "to 600,000" in profile 1, "to 650,000" in profile 2: each by its own table, from level 3
samples_by_each_table :
    map
    (λ (p : ℕ). map (λ (load : ℕ). (sampled (control p 3 600000 0 0 0) load).tuning.level)
    (600000 ∷ 600001 ∷ 650000 ∷ 650001 ∷ []))
    (1 ∷ 2 ∷ [])
    ≡ (3 ∷ 4 ∷ 4 ∷ 4 ∷ []) ∷ (3 ∷ 3 ∷ 3 ∷ 4 ∷ []) ∷ []
unfolding of_samples
samples_by_each_table = refl

-- "Level 0, full load, profile 1: four samples to reach level 4", and as many to come back
levels_up_and_down :
    map (λ (k : Control). k.tuning.level)
    (course (fresh_control 1 no_levels) (1000000 ∷ 1000000 ∷ 1000000 ∷ 1000000 ∷ 1000000 ∷ 0 ∷ 0 ∷ 0 ∷ 0 ∷ 0 ∷ []))
    ≡ 1 ∷ 2 ∷ 3 ∷ 4 ∷ 4 ∷ 3 ∷ 2 ∷ 1 ∷ 0 ∷ 0 ∷ []
unfolding course
levels_up_and_down = refl

-- "Profiles 1 and 2 keep no sample and never change duty or smoothed load": whatever the numbers
rest : Tuning → List ℕ
rest t = t.duty ∷ t.smoothed ∷ t.kept ∷ t.pairing ∷ []

profiles_1_and_2_change_no_more :
    (t : Tuning) (load : ℕ)
    → map (λ (p : ℕ). rest (sampled (control_of p t no_levels no_loads) load).tuning) (1 ∷ 2 ∷ []) ≡ rest t ∷ rest t ∷ []
unfolding of_samples rest
profiles_1_and_2_change_no_more t load = refl

-- "Profile 3: the 1st, 3rd, 5th sample is kept": whatever the numbers, and nothing else changes
sample_kept_in_profile_3 :
    (level duty smoothed load : ℕ) → sampled (control 3 level duty smoothed 0 0) load ≡ control 3 level duty smoothed load 1
unfolding of_samples
sample_kept_in_profile_3 level duty smoothed load = refl

-- "Each even one, with the kept one, updates and clears the kept"
samples_of_profile_3 :
    course (fresh_control 3 no_levels) (400000 ∷ 800000 ∷ 100000 ∷ 300001 ∷ 500000 ∷ [])
    ≡ control 3 0 600000 0 400000 1
    ∷ control 3 0 1046400 300000 0 0
    ∷ control 3 0 1046400 300000 100000 1
    ∷ control 3 0 1529657 250000 0 0
    ∷ control 3 0 1529657 250000 500000 1
    ∷ []
unfolding course
samples_of_profile_3 = refl

-- an unequal pair, over a smoothed load; "profile 3 never changes level"; a kept sample may be of load 0
pairs_of_profile_3 :
    sampled (control 3 2 10000000 100000 400000 1) 800000
    ∷ sampled (control 3 4 10000000 900000 1000000 1) 700003
    ∷ sampled (control 3 0 600000 0 0 1) 400000
    ∷ []
    ≡ control 3 2 10236000 350000 0 0 ∷ control 3 4 9606000 875000 0 0 ∷ control 3 0 1090400 100000 0 0 ∷ []
unfolding of_samples
pairs_of_profile_3 = refl

profile_3_never_changes_level :
    (level duty smoothed kept load : ℕ)
    → map (λ (pairing : ℕ). (sampled (control 3 level duty smoothed kept pairing) load).tuning.level) (0 ∷ 1 ∷ [])
    ≡ level ∷ level ∷ []
unfolding of_samples
profile_3_never_changes_level level duty smoothed kept load = refl

-- profile 4 notes the latest load, and changes nothing else: whatever the numbers (W-209)
sample_of_profile_4 :
    (level duty smoothed kept pairing latest load : ℕ)
    → sampled (whole 4 level duty smoothed kept pairing latest) load ≡ whole 4 level duty smoothed kept pairing load
unfolding of_samples
sample_of_profile_4 level duty smoothed kept pairing latest load = refl

-- "the latest load": the last of several, also where it is 0
samples_of_profile_4 :
    course (fresh_control 4 no_levels) (700000 ∷ 1000000 ∷ 0 ∷ 620001 ∷ [])
    ≡ whole 4 0 600000 0 0 0 700000
    ∷ whole 4 0 600000 0 0 0 1000000
    ∷ whole 4 0 600000 0 0 0 0
    ∷ whole 4 0 600000 0 0 0 620001
    ∷ []
unfolding course
samples_of_profile_4 = refl

-- in profile 5 the level moves at once as far as is needed, and the loads are noted; nothing else changes (W-213, reading 22):
-- nine full samples leave level 0, the tenth gives the top
samples_of_profile_5 :
    map (λ (k : Control). k.tuning.level) (course (fresh_control 5 two) (replicate 10 1000000))
    ≡ 0 ∷ 0 ∷ 0 ∷ 0 ∷ 0 ∷ 0 ∷ 0 ∷ 0 ∷ 0 ∷ 2 ∷ []
unfolding course of_lists
samples_of_profile_5 = refl

sample_of_profile_5 : sampled (listed two 1 (5 ∷ 7 ∷ [])) 300000 ≡ listed two 1 (5 ∷ 7 ∷ 300000 ∷ [])
unfolding of_samples of_lists
sample_of_profile_5 = refl

-- the latest load is profile 4's: no other touches it, whatever the numbers
latest_load_in_profile_4_alone :
    (level duty smoothed kept load : ℕ)
    → map
    (λ (p : ℕ). map (λ (pairing : ℕ). (sampled (control p level duty smoothed kept pairing) load).tuning.latest)
    (0 ∷ 1 ∷ []))
    profiles
    ≡ (0 ∷ 0 ∷ []) ∷ (0 ∷ 0 ∷ []) ∷ (0 ∷ 0 ∷ []) ∷ (load ∷ load ∷ []) ∷ (0 ∷ 0 ∷ []) ∷ []
unfolding of_samples of_lists
latest_load_in_profile_4_alone level duty smoothed kept load = refl

-- The wait, and how long it keeps the gate closed.
unfoldable of-waits : Type 0
unfolding within wait_by adaptive_wait per_mille factor_of harmonised_wait start_of most_ontime wait_with quiet claims_ceiling
of-waits = Unit {0}

-- "The wait in profiles 1 and 2 is the current level's": whatever the duty and the on-time

waits-of_profile_1 :
    (duty ontime : ℕ)
    → map (λ (level : ℕ). wait_of (control 1 level duty 0 0 0) ontime) (0 ∷ 1 ∷ 2 ∷ 3 ∷ 4 ∷ [])
    ≡ 100000 ∷ 200000 ∷ 400000 ∷ 500000 ∷ 1000000 ∷ []
unfolding of-waits
waits-of_profile_1 duty ontime = refl

waits-of_profile_2 :
    (duty ontime : ℕ)
    → map (λ (level : ℕ). wait_of (control 2 level duty 0 0 0) ontime) (0 ∷ 1 ∷ 2 ∷ 3 ∷ 4 ∷ [])
    ≡ 50000 ∷ 100000 ∷ 200000 ∷ 250000 ∷ 1000000 ∷ []
unfolding of-waits
waits-of_profile_2 duty ontime = refl

-- "In profile 3 it is ceil(on-time of the last admitted packet × 1,000,000,000 / duty), held within 25,000 to 1,000,000":
-- whatever the level

waits_at_the_greatest_duty :
    (level : ℕ)
    → map (wait_of (control 3 level 30000000 0 0 0)) (1 ∷ 749 ∷ 750 ∷ 751 ∷ 4000 ∷ [])
    ≡ 25000 ∷ 25000 ∷ 25000 ∷ 25034 ∷ 133334 ∷ []
unfolding of-waits
waits_at_the_greatest_duty level = refl

waits_between :
    (level : ℕ)
    → map (wait_of (control 3 level 7000000 0 0 0)) (1 ∷ 175 ∷ 176 ∷ 1000 ∷ 4000 ∷ [])
    ≡ 25000 ∷ 25000 ∷ 25143 ∷ 142858 ∷ 571429 ∷ []
unfolding of-waits
waits_between level = refl

waits_at_the_least_duty :
    (level : ℕ)
    → map (wait_of (control 3 level 600000 0 0 0)) (15 ∷ 16 ∷ 599 ∷ 600 ∷ 601 ∷ 4000 ∷ [])
    ≡ 25000 ∷ 26667 ∷ 998334 ∷ 1000000 ∷ 1000000 ∷ 1000000 ∷ []
unfolding of-waits
waits_at_the_least_duty level = refl

-- in profile 4 "For c at most 620 the wait is 25,000. Above that .. the wait is the factor times the last on-time, held within
-- 25,000 to 1,000,000." (W-209): whatever the level, the duty and the smoothed load
waits-of_profile_4 :
    (level duty smoothed : ℕ)
    → map (λ (load : ℕ). map (wait_of (whole 4 level duty smoothed 0 0 load)) (1 ∷ 54 ∷ 55 ∷ 1000 ∷ 4000 ∷ []))
    (0 ∷ 620000 ∷ 620001 ∷ 621001 ∷ 700000 ∷ 1000000 ∷ [])
    ≡ (25000 ∷ 25000 ∷ 25000 ∷ 25000 ∷ 25000 ∷ [])
    ∷ (25000 ∷ 25000 ∷ 25000 ∷ 25000 ∷ 25000 ∷ [])
    ∷ (25000 ∷ 25000 ∷ 25000 ∷ 25000 ∷ 25000 ∷ [])
    ∷ (25000 ∷ 25000 ∷ 25000 ∷ 25000 ∷ 48000 ∷ [])
    ∷ (25000 ∷ 25000 ∷ 25135 ∷ 457000 ∷ 1000000 ∷ [])
    ∷ (25000 ∷ 82026 ∷ 83545 ∷ 1000000 ∷ 1000000 ∷ [])
    ∷ []
unfolding of-waits
waits-of_profile_4 level duty smoothed = refl

-- in profile 5 the wait is that of the list for the level, whatever the on-time, and runs from the end (W-213)
waits-of_profile_5 :
    map (λ (level : ℕ). wait_of (listed two level []) 1000) (0 ∷ 1 ∷ 2 ∷ [])
    ++ closed_after (listed two 1 []) 1000
    ∷ []
    ≡ 60000 ∷ 100000 ∷ 1000000 ∷ 101000 ∷ []
unfolding of-waits wait_at
waits-of_profile_5 = refl

-- "In profiles 1 and 2 the wait now runs from admission plus that packet's on-time. Profile 3 stays as it is" (W-202)

closed_in_profiles_1_and_2 :
    closed_after (control 1 0 600000 0 0 0) 1000
    ∷ closed_after (control 1 4 600000 0 0 0) 1
    ∷ closed_after (control 2 0 600000 0 0 0) 400
    ∷ closed_after (control 2 3 600000 0 0 0) 500
    ∷ []
    ≡ 101000 ∷ 1000001 ∷ 50400 ∷ 250500 ∷ []
unfolding of-waits
closed_in_profiles_1_and_2 = refl

closed_in_profile_3 :
    map (closed_after (control 3 0 30000000 0 0 0)) (1 ∷ 751 ∷ 4000 ∷ [])
    ≡ 25000 ∷ 25034 ∷ 133334 ∷ []
unfolding of-waits
closed_in_profile_3 = refl

-- "It runs from the end of transmission." (W-209)
closed_in_profile_4 :
    map (closed_after (whole 4 0 600000 0 0 0 0)) (1 ∷ 4000 ∷ [])
    ++ map (closed_after (whole 4 0 600000 0 0 0 700000)) (55 ∷ 1000 ∷ 4000 ∷ [])
    ≡ 25001 ∷ 29000 ∷ 25190 ∷ 458000 ∷ 1004000 ∷ []
unfolding of-waits
closed_in_profile_4 = refl

-- "its floor reads 1,001,000 µs for profile 1, 1,000,500 for profile 2 and 1,000,000 for profile 3" (W-202); "Its floor is
-- 1,004,000 µs." (W-209); "the floor is 1,001,000 µs" (W-213)
quiet-times : map quiet profiles ≡ 1001000 ∷ 1000500 ∷ 1000000 ∷ 1004000 ∷ 1001000 ∷ []
unfolding of-waits
quiet-times = refl

floors_by_profile :
    (quiet 1 ≡ 1001000) × (quiet 2 ≡ 1000500) × (quiet 3 ≡ 1000000) × (quiet 4 ≡ 1004000) × (quiet 5 ≡ 1001000)
floors_by_profile = floors

-- "100 x air time admitted ≤ 3 W + 400,000"; "gaps of at least 25,000 µs", "1,000,000 µs" (W-207)
spare_gap_second : spare ∷ least_gap ∷ second ∷ [] ≡ 400000 ∷ 25000 ∷ 1000000 ∷ []
spare_gap_second = refl

-- "Demand 3's ceiling stands" (W-202); "01's ceiling isn't claimed for it" (W-209): profile 4 may admit 4,000 µs every 29,000;
-- in profile 5 "01's ceiling holds" (W-213)
ceiling_claimed : map claims_ceiling (0 ∷ profiles ++ 6 ∷ []) ≡ false ∷ true ∷ true ∷ true ∷ false ∷ true ∷ false ∷ []
unfolding of-waits
ceiling_claimed = refl

-- what every profile owes, and what one owes that claims the ceiling, in numbers

all_owe : (k : Control) (ontime : ℕ) → sound_control k ≡ true → ontime_allowed k.profile ontime ≡ true
    → (closed_after k ontime ≤ quiet k.profile) × (25000 ≤ closed_after k ontime) × (1000000 ≤ quiet k.profile)
all_owe k ontime s o = let h = all_keep k ontime (s, o) in (h.longest, h.apart, h.forgets)

claimants_owe : (k : Control) (ontime : ℕ) → sound_control k ≡ true → ontime_allowed k.profile ontime ≡ true
    → claims_ceiling k.profile ≡ true → (100 * ontime ≤ 3 * closed_after k ontime) × (100 * ontime ≤ 400000)
claimants_owe k ontime s o c = let h = claimants_keep k ontime (s, o) c in (h.spaced, h.alone)
