-- A control is sound exactly if these facts hold of it. A fresh one is, if its list is good; a sample keeps it so, by the
-- rules' own bounds and the machine's laws, and in its profile.
use Prim.Native.Nat.{ℕ, ◌≤◌}
use mathlib.Core.Path.{◌≡◌, refl, ap}
use mathlib.Core.Bool.{true, false, not, ◌&&◌}
use native.Mathlib.Omega.{arith}
use lib.Dec.{leb, eqb}
use lib.ListN.{drop}
use borrow.Author.Tests.{le-leb, eq-eqb, ne_eqb, eqb-false}
use Rattle.rules.specs.Tests.{all_of}
use Rattle.rules.specs.Profiles.{profile3, full_load, top_level, is_profile, is_reactive, reactive_of, duty_allowed}
use Rattle.rules.specs.Levels.{wanted_by}
use Rattle.rules.specs.Duty.{smoothed_of}
use Rattle.rules.proofs.Cases.{split, on_cond, within-true, true-within, clash, both}
use Rattle.rules.proofs.Tests.{tested, all_true}
use Rattle.rules.proofs.Profiles.{duty_within}
use Rattle.rules.proofs.Levels.{wanted_le, towards-le}
use Rattle.rules.proofs.Duty.{smoothed_le, duty_held}
use Rattle.machine.specs.declared.Levels.{Levels}
use Rattle.machine.specs.Levels.{bad_list, good_list, sound_list, none_listed, no_levels, thresholds}
use Rattle.machine.specs.Loads.{sound_loads, none_held, no_loads, loads}
use Rattle.machine.specs.Loads as held
use Rattle.packing.specs.Packing as packing
use Rattle.machine.specs.Moves.{moved_by}
use Rattle.machine.proofs.Parts.{length-listed}
use Rattle.machine.proofs.Noted.{noted-sound}
use Rattle.machine.proofs.Bounds.{always_moves}
use Rattle.machine.proofs.Tidying.{good_is_tidied}
use Rattle.control.specs.declared.Tuning.{Tuning}
use Rattle.control.specs.Control.{Control, list_kept, fresh_control, pairing_sound, latest_sound, top_of}
use Rattle.control.specs.Control.{listing_sound, tuning_rules, tuning_sound, Steerable, control_rules, sound_control}
use Rattle.control.specs.Control.{with_level, level_stepped, paired, noted, tuned, moved_in, loads_after, sampled}

pub record SoundTuning (profile listed : ℕ) (t : Tuning) : Type 0 where
  pub level : t.level ≤ top_of profile listed
  pub duty : duty_allowed t.duty ≡ true
  pub smoothed : t.smoothed ≤ full_load
  pub kept : t.kept ≤ full_load
  pub latest : latest_sound profile t.latest ≡ true
  pub flag : t.pairing ≤ 1
  pub pairing : pairing_sound profile t ≡ true

pub record SoundControl (k : Control) : Type 0 where
  pub profile : is_profile k.profile ≡ true
  pub tuning : SoundTuning k.profile k.levels.len k.tuning
  pub listing : listing_sound k.profile k.levels k.loads ≡ true

-- the tests say these facts, and no more
test_rules : (profile listed : ℕ) (t : Tuning) → all_of (tuning_rules profile listed t) ≡ true → SoundTuning profile listed t
test_rules profile listed t e =
    let h = all_true (tuning_rules profile listed t) e in
    record {
      level = omega (tested, h.0);
      duty = h.1.0;
      smoothed = omega (tested, h.1.1.0);
      kept = omega (tested, h.1.1.1.0);
      latest = h.1.1.1.1.0;
      flag = omega (tested, h.1.1.1.1.1.0);
      pairing = h.1.1.1.1.1.1.0;
    }

rules_test : (profile listed : ℕ) (t : Tuning) → SoundTuning profile listed t → all_of (tuning_rules profile listed t) ≡ true
rules_test profile listed t h =
    rw (
      le-leb _ _ h.level,
      h.duty,
      le-leb _ _ h.smoothed,
      le-leb _ _ h.kept,
      h.latest,
      le-leb _ _ h.flag,
      h.pairing,
    )

pub test_tuning : (profile listed : ℕ) (t : Tuning) → tuning_sound profile listed t ≡ true
    → (is_profile profile ≡ true) × SoundTuning profile listed t
unfolding tuning_sound
test_tuning profile listed t e =
    let h = both _ _ e in
    (h.0, test_rules profile listed t h.1)

tuning_test : (profile listed : ℕ) (t : Tuning) → is_profile profile ≡ true → SoundTuning profile listed t
    → tuning_sound profile listed t ≡ true
unfolding tuning_sound
tuning_test profile listed t e h = rw (e, rules_test profile listed t h)

pub test_control : (k : Control) → sound_control k ≡ true → SoundControl k
unfolding sound_control
test_control k e =
    let h = all_true (control_rules k) e in
    let t = test_tuning k.profile k.levels.len k.tuning h.0 in
    record { profile = t.0; tuning = t.1; listing = h.1.0 }

pub control_test : (k : Control) → SoundControl k → sound_control k ≡ true
unfolding sound_control
control_test k h =
    rw (tuning_test k.profile k.levels.len k.tuning h.profile h.tuning, h.listing)

-- no load is a latest load in every profile
no_latest : (profile : ℕ) → latest_sound profile 0 ≡ true
unfolding latest_sound
no_latest profile = on_cond (λ u. u ≡ true) (eqb profile 4) (λ e. refl) (λ e. refl)

-- nothing listed and nothing held
none-listed : none_listed no_levels && none_held no_loads ≡ true
unfolding none_listed none_held packing.all_are
none-listed = refl

no_loads-sound : sound_loads no_loads ≡ true
unfolding sound_loads packing.padded packing.all_are
no_loads-sound = refl

-- a fresh one; its list is judged in profile 5 alone
fresh_listing : (profile : ℕ) (list : Levels) → eqb profile 5 && bad_list list ≡ false
    → listing_sound profile (list_kept profile list) no_loads ≡ true
unfolding listing_sound list_kept
fresh_listing profile list e =
    split (eqb profile 5)
    (λ f. rw (f, (good_is_tidied list (rw f at e)).sound, no_loads-sound))
    (λ f. rw f none-listed)

pub fresh_control_lem : (profile : ℕ) (list : Levels) → is_profile profile ≡ true → eqb profile 5 && bad_list list ≡ false
    → SoundControl (fresh_control profile list)
unfolding pairing_sound
fresh_control_lem profile list e f =
    record {
      profile = e;
      tuning =
          record {
            level = omega arith;
            duty = true-within _ _ _ (omega arith) (omega arith);
            smoothed = omega arith;
            kept = omega arith;
            latest = no_latest profile;
            flag = omega arith;
            pairing = refl;
          };
      listing = fresh_listing profile list f;
    }

-- a sample
pub sampled_profile : (k : Control) (load : ℕ) → (sampled k load).profile ≡ k.profile
unfolding sampled
sampled_profile k load = refl

-- the profiles that are neither reactive nor harmonised nor listed: the adaptive one
adaptive : (profile : ℕ) → is_profile profile ≡ true → is_reactive profile ≡ false → eqb profile 4 ≡ false
    → eqb profile 5 ≡ false → profile ≡ 3
adaptive profile e f g i =
    let h = within-true _ _ profile e in
    split (leb profile 2) (λ u. clash (cc (true-within 1 2 profile h.0 (omega tested))))
    (λ u. omega (tested, h.1, eqb-false profile 4 g, eqb-false profile 5 i))

-- without a list levels are 0 to 4
top-unlisted : (profile listed : ℕ) → eqb profile 5 ≡ false → top_of profile listed ≡ top_level
unfolding top_of
top-unlisted profile listed e = rw e

reactive_unlisted : (profile : ℕ) → is_reactive profile ≡ true → eqb profile 5 ≡ false
reactive_unlisted profile e = let h = within-true 1 2 profile e in ne_eqb profile 5 (omega (arith, h.1))

stepped-sound : (profile listed : ℕ) (t : Tuning) (load : ℕ) → is_reactive profile ≡ true → SoundTuning profile listed t
    → SoundTuning profile listed (level_stepped profile t load)
unfolding pairing_sound
stepped-sound profile listed t load e h =
    let top = top-unlisted profile listed (reactive_unlisted profile e) in
    let was : t.level ≤ top_level = omega (arith, top, h.level) in
    let is = towards-le t.level (wanted_by (reactive_of profile) load) was (wanted_le (reactive_of profile) load) in
    record {
      level = omega (arith, top, is);
      duty = h.duty;
      smoothed = h.smoothed;
      kept = h.kept;
      latest = h.latest;
      flag = h.flag;
      pairing = h.pairing;
    }

paired-sound : (profile listed : ℕ) (t : Tuning) (load : ℕ) → profile ≡ 3 → load ≤ full_load → SoundTuning profile listed t
    → SoundTuning profile listed (paired t load)
unfolding pairing_sound
paired-sound profile listed t load e a h =
    on_cond (SoundTuning profile listed) (eqb t.pairing 1)
    (λ f. record {
      level = h.level;
      duty = duty_held t.duty (smoothed_of t.smoothed t.kept load);
      smoothed = smoothed_le t.smoothed t.kept load h.smoothed h.kept a;
      kept = omega arith;
      latest = h.latest;
      flag = omega arith;
      pairing = refl;
    })
    (λ f. record {
      level = h.level;
      duty = h.duty;
      smoothed = h.smoothed;
      kept = a;
      latest = h.latest;
      flag = omega arith;
      pairing = eq-eqb profile 3 e;
    })

latest_sound_lem : (profile listed : ℕ) (t : Tuning) (load : ℕ) → eqb profile 4 ≡ true → load ≤ full_load
    → SoundTuning profile listed t → SoundTuning profile listed (noted t load)
unfolding pairing_sound latest_sound
latest_sound_lem profile listed t load e a h =
    record {
      level = h.level;
      duty = h.duty;
      smoothed = h.smoothed;
      kept = h.kept;
      latest = rw e (le-leb _ _ a);
      flag = h.flag;
      pairing = h.pairing;
    }

moved-sound : (profile listed : ℕ) (t : Tuning) (level : ℕ) → level ≤ top_of profile listed → SoundTuning profile listed t
    → SoundTuning profile listed (with_level t level)
unfolding pairing_sound
moved-sound profile listed t level a h =
    record {
      level = a;
      duty = h.duty;
      smoothed = h.smoothed;
      kept = h.kept;
      latest = h.latest;
      flag = h.flag;
      pairing = h.pairing;
    }

-- the level that the loads move it to is of the list
moved_listed : (k : Control) (load : ℕ) → (moved_in k load).level ≤ k.levels.len
unfolding moved_by
moved_listed k load =
    let ts = thresholds k.levels in
    let l = (always_moves ts (held.noted (loads k.loads) load) k.tuning.level).level_listed in
    omega (arith, l, length-listed k.levels.len k.levels.above)

tuned-sound : (k : Control) (load : ℕ) → load ≤ full_load → SoundControl k
    → SoundTuning k.profile k.levels.len (tuned k.profile k.tuning (moved_in k load).level load)
unfolding tuned top_of
tuned-sound k load a h =
    let P = SoundTuning k.profile k.levels.len in
    on_cond P (is_reactive k.profile) (λ e. stepped-sound k.profile k.levels.len k.tuning load e h.tuning)
    (λ e. on_cond P (eqb k.profile 4)
    (λ f. latest_sound_lem k.profile k.levels.len k.tuning load f a h.tuning)
    (λ f. on_cond P (eqb k.profile 5)
    (λ g. moved-sound k.profile k.levels.len k.tuning (moved_in k load).level (rw g (moved_listed k load)) h.tuning)
    (λ g. paired-sound k.profile k.levels.len k.tuning load (adaptive k.profile h.profile e f g) a h.tuning)))

sampled_listing : (k : Control) (load : ℕ) → load ≤ full_load → listing_sound k.profile k.levels k.loads ≡ true
    → listing_sound k.profile k.levels (loads_after k load) ≡ true
unfolding listing_sound moved_by
sampled_listing k load a h =
    split (eqb k.profile 5)
    (λ e. let b = both (sound_list k.levels) (sound_loads k.loads) (rw e at h) in
    rw (e, b.0, noted-sound k.loads load b.1 a))
    (λ e. rw e (rw e at h))

pub sampled-sound : (k : Control) (load : ℕ) → load ≤ full_load → SoundControl k → SoundControl (sampled k load)
unfolding sampled
sampled-sound k load a h =
    record {
      profile = h.profile;
      tuning = tuned-sound k load a h;
      listing = sampled_listing k load a h.listing;
    }

-- what a sound control's arithmetic needs
pub steerable : (profile listed : ℕ) (t : Tuning) → SoundTuning profile listed t → Steerable profile t
unfolding latest_sound
steerable profile listed t h =
    record {
      level = λ e. omega (arith, top-unlisted profile listed (reactive_unlisted profile e), h.level);
      duty = h.duty;
      smoothed = h.smoothed;
      kept = h.kept;
      latest =
          let l = h.latest in
          split (eqb profile 4) (λ e. omega (tested, rw e at l)) (λ e. omega (tested, rw e at l));
    }

-- the limits of a sound duty
pub duty_limits : (k : Control) → sound_control k ≡ true
    → (profile3.leastduty ≤ k.tuning.duty) × (k.tuning.duty ≤ profile3.mostduty)
duty_limits k sound = duty_within k.tuning.duty (test_control k sound).tuning.duty

-- the list of a sound control of profile 5 is good
sound_good : (l : Levels) → sound_list l ≡ true → good_list l ≡ true
unfolding sound_list
sound_good l e =
    (both (good_list l)
    (packing.all_are packing.is_unused (drop l.len l.above) && packing.all_are packing.is_unused (drop l.len l.waits))
    e).0

pub list_good : (k : Control) → sound_control k ≡ true → eqb k.profile 5 ≡ true → bad_list k.levels ≡ false
unfolding listing_sound
list_good k sound e =
    let h = (test_control k sound).listing in
    ap not (sound_good k.levels (both (sound_list k.levels) (sound_loads k.loads) (rw e at h)).0)
