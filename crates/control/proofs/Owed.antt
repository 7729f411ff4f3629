-- What the profiles owe. Every wait lies within its profile's limits, a fact for each profile; with that the laws common to all
-- are comparisons of constants. So is the ceiling's law, but in profile 3, where the wait follows the on-time.
use Prim.Native.Nat.{ℕ, ◌*◌, ◌≤◌}
use mathlib.Core.Path.{◌≡◌, refl, ap}
use mathlib.Core.Bool.{true, false}
use native.Mathlib.Nat.{mul-le-mul_left}
use native.Mathlib.Omega.{arith}
use Rattle.rules.specs.declared.Limits.{Limits}
use Rattle.rules.specs.Profiles.{profile1, profile2, profile3, profile5, within, limits_of, most_ontime}
use Rattle.rules.specs.Wait.{start_of}
use Rattle.rules.proofs.Profiles.{allowed, on_limits, by_profile_lem}
use Rattle.rules.proofs.Cases.{clash}
use borrow.Author.Tests.{eq-eqb}
use Rattle.machine.proofs.Tidying.{wait_listed}
use Rattle.rules.proofs.Waits.{Within, within1, within2, within3, adaptive_spaced}
use Rattle.rules.proofs.Factors.{within4}
use Rattle.control.specs.Control.{Control, sound_control}
use Rattle.control.specs.Wait.{wait_of, wait_with}
use Rattle.control.specs.Owed.{spare, least_gap, second, quiet, Floors, claims_ceiling}
use Rattle.control.specs.Owed.{KeepsCeiling, Allowed, AllKeep, ClaimantsKeep}
use Rattle.control.proofs.Controls.{test_control, duty_limits, list_good}

pub floors : Floors
unfolding start_of most_ontime quiet
floors = (refl, refl, refl, refl, refl)

-- the one fact that a profile owes
pub within_limits : (k : Control) (ontime : ℕ) → sound_control k ≡ true → Within (limits_of k.profile) (wait_of k ontime)
unfolding wait_with
within_limits k ontime sound =
    by_profile_lem (λ n. k.profile ≡ n → Within (limits_of k.profile) (wait_of k ontime))
    (λ e. rw e (within1 k.tuning.level))
    (λ e. rw e (within2 k.tuning.level))
    (λ e. rw e (within3 ontime k.tuning.duty))
    (λ e. rw e (within4 ontime k.tuning.latest))
    (λ e. rw e (wait_listed k.levels k.tuning.level (list_good k sound (eq-eqb k.profile 5 e))))
    k.profile (test_control k sound).profile refl

pub all_keep : AllKeep
unfolding start_of most_ontime quiet
all_keep k ontime s =
    let l = limits_of k.profile in
    let w = within_limits k ontime s.0 in
    let least =
    on_limits (λ l. least_gap ≤ l.leastwait) k.profile (omega arith) (omega arith) (omega arith) (omega arith)
    (omega arith) in
    let long =
    on_limits (λ l. second ≤ l.mostwait) k.profile (omega arith) (omega arith) (omega arith) (omega arith)
    (omega arith) in
    record {
      longest = omega (arith, mul-le-mul_left l.fromend (allowed k.profile ontime s.1).1, w.1);
      apart = omega (arith, least, w.0);
      forgets = omega (arith, long);
    }

-- a wait that spaces the on-time keeps the ceiling
spaced_by : (k : Control) (ontime : ℕ) → Allowed k ontime → 100 * ontime ≤ 3 * wait_of k ontime → KeepsCeiling k ontime
unfolding most_ontime
spaced_by k ontime s h =
    let most =
    on_limits (λ l. 100 * l.ontime ≤ spare) k.profile (omega arith) (omega arith) (omega arith) (omega arith)
    (omega arith) in
    record { spaced = omega arith; alone = omega (arith, most, (allowed k.profile ontime s.1).1) }

-- and it does where the least wait of the profile spaces the profile's longest on-time
least_spaces : (k : Control) (ontime : ℕ) → Allowed k ontime → (l : Limits) → limits_of k.profile ≡ l
    → 100 * l.ontime ≤ 3 * l.leastwait → KeepsCeiling k ontime
unfolding most_ontime
least_spaces k ontime s l e h =
    spaced_by k ontime s
    (omega (
      arith,
      (within_limits k ontime s.0).0,
      (allowed k.profile ontime s.1).1,
      ap (λ (x : Limits). x.leastwait) e,
      ap (λ (x : Limits). x.ontime) e,
    ))

-- profile 3's wait follows the on-time
adaptive_spaces : (k : Control) (ontime : ℕ) → Allowed k ontime → k.profile ≡ 3 → KeepsCeiling k ontime
unfolding wait_with most_ontime
adaptive_spaces k ontime s e =
    let o = (allowed k.profile ontime s.1).1 in
    let d = duty_limits k s.0 in
    spaced_by k ontime s
    (rw e
    (adaptive_spaced profile3.limits ontime k.tuning.duty (omega arith) (omega (arith, d.0)) (omega (arith, d.1))
    (rw e at o)))

harmonised_claims_not : claims_ceiling 4 ≡ false
unfolding claims_ceiling within
harmonised_claims_not = refl

pub claimants_keep : ClaimantsKeep
claimants_keep k ontime s c =
    by_profile_lem (λ n. k.profile ≡ n → KeepsCeiling k ontime)
    (λ e. least_spaces k ontime s profile1.limits (ap limits_of e) (omega arith))
    (λ e. least_spaces k ontime s profile2.limits (ap limits_of e) (omega arith))
    (λ e. adaptive_spaces k ontime s e)
    (λ e. clash (cc (harmonised_claims_not, ap claims_ceiling e)))
    (λ e. least_spaces k ontime s profile5.limits (ap limits_of e) (omega arith))
    k.profile (test_control k s.0).profile refl
