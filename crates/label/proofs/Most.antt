-- n admissions in a row, and the one after them, take n strides, each the shortest wait and, where it starts at the end, the
-- packet. So either n is at most the strides that fit, and the air n longest packets; or the waits leave no more for packets.
use Prim.Native.Nat.{ℕ, zero, suc, ◌+◌, ◌-◌, ◌*◌, ◌/◌, ◌%◌, ◌≤◌, ◌<◌, min}
use mathlib.Core.Path.{◌≡◌, refl, ap, sym, subst}
use mathlib.Core.Bool.{true, cond, ◌&&◌}
use mathlib.Core.List.{List, [], ◌∷◌, ◌++◌, map}
use native.Mathlib.Nat.{suc-mul, mul-add, one-mul, mul-le-mul_right, mul-le-mul_left, mod-lt, div-add-mod'}
use native.Mathlib.Omega.{arith}
use lib.Dec.{leb, ltb}
use Rattle.rules.specs.declared.Limits.{Limits}
use Rattle.rules.specs.Profiles.{within, limits_of}
use Rattle.rules.specs.Wait.{ceil_div}
use Rattle.rules.proofs.Cases.{split, on_test, clash}
use Rattle.rules.proofs.Ceiling.{ceil_reaches}
use Rattle.rules.proofs.Profiles.{fromend_le}
use Rattle.rules.proofs.Tests.{tested}
use Rattle.control.specs.Owed.{second, least_gap, claims_ceiling}
use Rattle.model.specs.declared.Admission.{Admission}
use Rattle.model.specs.Journal.{air_in}
use Rattle.model.specs.Claims.{All}
use Rattle.model.proofs.DeliveryLines.{all_more}
use Rattle.label.specs.Trailer.{Run, by_model, journal}
use Rattle.label.specs.Site.{sum}
use Rattle.label.specs.Restarts.{Started, later, sent_in_all, silence, Silent}
use Rattle.label.specs.OnAir.{on_air}
use Rattle.label.specs.Most.{stride, by_waits, by_second, by_ceiling, by_claims, most, Alike}
use Rattle.label.specs.Most.{MostHolds, TogetherOnAir, MostByProfile}
use Rattle.label.proofs.Second.{seconds}
use Rattle.label.proofs.Windows.{inside, is_inside, wider, one_more}
use Rattle.label.proofs.Rows.{Chain, so_far, row}
use Rattle.label.proofs.Restarts.{restarts_keep}
use Rattle.label.proofs.OnAir.{receiver_hears}
use Rattle.label.proofs.Pace.{fit, Waits, Allows, Paced, paced}

-- n waits and s µs of air in x µs, which are q strides and r µs more; d is the longest packet, f says where the wait starts
fits : (f d wait n s x q r : ℕ) → f ≤ 1 → q * (f * d + wait) + r ≡ x → r < f * d + wait → s ≤ n * d → n * wait + f * s ≤ x
    → s ≤ q * d + (r - wait)
fits f d wait n s x q r = by f
  where
    enough : n ≤ q → s ≤ n * d → s ≤ q * d + (r - wait)
    enough m a = omega (arith, mul-le-mul_right d m)

    many : suc q ≤ n → q * wait + wait ≤ n * wait
    many m = omega (arith, mul-le-mul_right wait m, suc-mul q wait)

    by : (f : ℕ) → f ≤ 1 → q * (f * d + wait) + r ≡ x → r < f * d + wait → s ≤ n * d → n * wait + f * s ≤ x
        → s ≤ q * d + (r - wait)
    by zero k e l a h =
        split (leb n q) (λ u. enough (omega tested) a)
        (λ u. absurd (omega (tested, many (omega tested), mul-add q (0 * d) wait)))
    by (suc zero) k e l a h =
        split (leb n q) (λ u. enough (omega tested) a)
        (λ u. omega (tested, many (omega tested), mul-add q (1 * d) wait, ap (λ (y : ℕ). q * y) (one-mul d)))
    by (suc (suc f)) k e l a h = absurd (omega arith)

-- in a stretch
module _ (profile from until : ℕ) where
  abbrev k : Limits
  k = limits_of profile

  -- before the stretch
  early : (next : ℕ) (l : List Admission) → Chain (Waits profile) (Allows profile) next l → next ≤ from → air_in from until l ≡ 0
  unfolding air_in
  early next [] c h = refl
  early next (a ∷ l) c h =
      on_test (λ x. cond x a.ontime 0 + air_in from until l ≡ 0) (leb from a.at && ltb a.at until)
      (λ e. absurd (omega (arith, (is_inside from until a.at e).0, c.0, (fit profile).some)))
      (λ e. omega (arith, early a.at l c.2 (omega (arith, c.0))))

  -- so many waits are over by the time of the next, and so much air is in them
  abbrev Over : (next air : ℕ) → Type 0
  Over next air = (n : ℕ) × (air ≤ n * k.ontime) × (from + (n * k.leastwait + k.fromend * air) ≤ next)

  over : (next : ℕ) (l : List Admission) → Chain (Waits profile) (Allows profile) next l → from ≤ next
      → Over next (air_in from until l)
  unfolding air_in
  over next [] c h = (0, omega arith, omega arith)
  over next (a ∷ l) c h =
      on_test (λ x. Over next (cond x a.ontime 0 + air_in from until l)) (leb from a.at && ltb a.at until)
      (λ e.
      let more = over a.at l c.2 (is_inside from until a.at e).0 in (
        suc more.0,
        omega (arith, more.1, c.1, suc-mul more.0 k.ontime),
        omega (
          arith,
          more.2,
          c.0,
          suc-mul more.0 k.leastwait,
          mul-add k.fromend a.ontime (air_in from until l),
        ),
      ))
      (λ e. split (leb from a.at)
      (λ f.
      let more = over a.at l c.2 (omega tested) in
      (more.0, omega (arith, more.1), omega (arith, more.2, c.0)))
      (λ f. rw (early a.at l c.2 (omega tested)) (0, omega arith, omega arith)))

-- by the waits
module _ (profile from w : ℕ) where
  abbrev its : Limits
  its = limits_of profile

  within-waits : (l : List Admission) → Paced profile l → air_in from (from + w) l ≤ by_waits (limits_of profile) w
  unfolding air_in
  within-waits [] s = omega arith
  within-waits (a ∷ l) s =
      on_test (λ x. cond x a.ontime 0 + air_in from (from + w) l ≤ by_waits (limits_of profile) w)
      (leb from a.at && ltb a.at (from + w))
      (λ e.
      let i = is_inside from (from + w) a.at e in
      let o = over profile from (from + w) a.at l s.1 i.0 in
      let some =
      fits its.fromend its.ontime its.leastwait o.0 (air_in from (from + w) l) (w - 1) ((w - 1) / stride its)
      ((w - 1) % stride its) (fromend_le profile) (div-add-mod' (w - 1) (stride its)) (mod-lt (w - 1) long) o.1
      (omega (arith, o.2, i.1)) in
      omega (arith, some, s.0, suc-mul ((w - 1) / stride its) its.ontime))
      (λ e. split (leb (from + w) a.at)
      (λ f. omega (arith, within-waits l (so_far (Waits profile) (Allows profile) a.at l s.1)))
      (λ f. split (leb from a.at) (λ g. clash (cc (inside from (from + w) a.at (omega tested) (omega tested))))
      (λ g. omega (arith, early profile from (from + w) a.at l s.1 (omega tested)))))
    where
      long : 0 < stride its
      long = omega (arith, (fit profile).some)

-- runs of one profile
paced_all : (profile : ℕ) (ss : List Started) → All (λ (s : Started). s.run.making.profile ≡ profile) ss
    → All (λ (s : Started). Paced profile (journal s.run).admissions) ss
paced_all profile ss =
    all_more _ _ ss (λ s e. subst (λ (p : ℕ). Paced p (journal s.run).admissions) e (paced s.run))

paid : (profile : ℕ) (a : Admission) (next : ℕ) → Allows profile a → a.at + silence ≤ next → Waits profile a next
paid profile a next h s =
    omega (arith, (fit profile).soon, mul-le-mul_left (limits_of profile).fromend h)

module _ (profile : ℕ) (rs : Alike by_model profile) where
  abbrev sent : List Admission
  sent = sent_in_all by_model rs.runs

  by_waits_lem : (from w : ℕ) → air_in from (from + w) sent ≤ by_waits (limits_of profile) w
  by_waits_lem from w =
      within-waits profile from w sent
      (row (Waits profile) (Allows profile) (λ made a next h. omega arith) (λ made a h. h) (paid profile) rs.runs
      rs.restarts (paced_all profile rs.runs rs.same))

  by_second_lem : (from w : ℕ) → air_in from (from + w) sent ≤ by_second w
  by_second_lem from w =
      omega (
        arith,
        seconds sent (restarts_keep rs.runs rs.restarts).in_any_second (ceil_div w second) from,
        wider from (from + w) from (from + ceil_div w second * second) sent (omega arith)
            (omega (arith, ceil_reaches w second (omega arith))),
      )

  by_ceiling_lem : claims_ceiling profile ≡ true → (from w : ℕ) → air_in from (from + w) sent ≤ by_ceiling w
  by_ceiling_lem c from w =
      let all : All (λ (s : Started). claims_ceiling s.run.making.profile ≡ true) rs.runs =
      all_more _ _ rs.runs (λ s e. subst (λ (p : ℕ). claims_ceiling p ≡ true) (sym e) c) rs.same in
      omega (
        arith,
        (restarts_keep rs.runs rs.restarts).ceiling all from (w - 1),
        one_more from (w - 1) sent,
        wider from (from + w) from (suc (from + (w - 1))) sent (omega arith) (omega arith),
      )

  admitted : (w from : ℕ) → air_in from (from + w) sent ≤ most profile w
  unfolding most
  admitted w from =
      on_test (λ x. claims_ceiling profile ≡ x
      → air_in from (from + w) sent ≤ min (by_waits (limits_of profile) w) (by_claims x w))
      (claims_ceiling profile)
      (λ e f. omega (arith, by_waits_lem from w, by_second_lem from w, by_ceiling_lem e from w))
      (λ e f. omega (arith, by_waits_lem from w, by_second_lem from w)) refl

-- one run is a row of one
from_start : (l : List Admission) → map (later 0) l ++ [] ≡ l
from_start [] = refl
from_start (a ∷ l) = λ i. record { at = same i; ontime = a.ontime } ∷ from_start l i
  where
    same : 0 + a.at ≡ a.at
    same = omega arith

module _ (profile : ℕ) (r : Run) (e : r.making.profile ≡ profile) where
  by_itself : Alike by_model profile
  unfolding sent_in_all
  by_itself =
      record {
        runs = record { run = r; made = 0 } ∷ [];
        restarts = (none_before (map (later 0) (journal r).admissions), tt);
        same = (e, tt);
      }
    where
      none_before : (l : List Admission) → Silent l []
      none_before [] = tt
      none_before (a ∷ l) = (tt, none_before l)

  its_own : sent_in_all by_model by_itself.runs ≡ (journal r).admissions
  unfolding by_itself sent_in_all
  its_own = from_start (journal r).admissions

pub most_holds : MostHolds by_model
most_holds profile w =
    record {
      admitted =
          λ r e from.
          subst (λ (l : List Admission). air_in from (from + w) l ≤ most profile w) (its_own profile r e)
          (admitted profile (by_itself profile r e) w from);
      heard_on_air =
          λ g r e from.
          subst (λ (l : List Admission). on_air from (from + w) l ≤ most profile w) (its_own profile r e)
          (heard-of g (by_itself profile r e) from);
      admitted_in_all = λ rs. admitted profile rs w;
      on_air_in_all = heard-of;
    }
  where
    heard-of : least_gap ≤ w → (rs : Alike by_model profile) (from : ℕ)
        → on_air from (from + w) (sent_in_all by_model rs.runs) ≤ most profile w
    heard-of g rs = (receiver_hears rs.runs rs.restarts).as_admitted w (most profile w) g (admitted profile rs w)

pub together_on_air : TogetherOnAir by_model
unfolding sum
together_on_air w g [] = omega arith
together_on_air w g (t ∷ ts) =
    omega (
      arith,
      together_on_air w g ts,
      (most_holds t.0.making.profile w).heard_on_air g t.0 refl t.1,
    )

pub most_by_profile : MostByProfile
unfolding most claims_ceiling within
most_by_profile = (refl, refl, refl, refl, refl)
