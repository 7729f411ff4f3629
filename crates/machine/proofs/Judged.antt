-- Each rule of a list by itself: one that fails makes the list bad, and a good list keeps all. So, level by level, a list is
-- good exactly if it is what the paper asks: a test of all of a list is the test of each place, and strictly rising is each
-- above the one before it.
use Prim.Native.Nat.{ℕ, zero, suc, ◌≤◌, ◌<◌, min}
use mathlib.Core.Path.{◌≡◌, refl, ap, ◌∙◌}
use mathlib.Core.Bool.{Bool, true, false, not, and-true, and-false}
use mathlib.Core.List.{List, [], ◌∷◌}
use native.Mathlib.Omega.{arith}
use lib.Dec.{leb, ltb}
use lib.ListN.{length, take, get_or}
use borrow.Author.Tests.{le-leb, lt-leb, leb-true, lt-ltb, ltb-true, not-false}
use Rattle.rules.specs.Profiles.{within, full_load}
use Rattle.rules.proofs.Cases.{both, within-true, true-within}
use Rattle.rules.proofs.Tests.{all_true}
use Rattle.packing.specs.Packing.{all_are}
use Rattle.machine.specs.declared.Levels.{Levels}
use Rattle.machine.specs.Levels.{most_levels, least_listed, most_listed, wait_allowed, threshold_allowed, listed, thresholds}
use Rattle.machine.specs.Levels.{waits, threshold_at, wait_at, rising, list_rules, good_list, Good, ListsJudged}
use Rattle.machine.proofs.Parts.{length-listed}

-- of a list of up to 8 levels all are read
pub few_listed : (n : ℕ) (xs : List ℕ) → n ≤ 8 → listed n xs ≡ take n xs
few_listed n xs h = let e : min n most_levels ≡ n = omega arith in ap (λ (k : ℕ). take k xs) e

-- no level, and a ninth
pub too_few : (n : ℕ) → n < 1 → within 1 most_levels n ≡ false
unfolding within
too_few n h = rw (lt-leb 1 n h)

pub too_many : (n : ℕ) → 8 < n → within 1 most_levels n ≡ false
unfolding within
too_many n h = rw (lt-leb n 8 h, and-false)

-- what each rule says
pub record Rules (l : Levels) : Type 0 where
  pub size : within 1 most_levels l.len ≡ true
  pub above_there : leb l.len (length l.above) ≡ true
  pub waits_there : leb l.len (length l.waits) ≡ true
  pub own : wait_allowed l.wait ≡ true
  pub rise : rising 0 (thresholds l) ≡ true
  pub most : all_are threshold_allowed (thresholds l) ≡ true

module _ (l : Levels) where
  pub not_size : within 1 most_levels l.len ≡ false → good_list l ≡ false
  unfolding good_list
  not_size e = rw e

  pub not_above : leb l.len (length l.above) ≡ false → good_list l ≡ false
  unfolding good_list
  not_above e = simp (e, and-false)

  pub not-waits : leb l.len (length l.waits) ≡ false → good_list l ≡ false
  unfolding good_list
  not-waits e = simp (e, and-false)

  pub not_own : wait_allowed l.wait ≡ false → good_list l ≡ false
  unfolding good_list
  not_own e = simp (e, and-false)

  pub not_rise : rising 0 (thresholds l) ≡ false → good_list l ≡ false
  unfolding good_list
  not_rise e = simp (e, and-false)

  pub not-most : all_are threshold_allowed (thresholds l) ≡ false → good_list l ≡ false
  unfolding good_list
  not-most e = simp (e, and-false)

  -- past the others the last decides
  pub by_waits_lem : Rules l → good_list l ≡ all_are wait_allowed (waits l)
  unfolding good_list
  by_waits_lem r = rw (r.size, r.above_there, r.waits_there, r.own, r.rise, r.most, and-true)

  pub rules_of : good_list l ≡ true → Rules l × (all_are wait_allowed (waits l) ≡ true)
  unfolding good_list
  rules_of e =
      let h = all_true (list_rules l) e in (
        record {
          size = h.0;
          above_there = h.1.0;
          waits_there = h.1.1.0;
          own = h.1.1.1.0;
          rise = h.1.1.1.1.0;
          most = h.1.1.1.1.1.0;
        },
        h.1.1.1.1.1.1.0,
      )

  -- a good list's numbers are there
  pub there : good_list l ≡ true → (l.len ≤ 8) × (l.len ≤ length l.above) × (l.len ≤ length l.waits)
  there e =
      let r = (rules_of e).0 in (
        (within-true 1 most_levels l.len r.size).1,
        leb-true l.len (length l.above) r.above_there,
        leb-true l.len (length l.waits) r.waits_there,
      )

-- all of a list, place by place
module _ (test : ℕ → Bool) where
  pub all_at_lem : (d : ℕ) (xs : List ℕ) → all_are test xs ≡ true → (n : ℕ) → n < length xs → test (get_or xs n d) ≡ true
  unfolding all_are
  all_at_lem d [] e n h = absurd (omega arith)
  all_at_lem d (x ∷ xs) e zero h = (both (test x) (all_are test xs) e).0
  all_at_lem d (x ∷ xs) e (suc n) h = all_at_lem d xs (both (test x) (all_are test xs) e).1 n (omega arith)

  at_all : (d : ℕ) (xs : List ℕ) → ((n : ℕ) → n < length xs → test (get_or xs n d) ≡ true) → all_are test xs ≡ true
  unfolding all_are
  at_all d [] f = refl
  at_all d (x ∷ xs) f =
      let e : test x ≡ true = f 0 (omega arith) in
      rw e (at_all d xs (λ n h. f (suc n) (omega arith)))

-- strictly rising, place by place
rise_at : (b : ℕ) (ts : List ℕ) → rising b ts ≡ true → (n : ℕ) → n < length ts → get_or (b ∷ ts) n 0 < get_or ts n 0
unfolding rising
rise_at b [] e n h = absurd (omega arith)
rise_at b (t ∷ ts) e zero h = ltb-true b t (both (ltb b t) (rising t ts) e).0
rise_at b (t ∷ ts) e (suc n) h = rise_at t ts (both (ltb b t) (rising t ts) e).1 n (omega arith)

at_rise : (b : ℕ) (ts : List ℕ) → ((n : ℕ) → n < length ts → get_or (b ∷ ts) n 0 < get_or ts n 0) → rising b ts ≡ true
unfolding rising
at_rise b [] f = refl
at_rise b (t ∷ ts) f =
    let h : b < t = f 0 (omega arith) in
    rw (lt-ltb b t h) (at_rise t ts (λ n h. f (suc n) (omega arith)))

threshold_is : (ts : List ℕ) (n : ℕ) → threshold_at ts n ≡ get_or (0 ∷ ts) n 0
unfolding threshold_at
threshold_is ts zero = refl
threshold_is ts (suc n) = refl

-- as many thresholds and waits as levels
as_many : (n : ℕ) (xs : List ℕ) → n ≤ 8 → n ≤ length xs → length (listed n xs) ≡ n
as_many n xs h k = omega (arith, length-listed n xs)

most_at : (ts : List ℕ) → all_are threshold_allowed ts ≡ true → (n : ℕ) → n ≤ length ts → threshold_at ts n ≤ 1000000
unfolding threshold_at
most_at ts e zero h = omega arith
most_at ts e (suc n) h = (within-true 0 full_load (get_or ts n 0) (all_at_lem threshold_allowed 0 ts e n (omega arith))).1

-- a wait of a list whose waits are allowed, whatever the level: past the list it is the longest
pub wait_within : (own : ℕ) (ws : List ℕ) → wait_allowed own ≡ true → all_are wait_allowed ws ≡ true → (n : ℕ)
    → (least_listed ≤ wait_at own ws n) × (wait_at own ws n ≤ most_listed)
unfolding wait_at all_are
wait_within own ws o a zero = within-true least_listed most_listed own o
wait_within own [] o a (suc n) = (omega arith, omega arith)
wait_within own (w ∷ ws) o a (suc zero) = within-true least_listed most_listed w
    (both (wait_allowed w) (all_are wait_allowed ws) a).0
wait_within own (w ∷ ws) o a (suc (suc n)) = wait_within own ws o (both (wait_allowed w) (all_are wait_allowed ws) a).1 (suc n)

judged_good : (l : Levels) → good_list l ≡ true → Good l
judged_good l e =
    let r = rules_of l e in
    let t = there l e in
    let m = as_many l.len l.above t.0 t.1 in
    record {
      some = (within-true 1 most_levels l.len r.0.size).0;
      few = t.0;
      above_there = t.1;
      waits_there = t.2;
      rise = λ n h.
          rw (threshold_is (thresholds l) n, threshold_is (thresholds l) (suc n))
          (rise_at 0 (thresholds l) r.0.rise n (omega arith));
      most = λ n h. most_at (thresholds l) r.0.most n (omega arith);
      least_wait = λ n h. (wait_within l.wait (waits l) r.0.own r.1 n).0;
      most_wait = λ n h. (wait_within l.wait (waits l) r.0.own r.1 n).1;
    }

good_judged : (l : Levels) → Good l → good_list l ≡ true
unfolding wait_at
good_judged l g =
    let some = g.some in
    let few = g.few in
    let ts = thresholds l in
    let m = as_many l.len l.above few g.above_there in
    let w = as_many l.len l.waits few g.waits_there in
    by_waits_lem l
    (record {
      size = true-within 1 most_levels l.len some few;
      above_there = le-leb l.len (length l.above) g.above_there;
      waits_there = le-leb l.len (length l.waits) g.waits_there;
      own = true-within least_listed most_listed l.wait (g.least_wait 0 (omega arith)) (g.most_wait 0 (omega arith));
      rise = at_rise 0 ts
          (λ n h. rw (threshold_is ts n, threshold_is ts (suc n)) at (g.rise n (omega arith)));
      most = at_all threshold_allowed 0 ts
          (λ n h.
          true-within 0 full_load (get_or ts n 0) (omega arith)
          (rw (threshold_is ts (suc n)) at (g.most (suc n) (omega arith))));
    })
    ∙ at_all wait_allowed most_listed (waits l)
    (λ n h. true-within least_listed most_listed (get_or (waits l) n most_listed) (g.least_wait (suc n) (omega arith))
    (g.most_wait (suc n) (omega arith)))

pub lists_judged : ListsJudged
lists_judged =
    record {
      good = λ l e. judged_good l (not-false (good_list l) e);
      only = λ l g. ap not (good_judged l g);
    }
