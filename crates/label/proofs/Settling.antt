-- Samples one after the other, none above a load: what a profile keeps to sample by sample, from any sound control on. Levels
-- fall by one each or are at most the one wanted; the latest load is one of them; so are the last so many; and profile 3's
-- smoothed load and duty are no worse than those of the worst start under that very load, since an update is monotone.
use Prim.Native.Nat.{ℕ, zero, suc, ◌+◌, ◌-◌, ◌*◌, ◌≤◌, ◌<◌, max}
use mathlib.Core.Path.{◌≡◌, refl, ap, ap₂, ◌∙◌, subst}
use mathlib.Core.Bool.{true, false}
use mathlib.Core.List.{List, [], ◌∷◌, ◌++◌}
use native.Mathlib.Nat.{mul-le-mul_left}
use native.Mathlib.Omega.{arith}
use lib.Dec.{leb, ltb, eqb}
use lib.ListN.{length, get_or, length-append, length-drop, get_or-append}
use lib.Seq.{get_or-drop, get_or-append_seam}
use borrow.Author.Tests.{eqb-false}
use Rattle.rules.specs.declared.Reactive.{Reactive}
use Rattle.rules.specs.Profiles.{profile1, profile2, profile3, profile4, within, reactive_of, top_level, full_load}
use Rattle.rules.specs.Profiles.{is_profile, limits_of}
use Rattle.rules.specs.Levels.{wanted_by, towards, wait_by}
use Rattle.rules.specs.Wait.{start_of, adaptive_wait}
use Rattle.rules.specs.Harmonised.{harmonised_wait}
use Rattle.rules.proofs.Cases.{on_cond, split}
use Rattle.rules.proofs.Tests.{tested}
use Rattle.rules.proofs.Profiles.{by_profile_lem}
use Rattle.rules.proofs.Duty.{smoothed_le}
use Rattle.machine.specs.declared.Levels.{Levels}
use Rattle.machine.specs.Levels as listing
use Rattle.machine.specs.Loads.{most_loads, loads, noted}
use Rattle.machine.specs.Moves.{AmongLast, highest, high_of, level_after, moved_by}
use Rattle.machine.proofs.Noted.{loads-packed}
use Rattle.machine.proofs.Tidying.{good_is_tidied}
use Rattle.machine.proofs.Bounds.{highest_mono, always_moves}
use Rattle.machine.proofs.Extremes.{always_low_and_high}
use Rattle.control.specs.declared.Tuning.{Tuning}
use Rattle.control.specs.Control.{Control, sound_control, sampled, tuned, paired, top_of, list_kept}
use Rattle.control.specs.Wait.{wait_of, wait_with, closed_after}
use Rattle.control.proofs.Controls.{test_control, duty_limits, sampled_profile}
use Rattle.model.specs.Calls.{Making}
use Rattle.label.specs.Calm.{NoneAbove, worst_duty, updates_in, longest_to, calm_wait, calm_floor, settles_in}
use Rattle.label.proofs.Monotone.{Rising, wanted_mono, wait_mono, harmonised_mono, adaptive_mono, smoothed_mono}
use Rattle.label.proofs.Monotone.{load_at, duty_at, worst_is, load_at_most, duty_mono, duty_least, duty_at_least, duty_later}

-- a control after some loads
unfoldable pub sampled_all : Control → List ℕ → Control
sampled_all k [] = k
sampled_all k (x ∷ xs) = sampled_all (sampled k x) xs

pub sampled-append : (k : Control) (xs ys : List ℕ) → sampled_all (sampled_all k xs) ys ≡ sampled_all k (xs ++ ys)
unfolding sampled_all
sampled-append k [] ys = refl
sampled-append k (x ∷ xs) ys = sampled-append (sampled k x) xs ys

-- what a sample of such a load takes from n samples to n + 1, holds after any number of them
along : (load : ℕ) (P : ℕ → Control → Type 0)
    → ((n x : ℕ) (k : Control) → x ≤ load → P n k → P (suc n) (sampled k x))
    → (n : ℕ) (k : Control) (xs : List ℕ) → NoneAbove load xs → P n k → P (n + length xs) (sampled_all k xs)
unfolding sampled_all
along load P step n k [] h p = subst (λ (i : ℕ). P i k) (omega arith) p
along load P step n k (x ∷ xs) h p =
    subst (λ (i : ℕ). P i (sampled_all (sampled k x) xs)) (omega arith)
    (along load P step (suc n) (sampled k x) xs h.1 (step n x k h.0 p))

-- Profiles 1 and 2.

-- the level after n samples
abbrev Fallen : (t : Reactive) → (load n level : ℕ) → Type 0
Fallen t load n level = level ≤ max (wanted_by t load) (top_level - n)

falls : (t : Reactive) (load n x level : ℕ) → x ≤ load → Fallen t load n level
    → Fallen t load (suc n) (towards level (wanted_by t x))
unfolding towards
falls t load n x level h f =
    let w = wanted_mono t x load h in
    on_cond (Fallen t load (suc n)) (ltb level (wanted_by t x)) (λ e. omega tested)
    (λ e. on_cond (Fallen t load (suc n)) (ltb (wanted_by t x) level) (λ e. omega tested) (λ e. omega tested))

fallen_wait : (t : Reactive) (load n level : ℕ) → Rising t → 4 ≤ n → Fallen t load n level
    → wait_by t level ≤ wait_by t (wanted_by t load)
fallen_wait t load n level r h f = wait_mono t level (wanted_by t load) r (omega arith)

level_1 : (k : Control) (x : ℕ) → k.profile ≡ 1
    → (sampled k x).tuning.level ≡ towards k.tuning.level (wanted_by profile1 x)
unfolding sampled tuned reactive_of within
level_1 k x e = rw e

level_2 : (k : Control) (x : ℕ) → k.profile ≡ 2
    → (sampled k x).tuning.level ≡ towards k.tuning.level (wanted_by profile2 x)
unfolding sampled tuned reactive_of within
level_2 k x e = rw e

-- a sound level is at most 4 there
top_level_lem : (k : Control) (p : ℕ) → sound_control k ≡ true → k.profile ≡ p → eqb p 5 ≡ false → k.tuning.level ≤ top_level
unfolding top_of
top_level_lem k p s e f =
    let t = (test_control k s).tuning.level in
    let g : eqb k.profile 5 ≡ false = rw e f in
    rw g at t

-- Profile 4.

latest_4 : (k : Control) (x : ℕ) → k.profile ≡ 4 → (sampled k x).tuning.latest ≡ x
unfolding sampled tuned within
latest_4 k x e = rw e

-- Profile 5: the last n of its loads.

abbrev LastBelow : (load n : ℕ) → List ℕ → Type 0
LastBelow load n xs = (i : ℕ) → AmongLast n xs i → get_or xs i 0 ≤ load

noted-below : (load n x : ℕ) (xs : List ℕ) → x ≤ load → LastBelow load n xs → LastBelow load (suc n) (noted xs x)
noted-below load n x xs h f i a =
    let ys = xs ++ (x ∷ []) in
    let gone = length ys - most_loads in
    let many = length-append xs (x ∷ []) in
    let left = length-drop gone ys in
    rw (get_or-drop gone ys i 0)
    (split (ltb (gone + i) (length xs))
    (λ u. rw (get_or-append xs (x ∷ []) 0 (gone + i) (omega tested)) (f (gone + i) (omega tested, omega tested)))
    (λ u. let e : gone + i ≡ length xs = omega tested in rw (e, get_or-append_seam xs x [] 0) h))

loads_5 : (k : Control) (x : ℕ) → k.profile ≡ 5 → loads (sampled k x).loads ≡ noted (loads k.loads) x
unfolding sampled moved_by
loads_5 k x e = rw e (loads-packed (noted (loads k.loads) x))

level_5 : (k : Control) (x : ℕ) → k.profile ≡ 5
    → (sampled k x).tuning.level
    ≡ level_after (listing.thresholds k.levels) (noted (loads k.loads) x) k.tuning.level
unfolding sampled tuned within moved_by
level_5 k x e = rw e

-- the level is at most the one that the load reaches
down_below : (load level : ℕ) (ts xs : List ℕ) → LastBelow load most_loads xs → level_after ts xs level ≤ highest ts load
down_below load level ts xs f =
    omega (
      arith,
      (always_moves ts xs level).to_down,
      highest_mono ts (high_of xs) load ((always_low_and_high xs).high_least load f),
    )

longest_of : (l : Levels) (level n : ℕ) → level ≤ n → listing.wait_of l level ≤ longest_to l n
unfolding longest_to
longest_of l level zero h = let e : level ≡ 0 = omega arith in rw e (omega arith)
longest_of l level (suc n) h =
    split (leb level n) (λ e. omega (arith, longest_of l level n (omega tested)))
    (λ e. let f : level ≡ suc n = omega tested in rw f (omega arith))

record Listed (load n : ℕ) (l : Levels) (k : Control) : Type 0 where
  pub same : k.profile ≡ 5
  pub list : k.levels ≡ l
  pub below : LastBelow load n (loads k.loads)
  pub level : most_loads ≤ n → k.tuning.level ≤ highest (listing.thresholds l) load

sampled_levels : (k : Control) (x : ℕ) → (sampled k x).levels ≡ k.levels
unfolding sampled
sampled_levels k x = refl

listed_on : (load : ℕ) (l : Levels) (n x : ℕ) (k : Control) → x ≤ load → Listed load n l k → Listed load (suc n) l (sampled k x)
listed_on load l n x k h q =
    let next = noted-below load n x (loads k.loads) h q.below in
    record {
      same = sampled_profile k x ∙ q.same;
      list = sampled_levels k x ∙ q.list;
      below = rw (loads_5 k x q.same) next;
      level = λ m. rw (level_5 k x q.same, q.list)
          (down_below load k.tuning.level (listing.thresholds l) (noted (loads k.loads) x)
          (λ i a. next i (a.0, omega (arith, a.1))));
    }

-- Profile 3: so many updates with none but such loads were made after n samples.

record Adapted (load n : ℕ) (t : Tuning) : Type 0 where
  pub updates : ℕ
  pub many : n ≤ 2 * updates + t.pairing + 1
  pub flag : t.pairing ≤ 1
  pub kept : t.kept ≤ full_load
  pub kept_below : 0 < n → t.kept ≤ load
  pub smoothed : t.smoothed ≤ load_at load updates
  pub duty : duty_at load updates ≤ t.duty

tuning_3 : (k : Control) (x : ℕ) → k.profile ≡ 3 → (sampled k x).tuning ≡ paired k.tuning x
unfolding sampled tuned within
tuning_3 k x e = rw e

-- the first sample may be paired with one of the jam: that update is not counted
adapted_on : (load n x : ℕ) (t : Tuning) → load ≤ full_load → x ≤ load → Adapted load n t → Adapted load (suc n) (paired t x)
unfolding load_at duty_at
adapted_on load n x t a h q =
    on_cond (Adapted load (suc n)) (eqb t.pairing 1)
    (λ e. split (ltb 0 n)
    (λ u.
    let s =
    smoothed_mono t.smoothed (load_at load q.updates) t.kept x load q.smoothed (q.kept_below (omega tested)) h in
    record {
      updates = suc q.updates;
      many = omega (tested, q.many);
      flag = omega arith;
      kept = omega arith;
      kept_below = λ m. omega arith;
      smoothed = s;
      duty = duty_mono _ _ _ _ (duty_at_least load q.updates) q.duty s;
    })
    (λ u. record {
      updates = 0;
      many = omega tested;
      flag = omega arith;
      kept = omega arith;
      kept_below = λ m. omega arith;
      smoothed =
          smoothed_le t.smoothed t.kept x (omega (arith, q.smoothed, load_at_most load q.updates a)) q.kept
          (omega arith);
      duty = duty_least _ _;
    }))
    (λ e. record {
      updates = q.updates;
      many = omega (arith, q.many, q.flag, eqb-false t.pairing 1 e);
      flag = omega arith;
      kept = omega arith;
      kept_below = λ m. h;
      smoothed = q.smoothed;
      duty = q.duty;
    })

module _ (load : ℕ) (k : Control) (xs : List ℕ) (s : sound_control k ≡ true) (h : NoneAbove load xs) where
  abbrev after : Control
  after = sampled_all k xs

  -- a profile whose level steps towards the one wanted by its constants
  fallen : (p : ℕ) (t : Reactive) → eqb p 5 ≡ false
      → ((c : Control) (x : ℕ) → c.profile ≡ p → (sampled c x).tuning.level ≡ towards c.tuning.level (wanted_by t x))
      → Rising t → k.profile ≡ p → 4 ≤ length xs
      → (after.profile ≡ p) × (wait_by t after.tuning.level ≤ wait_by t (wanted_by t load))
  fallen p t five stepped r e n =
      let l =
      along load (λ i c. (c.profile ≡ p) × Fallen t load i c.tuning.level)
      (λ i x c g q. (sampled_profile c x ∙ q.0, rw (stepped c x q.0) (falls t load i x c.tuning.level g q.1)))
      0 k xs h (e, omega (arith, top_level_lem k p s e five)) in
      (l.0, fallen_wait t load (0 + length xs) _ r (omega arith) l.1)

  waits_1 : (o : ℕ) → k.profile ≡ 1 → 4 ≤ length xs → wait_of after o ≤ wait_by profile1 (wanted_by profile1 load)
  unfolding wait_with
  waits_1 o e n = let l = fallen 1 profile1 refl level_1 (omega arith) e n in rw l.0 l.1

  waits_2 : (o : ℕ) → k.profile ≡ 2 → 4 ≤ length xs → wait_of after o ≤ wait_by profile2 (wanted_by profile2 load)
  unfolding wait_with
  waits_2 o e n = let l = fallen 2 profile2 refl level_2 (omega arith) e n in rw l.0 l.1

  waits_4 : (o ontime : ℕ) → k.profile ≡ 4 → o ≤ ontime → 1 ≤ length xs
      → wait_of after o ≤ harmonised_wait profile4 ontime load
  unfolding wait_with
  waits_4 o ontime e g n =
      let l =
      along load (λ i c. (c.profile ≡ 4) × (0 < i → c.tuning.latest ≤ load))
      (λ i x c g q. (sampled_profile c x ∙ q.0, λ m. rw (latest_4 c x q.0) g))
      0 k xs h (e, λ m. absurd (omega arith)) in
      rw l.0 (harmonised_mono o ontime _ load g (l.1 (omega arith)))

  waits_5 : (o : ℕ) (list : Levels) → k.profile ≡ 5 → k.levels ≡ list → 50 ≤ length xs
      → wait_of after o ≤ longest_to list (highest (listing.thresholds list) load)
  unfolding wait_with
  waits_5 o list e f n =
      let l =
      along load (λ i c. Listed load i list c) (listed_on load list) 0 k xs h
      (record { same = e; list = f; below = λ i a. absurd (omega arith); level = λ m. absurd (omega arith) }) in
      rw (l.same, l.list) (longest_of list _ _ (l.level (omega arith)))

  waits_3 : (o ontime samples : ℕ) → load ≤ full_load → k.profile ≡ 3 → o ≤ ontime → samples ≤ length xs
      → wait_of after o ≤ adaptive_wait profile3.limits ontime (worst_duty load (updates_in samples))
  unfolding wait_with load_at duty_at
  waits_3 o ontime samples a e g n =
      let t = (test_control k s).tuning in
      let l =
      along load (λ i c. (c.profile ≡ 3) × Adapted load i c.tuning)
      (λ i x c g q. (sampled_profile c x ∙ q.0, rw (tuning_3 c x q.0) (adapted_on load i x c.tuning a g q.1)))
      0 k xs h (
        e,
        record {
          updates = 0;
          many = omega arith;
          flag = t.flag;
          kept = t.kept;
          kept_below = λ m. absurd (omega arith);
          smoothed = t.smoothed;
          duty = (duty_limits k s).0;
        },
      ) in
      let u = l.1.updates in
      let later = duty_later load (updates_in samples) u a (omega (arith, l.1.many, l.1.flag)) in
      rw (l.0, worst_is load (updates_in samples))
      (adaptive_mono profile3.limits o ontime _ (duty_at load (updates_in samples))
      (omega (arith, duty_at_least load (updates_in samples))) (omega (arith, later, l.1.duty)) g)

-- Any profile.

-- a list that is kept tidily waits as the one it was made with
longest_same : (l t : Levels) (n : ℕ) → ((i : ℕ) → listing.wait_of t i ≡ listing.wait_of l i) → longest_to t n ≡ longest_to l n
unfolding longest_to
longest_same l t zero f = f 0
longest_same l t (suc n) f = ap₂ max (f (suc n)) (longest_same l t n f)

longest_tidied : (l : Levels) (load : ℕ) → listing.bad_list l ≡ false
    → longest_to (listing.tidied l) (highest (listing.thresholds (listing.tidied l)) load)
    ≡ longest_to l (highest (listing.thresholds l) load)
longest_tidied l load g =
    let t = good_is_tidied l g in
    rw t.same_thresholds (longest_same l (listing.tidied l) _ t.same_waits)

sampled-all_profile : (k : Control) (xs : List ℕ) → (sampled_all k xs).profile ≡ k.profile
unfolding sampled_all
sampled-all_profile k [] = refl
sampled-all_profile k (x ∷ xs) = sampled-all_profile (sampled k x) xs ∙ sampled_profile k x

pub sampled-all_levels : (k : Control) (xs : List ℕ) → (sampled_all k xs).levels ≡ k.levels
unfolding sampled_all
sampled-all_levels k [] = refl
sampled-all_levels k (x ∷ xs) = sampled-all_levels (sampled k x) xs ∙ sampled_levels k x

start_mono : (profile o p : ℕ) → o ≤ p → start_of profile o ≤ start_of profile p
unfolding start_of
start_mono profile o p h = mul-le-mul_left (limits_of profile).fromend h

module _ (m : Making) (load samples ontime : ℕ) (a : load ≤ full_load) (f : settles_in m.profile ≤ samples)
    (k : Control) (s : sound_control k ≡ true) (same : k.profile ≡ m.profile)
    (list : k.levels ≡ list_kept m.profile m.list) (good : m.profile ≡ 5 → listing.bad_list m.list ≡ false)
    (xs : List ℕ) (h : NoneAbove load xs) (n : samples ≤ length xs) (o : ℕ) (g : o ≤ ontime) where
  waits : wait_of (sampled_all k xs) o ≤ calm_wait m load samples ontime
  unfolding calm_wait settles_in list_kept
  waits =
      by_profile_lem (λ p. m.profile ≡ p → wait_of (sampled_all k xs) o ≤ calm_wait m load samples ontime)
      (λ e. rw e (waits_1 load k xs s h o (same ∙ e) (omega (arith, n, rw e at f))))
      (λ e. rw e (waits_2 load k xs s h o (same ∙ e) (omega (arith, n, rw e at f))))
      (λ e. rw e (waits_3 load k xs s h o ontime samples a (same ∙ e) g n))
      (λ e. rw e (waits_4 load k xs s h o ontime (same ∙ e) g (omega (arith, n, rw e at f))))
      (λ e. rw (e, ← longest_tidied m.list load (good e))
      (waits_5 load k xs s h o (listing.tidied m.list) (same ∙ e) (rw e at list) (omega (arith, n, rw e at f))))
      m.profile (subst (λ (p : ℕ). is_profile p ≡ true) same (test_control k s).profile) refl

  pub closes : closed_after (sampled_all k xs) o ≤ calm_floor m load samples ontime
  unfolding calm_floor
  closes =
      omega (
        arith,
        ap (λ (p : ℕ). start_of p o) (sampled-all_profile k xs ∙ same),
        start_mono m.profile o ontime g,
        waits,
      )
