-- What the loops over a ledger's words know at each turn: how the tests and the sum, and the time from which the air allows a
-- packet, stand at the words that are left.
use Prim.Native.Nat.{ℕ, ◌+◌, ◌-◌, ◌*◌, ◌≤◌, ◌<◌}
use mathlib.Core.Path.{◌≡◌, refl, ap, sym, ◌∙◌}
use mathlib.Core.Bool.{Bool, true, false, ◌&&◌, and-true, and-false}
use mathlib.Core.List.{List, ◌∷◌}
use native.Mathlib.Omega.{arith}
use lib.Bits.{bit_or}
use lib.Dec.{leb, eqb}
use lib.ListN.{length, drop, get_or}
use borrow.Author.Tests.{le-leb, lt-leb}
use Rattle.std.proofs.lemmas.List.{drop_more, drop_all}
use Rattle.rules.specs.Clock.{end_of_time}
use Rattle.rules.specs.Profiles.{within}
use Rattle.packing.proofs.Zeros.{or-none}
use Rattle.model.specs.declared.Admission.{Admission}
use Rattle.model.specs.Ledger.{full_age, most_air, spacing, air_of, allowed_from}
use Rattle.ledger.specs.Layout.{age_in, ontime_in, admission_in, read_from, in_step, added, Timely}

-- words in step and their sum, past i; once a bit is set nothing else matters
module _ (ws : List ℕ) (first most : ℕ) where
  pub record Stepped (bits before air i : ℕ) : Type 0 where
    pub few : air ≤ 4095 * i
    pub steps : in_step first most ws ≡ (eqb bits 0 && in_step before most (drop i ws))
    pub sum : added ws ≡ air + added (drop i ws)

  pub step_begun : Stepped 0 first 0 0
  step_begun = record { few = omega arith; steps = refl; sum = omega arith }

  module _ (bits before air i : ℕ) (s : Stepped bits before air i) where
    module _ (h : i < length ws) where
      abbrev w : ℕ
      w = get_or ws i 0

      more_added : added ws ≡ air + ontime_in w + added (drop (i + 1) ws)
      unfolding added
      more_added = omega (arith, s.sum, ap added (drop_more ws i 0 h))

      -- late, none and long are 0 if the next comes in step, has an on-time, and that is not too long
      pub step_next : (late none long : ℕ) → eqb late 0 ≡ leb (age_in w + spacing) before
          → eqb none 0 ≡ leb 1 (ontime_in w) → eqb long 0 ≡ leb (ontime_in w) most
          → Stepped (bit_or bits (bit_or (bit_or late none) long)) (age_in w) (air + ontime_in w) (i + 1)
      unfolding in_step within
      step_next late none long a b c =
          record {
            few = omega (arith, s.few);
            steps =
                s.steps
                ∙ rw (
                  drop_more ws i 0 h,
                  or-none bits (bit_or (bit_or late none) long),
                  or-none (bit_or late none) long,
                  or-none late none,
                  a,
                  b,
                  c,
                )
                (regrouped (eqb bits 0) (leb (age_in w + spacing) before) (leb 1 (ontime_in w)) (leb (ontime_in w) most)
                (in_step (age_in w) most (drop (i + 1) ws)));
            sum = more_added;
          }
        where
          regrouped : (t u v x y : Bool) → (t && (u && ((v && x) && y))) ≡ ((t && ((u && v) && x)) && y)
          regrouped false u v x y = refl
          regrouped true false v x y = refl
          regrouped true true v x y = refl

      -- where no bit is set: the next comes in step with an on-time that is allowed, or none of it is
      pub step_on_lem : bits ≡ 0 → age_in w + spacing ≤ before → within 1 most (ontime_in w) ≡ true
          → Stepped 0 (age_in w) (air + ontime_in w) (i + 1)
      unfolding in_step
      step_on_lem z a b =
          record {
            few = omega (arith, s.few);
            steps = s.steps ∙ rw (z, drop_more ws i 0 h, le-leb _ _ a, b);
            sum = more_added;
          }

      pub step_late : before < age_in w + spacing → in_step first most ws ≡ false
      unfolding in_step
      step_late a = s.steps ∙ rw (drop_more ws i 0 h, lt-leb _ _ a) (and-false (eqb bits 0))

      pub step_odd : within 1 most (ontime_in w) ≡ false → in_step first most ws ≡ false
      unfolding in_step
      step_odd b =
          s.steps ∙ rw (drop_more ws i 0 h, b, and-false (leb (age_in w + spacing) before)) (and-false (eqb bits 0))

    pub step_done : length ws ≤ i → (in_step first most ws ≡ eqb bits 0) × (added ws ≡ air)
    unfolding in_step added
    step_done h = (
      s.steps ∙ rw (drop_all i ws h) (and-true (eqb bits 0)),
      omega (arith, s.sum, ap added (drop_all i ws h)),
    )

module _ (base : ℕ) (ws : List ℕ) where
  abbrev left_at : (i : ℕ) → List Admission
  left_at i = read_from base (drop i ws)

  abbrev pub here : (i : ℕ) → Admission
  here i = admission_in base (get_or ws i 0)

  read_next : (i : ℕ) (a : Admission) → a ≡ here i → i < length ws → left_at i ≡ a ∷ left_at (i + 1)
  read_next i a e h =
      ap (read_from base) (drop_more ws i 0 h) ∙ ap (λ (x : Admission). x ∷ left_at (i + 1)) (sym e)

  -- the time from which the air allows a packet, past i that don't leave it room
  pub record Allowing (ontime now rest from i : ℕ) : Type 0 where
    pub air : rest ≡ ontime + air_of (left_at i)
    pub allowed : allowed_from ontime now (read_from base ws) ≡ allowed_from ontime from (left_at i)
    pub timely : Timely (left_at i)

  pub allow_begun : (ontime now rest : ℕ) → rest ≡ ontime + air_of (read_from base ws) → Timely (read_from base ws)
      → Allowing ontime now rest now 0
  allow_begun ontime now rest e t = record { air = e; allowed = refl; timely = t }

  module _ (ontime now rest from i : ℕ) (f : Allowing ontime now rest from i) where
    module _ (h : i < length ws) (a : Admission) (e : a ≡ here i) where
      pub next_air : rest ≡ ontime + (a.ontime + air_of (left_at (i + 1)))
      unfolding air_of
      next_air = omega (arith, f.air, ap air_of (read_next i a e h))

      pub next_timely : (a.at ≤ end_of_time) × Timely (left_at (i + 1))
      next_timely = rw (read_next i a e h) at f.timely

      pub allow_next : most_air < rest → Allowing ontime now (rest - a.ontime) (a.at + full_age) (i + 1)
      unfolding allowed_from air_of
      allow_next m =
          let more : most_air < ontime + (a.ontime + air_of (left_at (i + 1))) = omega (arith, next_air) in
          record {
            air = omega (arith, next_air);
            allowed = f.allowed ∙ rw (read_next i a e h, lt-leb _ _ more);
            timely = next_timely.1;
          }

    pub allow_here : i < length ws → rest ≤ most_air → from ≡ allowed_from ontime now (read_from base ws)
    unfolding allowed_from air_of
    allow_here h m =
        let enough : ontime + ((here i).ontime + air_of (left_at (i + 1))) ≤ most_air = omega (arith, next_air h (here i) refl) in
        sym (f.allowed ∙ rw (read_next i (here i) refl h, le-leb _ _ enough))

    pub allow_done : length ws ≤ i → from ≡ allowed_from ontime now (read_from base ws)
    unfolding allowed_from
    allow_done h = sym (f.allowed ∙ ap (λ (l : List ℕ). allowed_from ontime from (read_from base l)) (drop_all i ws h))
