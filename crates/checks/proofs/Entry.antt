-- A call is refused by the checks of every call, by its own, or is its effect laid out.
use Prim.Native.Nat.{ℕ}
use mathlib.Core.Path.{◌≡◌, refl, ap, sym, ◌∙◌}
use mathlib.Core.Bool.{Bool, true, false, cond}
use mathlib.Core.List.{List}
use native.Mathlib.Omega.{arith}
use borrow.Author.Tests.{ne_eqb}
use Rattle.rules.specs.Clock.{step_of, goes_back, passes_end}
use Rattle.std.specs.Prelude.{Some, None}
use Rattle.rules.specs.Samples.{busy_of, sample_of, good_probes, bad_count}
use Rattle.rules.specs.Profiles.{within}
use Rattle.rules.specs.Refusals.{first_of}
use Rattle.rules.proofs.Cases.{split}
use Rattle.rules.proofs.Refusals.{of_none}
use Rattle.model.specs.declared.Clock.{Clock}
use Rattle.model.specs.declared.Answer.TheVariants.{Refused}
use Rattle.model.specs.Packets.{Holding}
use Rattle.model.specs.Calls.{Call, words, count, poll, stamp_of}
use Rattle.model.specs.State.{Status, sound}
use Rattle.model.specs.Effects.{Result, stepped, refreshed, effect}
use Rattle.model.specs.Gate.{own_checks, checks, unless_refused, call}
use Rattle.model.proofs.Refusals.{checks_numbered, effect_accepts}
use Rattle.model.proofs.Sampling.{read_good, read_bad, good_alike, bad_alike}
use Rattle.checks.specs.Checks.{clock_number, Entered}
use Rattle.checks.proofs.Judged.{in_good_time}
use Rattle.checks.proofs.Engine.{Engine, sound_in, laid, outcome_in, call_in, sound_view}

pub entered : (u : Bool) (clock : Clock) (stamp : ℕ) → u ≡ true → clock_number clock stamp ≡ 0 → Entered u clock stamp
unfolding clock_number
entered u clock stamp e z =
    split (goes_back (step_of stamp clock.stamp))
    (λ f. absurd (omega (arith, rw f at z)))
    (λ f. split (passes_end (stepped clock stamp).time)
    (λ g. absurd (omega (arith, rw (f, g) at z)))
    (λ g. record { judged_sound = e; forward = f; not_past = g }))

number : {h : Holding} (v : Status h) (c : Call) → sound v ≡ true
    → first_of (checks v c)
    ≡ cond (goes_back (step_of (stamp_of c) v.clock.stamp)) 2
    (cond (passes_end (stepped v.clock (stamp_of c)).time) 3 (first_of (own_checks v c)))
unfolding checks first_of
number v c f = rw f

-- a poll has no checks of its own
pub none_own : {h : Holding} (v : Status h) (stamp : ℕ) → first_of (own_checks v (poll stamp)) ≡ 0
unfolding first_of
none_own v stamp = refl

module _ {h : Holding} (e : Engine h) (s : e.State) where
  abbrev view : Status h
  view = e.view_of s

  pub unsound : (c : Call) → sound_in e s ≡ false → e.outcome s (Refused 9) ≡ call_in e s c
  unsound c f = rw f

  called : (c : Call) (n : ℕ) → sound_in e s ≡ true → first_of (checks view c) ≡ n
      → call_in e s c ≡ outcome_in e s (unless_refused n view (effect view c))
  unfolding call
  called c n f g = rw (f, g)

  -- refused by the first check that holds
  pub by_number : (c : Call) (n : ℕ) → sound_in e s ≡ true → first_of (checks view c) ≡ n → (n ≡ 0 → ⊥)
      → e.outcome s (Refused n) ≡ call_in e s c
  by_number c n f g k = sym (called c n f g ∙ rw (ne_eqb n 0 k))

  -- refused by the clock
  pub clock_refused : (c : Call) (n : ℕ) → sound_in e s ≡ true → n ≡ clock_number view.clock (stamp_of c) → (n ≡ 0 → ⊥)
      → e.outcome s (Refused n) ≡ call_in e s c
  unfolding clock_number
  clock_refused c n f z k =
      let m = number view c (sound_view e s f) in
      split (goes_back (step_of (stamp_of c) view.clock.stamp))
      (λ g. by_number c n f ((rw g at m) ∙ sym (rw g at z)) k)
      (λ g. split (passes_end (stepped view.clock (stamp_of c)).time)
      (λ l. by_number c n f ((rw (g, l) at m) ∙ sym (rw (g, l) at z)) k)
      (λ l. absurd (k (rw (g, l) at z))))

  -- the state with the clock moved and the expired gone is sound then
  pub refreshed-sound : (stamp : ℕ) → Entered (sound_in e s) view.clock stamp → sound (refreshed view stamp) ≡ true
  refreshed-sound stamp n =
      e.refreshes view stamp (sound_view e s n.judged_sound) (in_good_time (stepped view.clock stamp).time n.not_past)

  module _ (c : Call) (n : Entered (sound_in e s) view.clock (stamp_of c)) where
    own_number : first_of (checks view c) ≡ first_of (own_checks view c)
    own_number = rw (n.forward, n.not_past) at (number view c (sound_view e s n.judged_sound))

    -- refused by its own
    pub own_refused : (k : ℕ) → first_of (own_checks view c) ≡ k → (k ≡ 0 → ⊥) → e.outcome s (Refused k) ≡ call_in e s c
    own_refused k f g = by_number c k n.judged_sound (own_number ∙ f) g

    -- done
    module _ (f : first_of (own_checks view c) ≡ 0) where
      pub accepted : laid e (effect view c) ≡ call_in e s c
      accepted = sym (called c 0 n.judged_sound (own_number ∙ f) ∙ rw (effect_accepts view c))

      pub called_effect : call view c ≡ effect view c
      unfolding call
      called_effect = ap (λ (k : ℕ). unless_refused k view (effect view c)) (own_number ∙ f)

  -- where no check holds, none of every call does and none of its own
  abbrev pub Passed : Call → Type 0
  Passed c = Entered (sound_in e s) view.clock (stamp_of c) × (first_of (own_checks view c) ≡ 0)

  pub passed : (c : Call) → sound_in e s ≡ true → first_of (checks view c) ≡ 0 → Passed c
  unfolding checks
  passed c f z =
      let none = of_none (checks view c) (checks_numbered view c) z in
      let n : Entered (sound_in e s) view.clock (stamp_of c) =
      record { judged_sound = f; forward = none.1.0; not_past = none.1.1.0 } in
      (n, sym (own_number c n) ∙ z)

  -- a sample by words is one by its busy count
  on_calls : (c d : Call) → call view c ≡ call view d → call_in e s c ≡ call_in e s d
  on_calls c d f = ap (λ (o : Result h). cond (sound_in e s) (outcome_in e s o) (e.outcome s (Refused 9))) f

  pub on_words : (stamp probes : ℕ) (ws : List ℕ) (busy : ℕ) → sample_of probes ws ≡ Some busy
      → call_in e s (count stamp busy probes) ≡ call_in e s (words stamp probes ws)
  on_words stamp probes ws busy f =
      let r = read_good probes ws busy f in
      ap (λ (n : ℕ). call_in e s (count stamp n probes)) (sym r.1)
      ∙ on_calls (count stamp (busy_of ws probes) probes) (words stamp probes ws) (good_alike view stamp probes ws r.0)

  -- a bad one is as bad as one of any bad count
  pub on_bad_words : (stamp busy many probes : ℕ) (ws : List ℕ) → bad_count busy many ≡ true → sample_of probes ws ≡ None
      → call_in e s (count stamp busy many) ≡ call_in e s (words stamp probes ws)
  on_bad_words stamp busy many probes ws b f =
      on_calls (count stamp busy many) (words stamp probes ws) (bad_alike view stamp busy many probes ws b (read_bad probes ws f))

pub one-of-none : bad_count 1 0 ≡ true
unfolding bad_count good_probes within
one-of-none = refl
