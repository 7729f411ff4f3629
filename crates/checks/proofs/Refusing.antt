-- Demands 1 and 2 of the states of any engine: a refusal hands back the state that was given, what isn't sound is refused with 9,
-- and a number is answered exactly if its row is the first of the table that holds.
use Prim.Native.Nat.{ℕ}
use mathlib.Core.Path.{◌≡◌, refl, ap, sym, ◌∙◌, subst, subst⁻¹}
use mathlib.Core.Bool.{Bool, true}
use mathlib.Core.List.{List}
use mathlib.Core.Logic.{inl, ⊎_elim}
use Rattle.rules.specs.Refusals.{Check, FirstHolds}
use Rattle.rules.proofs.Cases.{split, on_cond, clash}
use Rattle.model.specs.declared.Answer.{Answer}
use Rattle.model.specs.declared.Answer.TheVariants.{Refused}
use Rattle.model.specs.Packets.{Holding}
use Rattle.model.specs.Calls.{Call, stamp_of, is_refused}
use Rattle.model.specs.Effects.{Result}
use Rattle.model.specs.Gate.{own_checks, clock_checks, checks, call}
use Rattle.model.proofs.Refusals.{refusals_are_exact}
use Rattle.checks.proofs.Engine.{Engine, sound_in, outcome_in, call_in, sound_view}

-- the table of a call on a state: NO-STATE is judged on all of the state
abbrev pub checks_in : {h : Holding} (e : Engine h) → e.State → Call → List Check
checks_in e s c = clock_checks (sound_in e s) (e.view_of s).clock (stamp_of c) (own_checks (e.view_of s) c)

-- the parts of an outcome
module _ {h : Holding} (e : Engine h) (state : e.Outcome → e.State) (answer : e.Outcome → Answer)
    (given : (s : e.State) (a : Answer) → state (e.outcome s a) ≡ s)
    (told : (s : e.State) (a : Answer) → answer (e.outcome s a) ≡ a) where
  abbrev Unchanged : e.State → e.Outcome → Type 0
  Unchanged s o = is_refused (answer o) ≡ true → state o ≡ s

  pub refused_unchanged : (s : e.State) (c : Call) → Unchanged s (call_in e s c)
  refused_unchanged s c =
      on_cond (Unchanged s) (sound_in e s)
      (λ f. on_cond (Unchanged s) (is_refused (call (e.view_of s) c).answer) (λ r g. given s _)
      (λ r g. clash (cc (ap is_refused (told _ (call (e.view_of s) c).answer)))))
      (λ f g. given s _)

  answer_told : (s : e.State) (o : Result h) → answer (outcome_in e s o) ≡ o.answer
  answer_told s o =
      on_cond (λ (x : e.Outcome). answer x ≡ o.answer) (is_refused o.answer) (λ r. told s _) (λ r. told _ _)

  checks_alike : (s : e.State) (c : Call) → sound_in e s ≡ true → checks_in e s c ≡ checks (e.view_of s) c
  unfolding checks
  checks_alike s c f =
      ap (λ (u : Bool). clock_checks u (e.view_of s).clock (stamp_of c) (own_checks (e.view_of s) c)) (f ∙ sym (sound_view e s f))

  pub refused_exactly : (s : e.State) (c : Call) (n : ℕ)
      → (answer (call_in e s c) ≡ Refused n → FirstHolds n (checks_in e s c))
      × (FirstHolds n (checks_in e s c) → answer (call_in e s c) ≡ Refused n)
  refused_exactly s c n =
      split (sound_in e s)
      (λ f.
      let x = refusals_are_exact (e.view_of s) c n in
      let t = checks_alike s c f in
      let a : answer (call_in e s c) ≡ (call (e.view_of s) c).answer = rw f (answer_told s (call (e.view_of s) c)) in (
        λ r. subst⁻¹ (FirstHolds n) t (x.0 (sym a ∙ r)),
        λ g. a ∙ x.1 (subst (FirstHolds n) t g),
      ))
      (λ f. rw f (
        λ r. inl (refl, cc (told s (Refused 9))),
        ⊎_elim (λ g. told s (Refused 9) ∙ ap Refused g.1) (λ g. clash (cc g.0)),
      ))
