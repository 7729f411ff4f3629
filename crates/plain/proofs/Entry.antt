-- The checks of every call, 9, 2 and 3, and the first of a call's own: none holds, or the first that does refuses.
use Rattle.std.proofs.Common.{◌≡◌, ℕ, false, eqb, List, [], ◌∷◌, refl, ap, sym, ◌∙◌, arith}
use borrow.Author.Tests.{eqb-true, eqb-false}
use Rattle.rules.specs.Clock.{step_of, goes_back, passes_end}
use Rattle.rules.specs.declared.refusal.Refusal.{Refusal}
use Rattle.rules.specs.Samples.{bad_count}
use Rattle.rules.specs.Refusals.{Check, check, first_of, number_of}
use Rattle.rules.proofs.Cases.{split}
use Rattle.rules.proofs.Refusals.{of_none}
use Rattle.model.specs.declared.Answer.TheVariants.{Refused}
use Rattle.model.specs.Calls.{Call, count, stamp_of}
use Rattle.model.specs.Effects.{stepped}
use Rattle.model.specs.Gate.{own_checks, clock_checks}
use Rattle.checks.specs.Checks.{Entered, clock_number}
use Rattle.checks.proofs.Engine.{sound_view}
use Rattle.checks.proofs.Entry.{unsound, clock_refused, own_refused}
use Rattle.checks.proofs.Entry as entry
use Rattle.rules.proofs.Refusals.{some_number}
use Rattle.plain.specs.declared.State.{State}
use Rattle.plain.specs.Layout.{view_of, LaidOut, sound_state, Given, outcome, call_on, entry_number}
use Rattle.plain.specs.Refusals.{checks_on}
use Rattle.plain.proofs.Views.{engine}

pub entered : (s : State) (stamp : ℕ) → entry_number s stamp ≡ 0 → Entered (sound_state s) s.clock stamp
unfolding entry_number
entered s stamp z =
    split (sound_state s) (λ e. entry.entered (sound_state s) s.clock stamp e (rw e at z))
    (λ e. absurd (omega (arith, rw e at z)))

pub entry_refused : (s : State) (c : Call) (refusal : Refusal) → number_of refusal ≡ entry_number s (stamp_of c)
    → outcome s (Refused (number_of refusal)) ≡ call_on s c
unfolding entry_number call_on sound_state
entry_refused s c refusal z =
    split (sound_state s) (λ e. clock_refused engine s c (number_of refusal) e (rw e at z) (some_number refusal))
    (λ e. ap (λ (k : ℕ). outcome s (Refused k)) (rw e at z) ∙ unsound engine s c e)

-- a state that all of them pass may be given
pub given : (s : State) (stamp : ℕ) → LaidOut s → 0 ≡ entry_number s stamp → Given s
unfolding sound_state
given s stamp h z = (h, sound_view engine _ (entered s stamp (sym z)).judged_sound)

-- the checks of every call come before its own
module _ (s : State) (stamp : ℕ) (own : List Check) where
  abbrev pub in_order : ℕ
  in_order = first_of (clock_checks (sound_state s) s.clock stamp own)

  pub entry_first : 0 ≡ entry_number s stamp → in_order ≡ first_of own
  unfolding first_of
  entry_first z = let e = entered s stamp (sym z) in rw (e.judged_sound, e.forward, e.not_past)

  pub entry_before : (n : ℕ) → (n ≡ 0 → ⊥) → n ≡ entry_number s stamp → n ≡ in_order
  unfolding first_of entry_number clock_number
  entry_before n some z =
      split (sound_state s)
      (λ e. split (goes_back (step_of stamp s.clock.stamp)) (λ f. rw (e, f) (rw (e, f) at z))
      (λ f. split (passes_end (stepped s.clock stamp).time) (λ g. rw (e, f, g) (rw (e, f, g) at z))
      (λ g. absurd (some (rw (e, f, g) at z)))))
      (λ e. rw e (rw e at z))

  -- where none of both holds, none of each does
  pub passed : 0 ≡ in_order → (0 ≡ entry_number s stamp) × (0 ≡ first_of own)
  passed z =
      split (eqb 0 (entry_number s stamp))
      (λ e. let none = eqb-true 0 (entry_number s stamp) e in (none, z ∙ entry_first none))
      (λ e. let some : entry_number s stamp ≡ 0 → ⊥ = λ y. eqb-false 0 (entry_number s stamp) e (sym y) in
      absurd (some (entry_before (entry_number s stamp) some refl ∙ sym z)))

-- a call is refused by the first of both that holds, where its own begin with these
pub refused_in_order : (s : State) (c : Call) (own : List Check) (refusal : Refusal)
    → number_of refusal ≡ in_order s (stamp_of c) own
    → ((n : ℕ) → first_of own ≡ n → (n ≡ 0 → ⊥) → first_of (own_checks (view_of s) c) ≡ n)
    → outcome s (Refused (number_of refusal)) ≡ call_on s c
unfolding call_on sound_state
refused_in_order s c own refusal z first =
    let n = number_of refusal in
    let some = some_number refusal in
    split (eqb 0 (entry_number s (stamp_of c)))
    (λ e. let none = eqb-true 0 (entry_number s (stamp_of c)) e in
    own_refused engine s c (entered s (stamp_of c) (sym none)) n
    (first n (sym (z ∙ entry_first s (stamp_of c) own none)) some) some)
    (λ e. let k = entry_number s (stamp_of c) in
    entry_refused s c refusal
    (z ∙ sym (entry_before s (stamp_of c) own k (λ y. eqb-false 0 k e (sym y)) refl)))

-- a sample passes where its count is good
pub counted : (s : State) (busy probes stamp : ℕ) → 0 ≡ first_of (checks_on s (count stamp busy probes))
    → (0 ≡ entry_number s stamp) × (bad_count busy probes ≡ false)
counted s busy probes stamp z =
    let p = passed s stamp (check 4 (bad_count busy probes) ∷ []) z in
    (p.0, (of_none (check 4 (bad_count busy probes) ∷ []) (omega arith) (sym p.1)).0)
