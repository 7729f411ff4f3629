-- A sound state's call is its view's call laid out, so a run of states reads as a run of views, and demand 3 carries over.
use Prim.Native.Nat.{ℕ}
use mathlib.Core.Path.{◌≡◌, refl, ap, ap₂, sym, ◌∙◌, subst, subst⁻¹}
use mathlib.Core.Logic.{inl, ⊎_elim}
use mathlib.Core.Bool.{Bool, true}
use mathlib.Core.List.{List, [], ◌∷◌}
use Rattle.rules.specs.Refusals.{FirstHolds}
use Rattle.rules.proofs.Cases.{split, on_cond, clash}
use Rattle.model.specs.declared.Answer.{Answer}
use Rattle.model.specs.declared.Answer.TheVariants.{Ready, Refused}
use Rattle.model.specs.Queues.{in_queues}
use Rattle.model.specs.Calls.{Call, poll, stamp_of, Making, is_refused}
use Rattle.model.specs.State.{View, sound}
use Rattle.model.specs.Effects.{Result}
use Rattle.model.specs.Gate.{own_checks, clock_checks, checks, make, call}
use Rattle.model.specs.Journal.{Journal, opened, journal_of}
use Rattle.model.specs.Claims.{Claims, view_after, events}
use Rattle.model.proofs.Refusals.{refusals_are_exact}
use Rattle.model.proofs.Demand3.{demand3}
use Rattle.checks.proofs.Engine.{state_sound, on_sound_call}
use Rattle.gate.specs.declared.State.{State}
use Rattle.gate.specs.declared.Outcome.{Outcome}
use Rattle.gate.specs.Layout.{view_of, state_of, sound_state, call_on, make_state}
use Rattle.gate.specs.Runs.{RefusedUnchanged, UnsoundGetsNine, checks_on, RefusedExactly}
use Rattle.gate.specs.Runs.{state_after, events_on, PollsRight, journal_on, Runs}
use Rattle.gate.proofs.Views.{engine, said}

-- what a state's outcome has in common with its view's result
abbrev Reads : Result in_queues → Outcome → Type 0
Reads w o = (view_of o.state ≡ w.view) × (o.answer ≡ w.answer) × (sound_state o.state ≡ true)

pub call_reads : (s : State) (c : Call) → sound_state s ≡ true → Reads (call (view_of s) c) (call_on s c)
unfolding call_on sound_state
call_reads s c e =
    on_sound_call engine (Reads (call (view_of s) c)) s c e (λ same. (same, refl, e)) (λ same kept. (same, refl, kept))

-- a run of states, read as a run of views
pub record RunReads (s : State) (cs : List Call) : Type 0 where
  pub judged_sound : sound_state (state_after s cs) ≡ true
  pub view : view_of (state_after s cs) ≡ view_after (view_of s) cs
  pub answers : events_on s cs ≡ events (view_of s) cs

pub run_reads : (s : State) (cs : List Call) → sound_state s ≡ true → RunReads s cs
unfolding state_after events_on view_after events
run_reads s [] e = record { judged_sound = e; view = refl; answers = refl }
run_reads s (c ∷ cs) e =
    let r = call_reads s c e in
    let n = run_reads (call_on s c).state cs r.2 in
    record {
      judged_sound = n.judged_sound;
      view = n.view ∙ ap (λ (v : View). view_after v cs) r.0;
      answers =
          ap₂ (λ (a : Answer) (l : List (Call × Answer)). (c, a) ∷ l) r.1 n.answers
          ∙ ap (λ (v : View). (c, (call (view_of s) c).answer) ∷ events v cs) r.0;
    }

pub begins : (m : Making) → (make m).answer ≡ Ready → sound (make m).view ≡ true
unfolding view_after
begins m ready = (demand3 m [] ready).sound_throughout

-- the answer of a call on a sound state is that of its view
answer_read : (s : State) (c : Call) → sound_state s ≡ true → (call_on s c).answer ≡ (call (view_of s) c).answer
answer_read s c e = (call_reads s c e).1

polls_right : (profile : ℕ) (s : State) (j : Journal) → sound_state s ≡ true → Claims profile (view_of s) j
    → PollsRight profile s j
polls_right profile s j e c =
    record {
      floor = λ stamp a some q.
          let r = answer_read s (poll stamp) e in
          let f = c.floor stamp (ap is_refused (sym r) ∙ a) some q in
          (f.0, r ∙ f.1);
      sent = λ stamp p a. c.sent stamp p (sym (answer_read s (poll stamp) e) ∙ a);
    }

-- demand 3 of the states that make hands out
pub make_runs : (m : Making) → Runs (make_state m) m
unfolding make_state sound_state
make_runs m ready calls =
    record {
      stays_sound = n.judged_sound;
      answers = n.answers;
      claims = claimed;
      polls = polls_right m.profile (state_after (state_of first) calls) (journal_on m (state_of first) calls)
          n.judged_sound claimed;
    }
  where
    first : View
    first = (make m).view

    n : RunReads (state_of first) calls
    n = run_reads (state_of first) calls (state_sound engine first (begins m ready))

    back : view_of (state_of first) ≡ first
    back = engine.view_state first (begins m ready)

    claimed : Claims m.profile (view_of (state_after (state_of first) calls)) (journal_on m (state_of first) calls)
    claimed =
        subst⁻¹ (λ (v : View). Claims m.profile v (journal_on m (state_of first) calls))
        (n.view ∙ ap (λ (v : View). view_after v calls) back)
        (subst⁻¹ (λ (l : List (Call × Answer)). Claims m.profile (view_after first calls) (journal_of (opened m.stamp) l))
        (n.answers ∙ ap (λ (v : View). events v calls) back) (demand3 m calls ready))

-- demand 1 of states: a refusal hands the given state back
pub refused_unchanged : RefusedUnchanged
unfolding call_on
refused_unchanged s c =
    on_cond (λ (o : Outcome). is_refused o.answer ≡ true → o.state ≡ s) (sound_state s)
    (λ e. on_cond (λ (o : Outcome). is_refused o.answer ≡ true → o.state ≡ s) (is_refused (call (view_of s) c).answer)
    (λ r h. refl) (λ r h. clash (cc)))
    (λ e h. refl)

pub unsound_gets_nine : UnsoundGetsNine
unfolding call_on
unsound_gets_nine s c e = rw e

-- demand 2 of states: on a sound one the table is the view's, and on any other its first row holds
checks_alike : (s : State) (c : Call) → sound_state s ≡ true → checks_on s c ≡ checks (view_of s) c
unfolding checks
checks_alike s c e =
    ap (λ (u : Bool). clock_checks u s.head.clock (stamp_of c) (own_checks (view_of s) c)) (e ∙ sym (said s e))

pub refused_exactly : RefusedExactly
unfolding call_on
refused_exactly s c n =
    split (sound_state s)
    (λ e.
    let x = refusals_are_exact (view_of s) c n in
    let t = checks_alike s c e in
    let a = answer_read s c e in (
      λ r. subst⁻¹ (FirstHolds n) t (x.0 (sym a ∙ r)),
      λ h. a ∙ x.1 (subst (FirstHolds n) t h),
    ))
    (λ e. rw e (
      λ r. inl (refl, cc),
      ⊎_elim (λ h. ap Refused h.1) (λ h. clash (cc h.0)),
    ))
