-- A call on a sound state reads as the model's call on what it says, for the plain engine as for the gate; so states that say the
-- same go on saying the same, call by call and record by record of a burst, and demand 3 carries over.
use Prim.Native.Nat.{ℕ, zero, suc, ◌*◌}
use mathlib.Core.Path.{◌≡◌, refl, ap, ap₂, sym, ◌∙◌, subst⁻¹}
use mathlib.Core.Bool.{true, cond}
use mathlib.Core.List.{List, [], ◌∷◌, ◌++◌}
use Rattle.rules.proofs.Cases.{split}
use Rattle.model.specs.declared.Answer.{Answer}
use Rattle.model.specs.declared.Answer.TheVariants.{Ready}
use Rattle.model.specs.Queues.{in_queues}
use Rattle.model.specs.Calls.{Call, poll, Making, is_refused}
use Rattle.model.specs.State.{View, sound}
use Rattle.model.specs.Effects.{Result}
use Rattle.model.specs.Gate.{make_in, make, call}
use Rattle.model.specs.Journal.{Journal, opened, journal_of}
use Rattle.model.specs.Claims.{Claims}
use Rattle.checks.proofs.Engine.{sound_view, state_sound, on_sound_call}
use Rattle.line.specs.Line.{in_list}
use Rattle.line.specs.Same.{in_parts}
use Rattle.line.proofs.Alike as alike
use Rattle.line.proofs.Agree.{Parted, parts_alike, sound_tied, parts_sound, tied_parts, made_alike}
use Rattle.gate.specs.declared.State as gate-state
use Rattle.gate.specs.Layout as gate
use Rattle.gate.specs.Runs as gate-specs
use Rattle.gate.proofs.Views as gate-views
use Rattle.gate.proofs.Runs as gate-runs
use Rattle.records.specs.declared.Record.{Record}
use Rattle.records.specs.Records.{record_bytes, record_at}
use Rattle.records.specs.Buffers.{written}
use Rattle.calllog.specs.Bursts.{is_offer, offer_of, answer_byte, is_accepted, records_in, heard_to, Move, one, burst}
use Rattle.calllog.specs.Bursts as gate-bursts
use Rattle.calllog.proofs.Bursting.{runs_with_bursts}
use Rattle.plain.specs.declared.State.{State}
use Rattle.plain.specs.declared.Outcome.{Outcome}
use Rattle.plain.specs.Layout.{view_of, sound_state, call_on, make_state}
use Rattle.plain.specs.Bursts.{offered_by, offered_to, answers_to, burst_state, burst_answers}
use Rattle.plain.specs.Bursts.{moved, heard_of, moved_all, all_heard}
use Rattle.plain.specs.Runs.{SameMoves, SoundStatesAgree, PollsRight, journal_heard, SameRun, Agrees}
use Rattle.plain.proofs.Views.{engine}

-- what a state's outcome has in common with the model's result
abbrev Reads : Result in_list → Outcome → Type 0
Reads w o = (view_of o.state ≡ w.view) × (o.answer ≡ w.answer) × (sound_state o.state ≡ true)

pub call_reads : (s : State) (c : Call) → sound_state s ≡ true → Reads (call (view_of s) c) (call_on s c)
unfolding call_on sound_state
call_reads s c e =
    on_sound_call engine (Reads (call (view_of s) c)) s c e (λ same. (same, refl, e)) (λ same kept. (same, refl, kept))

said : (s : State) → sound_state s ≡ true → sound (view_of s) ≡ true
unfolding sound_state
said s e = sound_view engine s e

-- two sound states that say the same
pub record Same (s : State) (t : gate-state.State) : Type 0 where
  pub here : sound_state s ≡ true
  pub there : gate.sound_state t ≡ true
  pub says : in_parts (view_of s) ≡ gate.view_of t

-- one call
same_call : (s : State) (t : gate-state.State) (c : Call) → Same s t
    → ((call_on s c).answer ≡ (gate.call_on t c).answer) × Same (call_on s c).state (gate.call_on t c).state
same_call s t c h =
    let v = view_of s in
    let r = call_reads s c h.here in
    let q = gate-runs.call_reads t c h.there in
    let k = alike.call_alike in_list in_queues Parted parts_alike v (in_parts v) c (sound_tied v (said s h.here)) in (
      r.1 ∙ k.0 ∙ ap (λ (x : View). (call x c).answer) h.says ∙ sym q.1,
      record {
        here = r.2;
        there = q.2;
        says =
            ap in_parts r.0 ∙ tied_parts (call v c).view (call (in_parts v) c).view k.1
            ∙ ap (λ (x : View). (call x c).view) h.says
            ∙ sym q.0;
      },
    )

-- one record, the first n, a whole burst
same_record : (s : State) (t : gate-state.State) (rec : Record) → Same s t
    → ((offered_by s rec).answer ≡ (gate-bursts.offered_by t rec).answer)
    × Same (offered_by s rec).state (gate-bursts.offered_by t rec).state
unfolding offered_by gate-bursts.offered_by
same_record s t rec h = split (is_offer rec) (λ e. rw e (same_call s t (offer_of rec) h)) (λ e. rw e (refl, h))

same_to : (s : State) (t : gate-state.State) (records : List ℕ) (n : ℕ) → Same s t
    → (answers_to s records n ≡ gate-bursts.answers_to t records n)
    × Same (offered_to s records n) (gate-bursts.offered_to t records n)
unfolding answers_to offered_to gate-bursts.answers_to gate-bursts.offered_to
same_to s t records zero h = (refl, h)
same_to s t records (suc n) h =
    let r = same_to s t records n h in
    let k = same_record (offered_to s records n) (gate-bursts.offered_to t records n) (record_at records (record_bytes * n))
    r.1 in
    (ap₂ (λ (a : List ℕ) (b : Answer). a ++ (answer_byte b ∷ [])) r.0 k.0, k.1)

same_bytes : (s : State) (t : gate-state.State) (records answers : List ℕ) → Same s t
    → burst_answers s records answers ≡ gate-bursts.burst_answers t records answers
unfolding burst_answers gate-bursts.burst_answers
same_bytes s t records answers h =
    ap (λ (text : List ℕ). cond (is_accepted records answers) (written answers 0 text) answers)
    (same_to s t records (records_in records) h).0

same_after : (s : State) (t : gate-state.State) (records answers : List ℕ) → Same s t
    → Same (burst_state s records answers) (gate-bursts.burst_state t records answers)
unfolding burst_state gate-bursts.burst_state
same_after s t records answers h =
    split (is_accepted records answers) (λ e. rw e (same_to s t records (records_in records) h).1) (λ e. rw e h)

-- one move, and a list of them
same_move : (s : State) (t : gate-state.State) (m : Move) → Same s t
    → (heard_of s m ≡ gate-bursts.heard_of t m) × Same (moved s m) (gate-bursts.moved t m)
same_move s t (one c) h =
    let k = same_call s t c h in (ap (λ (a : Answer). (c, a) ∷ []) k.0, k.1)
same_move s t (burst records answers) h = (
  ap (λ (bytes : List ℕ). cond (is_accepted records answers) (heard_to records bytes (records_in records)) [])
      (same_bytes s t records answers h),
  same_after s t records answers h,
)

same_all : (s : State) (t : gate-state.State) (ms : List Move) → Same s t
    → (all_heard s ms ≡ gate-bursts.all_heard t ms) × Same (moved_all s ms) (gate-bursts.moved_all t ms)
unfolding all_heard moved_all gate-bursts.all_heard gate-bursts.moved_all
same_all s t [] h = (refl, h)
same_all s t (m ∷ ms) h =
    let k = same_move s t m h in
    let r = same_all (moved s m) (gate-bursts.moved t m) ms k.1 in
    (ap₂ (λ (a b : List (Call × Answer)). a ++ b) k.0 r.0, r.1)

same_moves : (s : State) (t : gate-state.State) (ms : List Move) → Same s t → SameMoves s t ms
same_moves s t ms h =
    let r = same_all s t ms h in
    record {
      answers = r.0;
      bytes = λ records answers. same_bytes (moved_all s ms) (gate-bursts.moved_all t ms) records answers r.1;
      counts = ap (λ (v : View). v.counts) r.1.says;
      states = r.1.says;
      stays_sound = r.1.here;
    }

-- a poll that is right there is right here
same_polls : (profile : ℕ) (s : State) (t : gate-state.State) (j : Journal) → Same s t → gate-specs.PollsRight profile t j
    → PollsRight profile s j
same_polls profile s t j h g =
    record {
      floor = λ stamp a some q.
          let r = (same_call s t (poll stamp) h).0 in
          let f = g.floor stamp (ap is_refused (sym r) ∙ a) some q in
          (f.0, r ∙ f.1);
      sent = λ stamp p a. g.sent stamp p (sym (same_call s t (poll stamp) h).0 ∙ a);
    }

pub sound_states_agree : SoundStatesAgree
sound_states_agree s t ms a b e = same_moves s t ms (record { here = a; there = b; says = e })

-- what the two makes give
made_same : (m : Making) → (make m).answer ≡ Ready → Same (make_state m).state (gate.make_state m).state
unfolding make_state gate.make_state sound_state gate.sound_state
made_same m ready =
    let v = (make_in in_list m).view in
    let w = (make m).view in
    let t = (made_alike m).1 in
    let e = gate-runs.begins m ready in
    let h : sound v ≡ true = parts_sound v w t ∙ e in
    record {
      here = state_sound engine v h;
      there = state_sound gate-views.engine w e;
      says = ap in_parts (engine.view_state v h) ∙ tied_parts v w t ∙ sym ((gate-views.engine).view_state w e);
    }

same_made : (m : Making) → (make_state m).answer ≡ (gate.make_state m).answer
unfolding make_state gate.make_state
same_made m = (made_alike m).0

gate_ready : (m : Making) → (gate.make_state m).answer ≡ Ready → (make m).answer ≡ Ready
unfolding gate.make_state
gate_ready m e = e

same_run : (m : Making) → (gate.make_state m).answer ≡ Ready → (ms : List Move) → SameRun m (make_state m).state ms
same_run m ready ms =
    let s = (make_state m).state in
    let t = (gate.make_state m).state in
    let begun = made_same m (gate_ready m ready) in
    let r = same_moves s t ms begun in
    let there = runs_with_bursts m ms ready in
    record {
      same = r;
      polls =
          same_polls m.profile (moved_all s ms) (gate-bursts.moved_all t ms) (journal_heard m s ms) (same_all s t ms begun).1
          (subst⁻¹ (λ (l : List (Call × Answer)).
          gate-specs.PollsRight m.profile (gate-bursts.moved_all t ms) (journal_of (opened m.stamp) l))
          r.answers there.polls);
      claims =
          subst⁻¹ (λ (v : View). Claims m.profile v (journal_of (opened m.stamp) (all_heard s ms))) r.states
          (subst⁻¹ (λ (l : List (Call × Answer)).
          Claims m.profile (gate.view_of (gate-bursts.moved_all t ms)) (journal_of (opened m.stamp) l))
          r.answers there.claims);
    }

pub make_agrees : (m : Making) → Agrees (make_state m) m
make_agrees m = record { made = same_made m; runs = λ ready. same_run m (sym (same_made m) ∙ ready) }
