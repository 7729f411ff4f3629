-- What a host does on its rows is a run of the gate on the states that lie in them, call by call; so demand 3 of that run is
-- demand 3 of what the host was told.
use Prim.Native.Nat.{ℕ}
use mathlib.Core.Path.{◌≡◌, refl, ap, ap₂, sym, ◌∙◌, subst⁻¹}
use mathlib.Core.Bool.{true, cond}
use mathlib.Core.List.{List, [], ◌∷◌, ◌++◌}
use native.Mathlib.Omega.{arith}
use borrow.Author.Tests.{ne_eqb}
use Rattle.rules.specs.Profiles.{within}
use Rattle.rules.proofs.Cases.{split}
use Rattle.model.specs.declared.Answer.{Answer}
use Rattle.model.specs.declared.Answer.TheVariants.{Ready, Taken, Sent, Idle, Closed, Refused}
use Rattle.model.specs.declared.Reply.{Reply}
use Rattle.model.specs.Calls.{Call, poll, reply_of}
use Rattle.model.specs.Journal.{Journal, opened, journal_of}
use Rattle.model.specs.Claims.{Claims}
use Rattle.gate.specs.declared.State.{State}
use Rattle.gate.specs.Layout.{view_of, sound_state, call_on, make_state}
use Rattle.gate.specs.Runs.{state_after, events_on, StateRun}
use Rattle.gate.specs.Runs as gate
use Rattle.gate.proofs.Runs.{make_runs}
use Rattle.gate.proofs.Parts.{after_append, events-append}
use Rattle.host.specs.Turns.{Handed, call_in, asked, Lent, state_on}
use Rattle.host.specs.Runs.{Called, CallDone, answer_in, Move, single, several, Done, rows_of, told_by, AllDone}
use Rattle.host.specs.Runs.{rows_after, told_in, book_of, PollsRight, HostRuns}

-- a reply says which answer it is
answer_in_lem : (a : Answer) → answer_in (reply_of a) ≡ a
unfolding answer_in
answer_in_lem Ready = refl
answer_in_lem Taken = refl
answer_in_lem (Sent p) = refl
answer_in_lem Idle = refl
answer_in_lem (Closed left) = refl
answer_in_lem (Refused number) = refl

-- the single calls of a move
abbrev calls_of : Move → List Call
calls_of (single x) =
    cond (within 1 3 x.kind) (call_in x.kind x.a x.b x.c x.d x.stamp ∷ []) []
calls_of (several x) = x.calls

-- a move is its calls
record Moved (l : Lent) (x : Move) : Type 0 where
  state : state_on (rows_of x) ≡ state_after (state_on l) (calls_of x)
  told : told_by x ≡ events_on (state_on l) (calls_of x)

moved : (l : Lent) (x : Move) → Done l x → Moved l x
unfolding asked state_after events_on
moved l (single x) h =
    let s = state_on l in
    let q = call_in x.kind x.a x.b x.c x.d x.stamp in
    let state = ap (λ (t : Handed). t.state) h in
    let reply = ap (λ (t : Handed). answer_in t.reply) h ∙ answer_in_lem (asked s x.kind x.a x.b x.c x.d x.stamp
    ).answer in
    split (within 1 3 x.kind)
    (λ e. record {
      state = rw e (rw e at state);
      told = rw e (ap (λ (a : Answer). (q, a) ∷ []) (rw e at reply));
    })
    (λ e. record { state = rw e (rw e at state); told = rw e refl })
moved l (several x) h = record { state = h.state; told = h.answers }

-- and moves one after the other are theirs
abbrev all_calls : List Move → List Call
all_calls [] = []
all_calls (x ∷ xs) = calls_of x ++ all_calls xs

all_state : (l : Lent) (xs : List Move) → AllDone l xs → state_on (rows_after l xs) ≡ state_after (state_on l) (all_calls xs)
unfolding state_after
all_state l [] h = refl
all_state l (x ∷ xs) h =
    all_state (rows_of x) xs h.1
    ∙ ap (λ (t : State). state_after t (all_calls xs)) (moved l x h.0).state
    ∙ sym (after_append (state_on l) (calls_of x) (all_calls xs))

all_told : (l : Lent) (xs : List Move) → AllDone l xs → told_in xs ≡ events_on (state_on l) (all_calls xs)
unfolding events_on
all_told l [] h = refl
all_told l (x ∷ xs) h =
    ap₂ (λ (a b : List (Call × Answer)). a ++ b) (moved l x h.0).told
    (all_told (rows_of x) xs h.1 ∙ ap (λ (t : State). events_on t (all_calls xs)) (moved l x h.0).state)
    ∙ sym (events-append (state_on l) (calls_of x) (all_calls xs))

-- which answers READY and SENT are
ready_of : (a : Answer) → (reply_of a).kind ≡ 0 → a ≡ Ready
ready_of Ready e = refl
ready_of Taken e = absurd (omega arith)
ready_of (Sent p) e = absurd (omega arith)
ready_of Idle e = absurd (omega arith)
ready_of (Closed left) e = absurd (omega arith)
ready_of (Refused number) e = absurd (omega arith)

sent_of_lem : (a : Answer) → (reply_of a).kind ≡ 2 → a ≡ Sent (reply_of a).packet
sent_of_lem Ready e = absurd (omega arith)
sent_of_lem Taken e = absurd (omega arith)
sent_of_lem (Sent p) e = refl
sent_of_lem Idle e = absurd (omega arith)
sent_of_lem (Closed left) e = absurd (omega arith)
sent_of_lem (Refused number) e = absurd (omega arith)

-- a call of kind 3 is a poll
polled : (l : Lent) (x : Called) → CallDone l x → x.kind ≡ 3
    → x.reply ≡ reply_of (call_on (state_on l) (poll x.stamp)).answer
unfolding asked call_in within
polled l x h e =
    ap (λ (t : Handed). t.reply) h
    ∙ ap (λ (k : ℕ). reply_of (asked (state_on l) k x.a x.b x.c x.d x.stamp).answer) e

polls_right : (profile : ℕ) (l : Lent) (j : Journal) → gate.PollsRight profile (state_on l) j → PollsRight profile l j
polls_right profile l j p =
    record {
      floor = λ x h k taken some late.
          let r = polled l x h k in
          let sent =
          p.floor x.stamp (ne_eqb _ 5 (λ five. taken (ap (λ (y : Reply). y.kind) r ∙ five))) some late in
          ap (λ (y : Reply). y.kind) r ∙ ap (λ (a : Answer). (reply_of a).kind) sent.1;
      sent = λ x h k sent.
          let r = polled l x h k in
          let a = (call_on (state_on l) (poll x.stamp)).answer in
          let is_sent_lem : a ≡ Sent (reply_of a).packet = sent_of_lem a (sym (ap (λ (y : Reply). y.kind) r) ∙ sent) in
          let top = p.sent x.stamp (reply_of a).packet is_sent_lem in
          (top.0, top.1, top.2 ∙ sym (ap (λ (y : Reply). y.packet) r));
    }

pub host_runs : HostRuns
host_runs m l r xs h ready done =
    record {
      stays_sound = subst⁻¹ (λ (t : State). sound_state t ≡ true) same run.stays_sound;
      claims =
          subst⁻¹ (λ (t : State). Claims m.profile (view_of t) (book_of m xs)) same
          (subst⁻¹ (λ (es : List (Call × Answer)). Claims m.profile (view_of reached) (journal_of (opened m.stamp) es)) told
          run.claims);
      polls =
          polls_right m.profile (rows_after l xs) (book_of m xs)
          (subst⁻¹ (λ (t : State). gate.PollsRight m.profile t (book_of m xs)) same
          (subst⁻¹ (λ (es : List (Call × Answer)). gate.PollsRight m.profile reached (journal_of (opened m.stamp) es)) told
          run.polls));
    }
  where
    s : State
    s = (make_state m).state

    reached : State
    reached = state_after s (all_calls xs)

    starts : state_on l ≡ s
    starts = ap (λ (t : Handed). t.state) h

    run : StateRun m s (all_calls xs)
    run =
        make_runs m (ready_of (make_state m).answer (sym (ap (λ (t : Handed). t.reply.kind) h) ∙ ready)) (all_calls xs)

    same : state_on (rows_after l xs) ≡ reached
    same = all_state l xs done ∙ ap (λ (t : State). state_after t (all_calls xs)) starts

    told : told_in xs ≡ events_on s (all_calls xs)
    told = all_told l xs done ∙ ap (λ (t : State). events_on t (all_calls xs)) starts
