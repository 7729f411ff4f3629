-- A burst is the single calls of its offers, one after the other; so what a host does with single calls and bursts is a run of
-- single calls, and demand 3 of that run is demand 3 of what the host has heard.
use Prim.Native.Nat.{ℕ, zero, suc, ◌*◌, ◌<◌}
use mathlib.Core.Path.{◌≡◌, refl, sym, ap, ap₂, ◌∙◌, subst⁻¹}
use mathlib.Core.Bool.{true, cond}
use mathlib.Core.List.{List, [], ◌∷◌, ◌++◌}
use native.Mathlib.Omega.{arith}
use lib.ListN.{length, get_or, drop, get_or-append}
use Rattle.rules.proofs.Cases.{split}
use Rattle.model.specs.declared.Answer.{Answer}
use Rattle.model.specs.Calls.{Call}
use Rattle.model.specs.Journal.{opened, journal_of}
use Rattle.model.specs.Claims.{Claims}
use Rattle.gate.specs.declared.State.{State}
use Rattle.gate.specs.Layout.{view_of, sound_state, make_state}
use Rattle.gate.specs.Runs.{state_after, events_on, PollsRight, StateRun}
use Rattle.gate.proofs.Runs.{make_runs}
use Rattle.gate.proofs.Parts.{after_append, events-append}
use Rattle.records.specs.declared.Record.{Record}
use Rattle.records.specs.Records.{record_bytes, record_at}
use Rattle.calllog.specs.Bursts.{is_offer, offer_of, offered_by, answer_byte, offered_to, answers_to, is_accepted, records_in}
use Rattle.calllog.specs.Bursts.{burst_state, burst_answers, offers_to, answer_of, heard_to, BurstsAreSingleCalls}
use Rattle.calllog.specs.Bursts.{Move, one, burst, moved, calls_of, heard_of, moved_all, all_calls, all_heard}
use Rattle.calllog.specs.Bursts.{journal_heard, RunsWithBursts}
use Rattle.calllog.proofs.Bursts.{offer_told, answers_length, from_start, byte_of, answer_at_lem}

-- one record is its offer, or no call
record_state : (s : State) (rec : Record) → (offered_by s rec).state ≡ state_after s (cond (is_offer rec) (offer_of rec ∷ []) [])
unfolding offered_by state_after
record_state s rec =
    split (is_offer rec) (λ e. rw e) (λ e. rw e)

pub offered_after : (s : State) (records : List ℕ) (n : ℕ) → offered_to s records n ≡ state_after s (offers_to records n)
unfolding offered_to offers_to state_after
offered_after s records zero = refl
offered_after s records (suc n) =
    let rec = record_at records (record_bytes * n) in
    let ds = cond (is_offer rec) (offer_of rec ∷ []) [] in
    ap (λ (t : State). (offered_by t rec).state) (offered_after s records n)
    ∙ record_state (state_after s (offers_to records n)) rec
    ∙ sym (after_append s (offers_to records n) ds)

-- the offers heard, byte by byte, are the events
record_heard : (s : State) (rec : Record) (byte : ℕ) → byte ≡ answer_byte (offered_by s rec).answer
    → cond (is_offer rec) ((offer_of rec, answer_of byte) ∷ []) [] ≡ events_on s (cond (is_offer rec) (offer_of rec ∷ []) [])
unfolding offered_by events_on
record_heard s rec byte b =
    split (is_offer rec)
    (λ e. rw e
    (ap (λ (a : Answer). (offer_of rec, a) ∷ []) (ap answer_of (rw e at b) ∙ (offer_told s _ _).back)))
    (λ e. rw e)

heard-events :
    (s : State) (records bytes : List ℕ) (n : ℕ) → ((k : ℕ) → k < n → get_or bytes k 0 ≡ byte_of s records k)
    → heard_to records bytes n ≡ events_on s (offers_to records n)
unfolding heard_to offers_to events_on
heard-events s records bytes zero h = refl
heard-events s records bytes (suc n) h =
    let rec = record_at records (record_bytes * n) in
    let ds = cond (is_offer rec) (offer_of rec ∷ []) [] in
    ap₂ (λ (a b : List (Call × Answer)). a ++ b)
    (heard-events s records bytes n (λ k l. h k (omega arith)))
    (record_heard (offered_to s records n) rec (get_or bytes n 0) (h n (omega arith))
    ∙ ap (λ (t : State). events_on t ds) (offered_after s records n))
    ∙ sym (events-append s (offers_to records n) ds)

-- the answer slice that a burst leaves has the answers in front
pub byte_at : (s : State) (records answers : List ℕ) (k : ℕ) → is_accepted records answers ≡ true → k < records_in records
    → get_or (burst_answers s records answers) k 0 ≡ byte_of s records k
unfolding burst_answers
byte_at s records answers k e h =
    let n = records_in records in
    let t = answers_to s records n in
    rw e
    (ap (λ (l : List ℕ). get_or l k 0) (from_start answers t)
    ∙ get_or-append t (drop (length t) answers) 0 k (omega (arith, answers_length s records n))
    ∙ answer_at_lem s records n k h)

pub bursts_are_single_calls : BurstsAreSingleCalls
unfolding burst_state offered_by answer_byte
bursts_are_single_calls s records answers e =
    record {
      final = rw e (offered_after s records (records_in records));
      answers_alike =
          heard-events s records (burst_answers s records answers) (records_in records)
          (λ k h. byte_at s records answers k e h);
      others = λ k h other. byte_at s records answers k e h ∙ rw other;
    }

-- one move is its single calls
record MoveDone (s : State) (m : Move) : Type 0 where
  final : moved s m ≡ state_after s (calls_of m)
  heard : heard_of s m ≡ events_on s (calls_of m)

move_done : (s : State) (m : Move) → MoveDone s m
unfolding state_after events_on burst_state
move_done s (one c) = record { final = refl; heard = refl }
move_done s (burst records answers) =
    split (is_accepted records answers)
    (λ e. let b = bursts_are_single_calls s records answers e in
    record { final = rw e (rw e at b.final); heard = rw e b.answers_alike })
    (λ e. record { final = rw e; heard = rw e })

moves_final : (s : State) (ms : List Move) → moved_all s ms ≡ state_after s (all_calls ms)
unfolding moved_all all_calls state_after
moves_final s [] = refl
moves_final s (m ∷ ms) =
    moves_final (moved s m) ms
    ∙ ap (λ (t : State). state_after t (all_calls ms)) (move_done s m).final
    ∙ sym (after_append s (calls_of m) (all_calls ms))

moves_heard : (s : State) (ms : List Move) → all_heard s ms ≡ events_on s (all_calls ms)
unfolding all_heard all_calls events_on
moves_heard s [] = refl
moves_heard s (m ∷ ms) =
    ap₂ (λ (a b : List (Call × Answer)). a ++ b) (move_done s m).heard
    (moves_heard (moved s m) ms ∙ ap (λ (t : State). events_on t (all_calls ms)) (move_done s m).final)
    ∙ sym (events-append s (calls_of m) (all_calls ms))

pub runs_with_bursts : RunsWithBursts
runs_with_bursts m moves ready =
    record {
      final = same;
      heard = alike;
      stays_sound = subst⁻¹ (λ (t : State). sound_state t ≡ true) same run.stays_sound;
      claims =
          subst⁻¹ (λ (t : State). Claims m.profile (view_of t) (journal_heard m s moves)) same
          (subst⁻¹ (λ (l : List (Call × Answer)). Claims m.profile (view_of reached) (journal_of (opened m.stamp) l)) alike
          run.claims);
      polls =
          subst⁻¹ (λ (t : State). PollsRight m.profile t (journal_heard m s moves)) same
          (subst⁻¹ (λ (l : List (Call × Answer)). PollsRight m.profile reached (journal_of (opened m.stamp) l)) alike
          run.polls);
    }
  where
    s : State
    s = (make_state m).state

    reached : State
    reached = state_after s (all_calls moves)

    run : StateRun m s (all_calls moves)
    run = make_runs m ready (all_calls moves)

    same : moved_all s moves ≡ reached
    same = moves_final s moves

    alike : all_heard s moves ≡ events_on s (all_calls moves)
    alike = moves_heard s moves
