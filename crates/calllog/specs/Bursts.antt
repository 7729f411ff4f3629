-- A burst of offers in one call, and runs with bursts in them (document 02, W-204; document 01, "A run and
-- its book": "A call on the state that a later request adds counts as the single calls that the request says
-- it equals.").
use Rattle.std.specs.Prelude.{ℕ, zero, suc, ◌*◌, ◌/◌, ◌%◌, ◌<◌, ◌≡◌, Bool, true, false, cond, not, List, []}
use Rattle.std.specs.Prelude.{◌∷◌, ◌++◌, eqb, ltb, length, get_or}
use Rattle.rules.specs.Refusals.{Check, check, first_of}
use Rattle.model.specs.declared.Answer.{Answer}
use Rattle.model.specs.declared.Answer.TheVariants.{Ready, Taken, Sent, Idle, Closed, Refused}
use Rattle.model.specs.Calls.{Call, offer, Making}
use Rattle.model.specs.Journal.{Journal, opened, journal_of}
use Rattle.model.specs.Claims.{Claims}
use Rattle.gate.specs.declared.State.{State}
use Rattle.gate.specs.declared.Outcome.{Outcome}
use Rattle.gate.specs.Layout.{view_of, sound_state, outcome, call_on, make_state}
use Rattle.gate.specs.Runs.{state_after, events_on, PollsRight}
use Rattle.records.specs.declared.Record.{Record}
use Rattle.records.specs.Records.{record_bytes, record_at, offer_in}
use Rattle.records.specs.Buffers.{written}

-- "log records of kind 2"
abbrev pub is_offer : Record → Bool
is_offer rec = eqb rec.kind 2

-- the single offer of such a record
abbrev pub offer_of : Record → Call
offer_of rec = offer rec.stamp (offer_in rec)

-- a record done on a state: "a record of another kind gets 10 and does nothing"
unfoldable pub offered_by : State → Record → Outcome
offered_by s rec = cond (is_offer rec) (call_on s (offer_of rec)) (outcome s (Refused 10))

-- "one byte a record: 0 for TAKEN, else the refusal number" (an offer has no other answer)
unfoldable pub answer_byte : Answer → ℕ
answer_byte Ready = 0
answer_byte Taken = 0
answer_byte (Sent p) = 0
answer_byte Idle = 0
answer_byte (Closed left) = 0
answer_byte (Refused number) = number

-- record n of a burst on a state, the first being 0
abbrev pub offered_at : State → (records : List ℕ) → ℕ → Outcome
offered_at s records n = offered_by s (record_at records (record_bytes * n))

-- the state after the first n records
unfoldable pub offered_to : State → (records : List ℕ) → ℕ → State
offered_to s records zero = s
offered_to s records (suc n) = (offered_at (offered_to s records n) records n).state

-- the answer bytes of the first n records
unfoldable pub answers_to : State → (records : List ℕ) → ℕ → List ℕ
answers_to s records zero = []
answers_to s records (suc n) =
    answers_to s records n ++ (answer_byte (offered_at (offered_to s records n) records n).answer ∷ [])

-- "A record slice whose length isn't a multiple of 16 is refused with 13, TORN-LOG; an answer slice with
-- fewer bytes than there are records with 12, NO-ROOM; 13 is checked first, and the state isn't judged before
-- either"
abbrev pub burst_checks : (bytes room : ℕ) → List Check
burst_checks bytes room =
    check 13 (not (eqb (bytes % record_bytes) 0)) ∷ check 12 (ltb room (bytes / record_bytes)) ∷ []

-- the number that refuses a burst, 0 for none
unfoldable pub burst_number : (bytes room : ℕ) → ℕ
burst_number bytes room = first_of (burst_checks bytes room)

-- a burst that nothing refuses
abbrev pub is_accepted : (records answers : List ℕ) → Bool
is_accepted records answers = eqb (burst_number (length records) (length answers)) 0

-- how many records there are
abbrev pub records_in : (records : List ℕ) → ℕ
records_in records = length records / record_bytes

-- the state that a burst leaves: "Both leave state and answers unchanged."
unfoldable pub burst_state : State → (records answers : List ℕ) → State
burst_state s records answers =
    cond (is_accepted records answers) (offered_to s records (records_in records)) s

-- the answer slice that it leaves: "Answer bytes past the last record are not written."
unfoldable pub burst_answers : State → (records answers : List ℕ) → List ℕ
burst_answers s records answers =
    cond (is_accepted records answers) (written answers 0 (answers_to s records (records_in records))) answers

-- "the single calls in that order": the offers of the first n records
unfoldable pub offers_to : (records : List ℕ) → ℕ → List Call
offers_to records zero = []
offers_to records (suc n) =
    let rec = record_at records (record_bytes * n) in
    offers_to records n ++ cond (is_offer rec) (offer_of rec ∷ []) []

-- what an answer byte says of an offer
abbrev pub answer_of : (byte : ℕ) → Answer
answer_of zero = Taken
answer_of (suc n) = Refused (suc n)

-- the offers of the first n records, each with what its answer byte says
unfoldable pub heard_to : (records bytes : List ℕ) → ℕ → List (Call × Answer)
heard_to records bytes zero = []
heard_to records bytes (suc n) =
    let rec = record_at records (record_bytes * n) in
    heard_to records bytes n ++ cond (is_offer rec) ((offer_of rec, answer_of (get_or bytes n 0)) ∷ []) []

-- "The final state and every answer equal those of the single calls in that order."
pub record AsSingleCalls (s : State) (records answers : List ℕ) : Type 0 where
  pub final : burst_state s records answers ≡ state_after s (offers_to records (records_in records))
  -- the bytes of kind 2 say what the single calls answer
  pub answers_alike :
      heard_to records (burst_answers s records answers) (records_in records)
      ≡ events_on s (offers_to records (records_in records))
  -- "a record of another kind gets 10"
  pub others : (k : ℕ) → k < records_in records → is_offer (record_at records (record_bytes * k)) ≡ false
      → get_or (burst_answers s records answers) k 0 ≡ 10

abbrev pub BurstsAreSingleCalls : Type 0
BurstsAreSingleCalls =
    (s : State) (records answers : List ℕ) → is_accepted records answers ≡ true
    → AsSingleCalls s records answers

-- what a host does: a single call, or a burst with the bytes that it lends for the answers
pub data Move : Type 0 where
  one : Call → Move
  burst : (records answers : List ℕ) → Move

-- the state that a move leaves
abbrev pub moved : State → Move → State
moved s (one c) = (call_on s c).state
moved s (burst records answers) = burst_state s records answers

-- the single calls that a move counts as; a refused burst is none
abbrev pub calls_of : Move → List Call
calls_of (one c) = c ∷ []
calls_of (burst records answers) = cond (is_accepted records answers) (offers_to records (records_in records))
    []

-- those calls, each with the answer that the host has heard
abbrev pub heard_of : State → Move → List (Call × Answer)
heard_of s (one c) = (c, (call_on s c).answer) ∷ []
heard_of s (burst records answers) =
    cond (is_accepted records answers)
    (heard_to records (burst_answers s records answers) (records_in records))
    []

-- the state after a list of moves
unfoldable pub moved_all : State → List Move → State
moved_all s [] = s
moved_all s (m ∷ ms) = moved_all (moved s m) ms

-- the single calls of a list of moves
unfoldable pub all_calls : List Move → List Call
all_calls [] = []
all_calls (m ∷ ms) = calls_of m ++ all_calls ms

-- all that the host has heard
unfoldable pub all_heard : State → List Move → List (Call × Answer)
all_heard s [] = []
all_heard s (m ∷ ms) = heard_of s m ++ all_heard (moved s m) ms

-- the journal of what the host has heard
abbrev pub journal_heard : Making → State → List Move → Journal
journal_heard m s moves = journal_of (opened m.stamp) (all_heard s moves)

-- a run with bursts in it, from a state that make gave
pub record BurstRun (m : Making) (s : State) (moves : List Move) : Type 0 where
  -- it is the run of its single calls
  pub final : moved_all s moves ≡ state_after s (all_calls moves)
  pub heard : all_heard s moves ≡ events_on s (all_calls moves)
  -- so no move of it meets NO-STATE, and demand 3 holds of it
  pub stays_sound : sound_state (moved_all s moves) ≡ true
  pub claims : Claims m.profile (view_of (moved_all s moves)) (journal_heard m s moves)
  pub polls : PollsRight m.profile (moved_all s moves) (journal_heard m s moves)

-- demand 3 "covers" every list of single calls and bursts behind a make that isn't refused
abbrev pub RunsWithBursts : Type 0
RunsWithBursts =
    (m : Making) (moves : List Move) → (make_state m).answer ≡ Ready → BurstRun m (make_state m).state moves
