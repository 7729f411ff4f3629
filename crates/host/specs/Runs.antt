-- A C host's run: presscurlew_gate_make, and then whatever calls it likes, each by its contract, on the rows
-- that the one before left; and demand 3 of what the host has handed over and been told (document 01, "A run
-- and its book").
use Rattle.std.specs.Prelude.{ℕ, ◌+◌, ◌≤◌, ◌≡◌, true, cond, List, [], ◌∷◌, ◌++◌, eqb}
use Rattle.rules.specs.Profiles.{within}
use Rattle.control.specs.Owed.{quiet}
use Rattle.model.specs.declared.Admission.{Admission}
use Rattle.model.specs.declared.Answer.{Answer}
use Rattle.model.specs.declared.Answer.TheVariants.{Ready, Taken, Sent, Idle, Closed, Refused}
use Rattle.model.specs.declared.Reply.{Reply}
use Rattle.model.specs.Calls.{Call, Making}
use Rattle.model.specs.Journal.{Entry, Journal, opened, turned, at_poll, top, journal_of}
use Rattle.model.specs.Claims.{All, Claims}
use Rattle.gate.specs.Layout.{view_of, sound_state, make_state}
use Rattle.gate.specs.Runs.{state_after, events_on}
use Rattle.host.specs.Turns.{handed, handed_by, call_in, asked, Lent, state_on}

-- presscurlew_gate_make: it left these rows, and this reply
abbrev pub MakeDone : Making → Lent → Reply → Type 0
MakeDone m after r = handed (state_on after) r ≡ handed_by (make_state m)

-- presscurlew_gate_call: the numbers that were handed over, the reply, and the rows that it left
pub record Called : Type 0 where
  pub kind : ℕ
  pub a : ℕ
  pub b : ℕ
  pub c : ℕ
  pub d : ℕ
  pub stamp : ℕ
  pub reply : Reply
  pub after : Lent

abbrev pub CallDone : Lent → Called → Type 0
CallDone before x =
    handed (state_on x.after) x.reply
    ≡ handed_by (asked (state_on before) x.kind x.a x.b x.c x.d x.stamp)

-- the answer of a reply: READY 0, TAKEN 1, SENT 2, IDLE 3, CLOSED 4, REFUSED 5
unfoldable pub answer_in : Reply → Answer
answer_in r =
    cond (eqb r.kind 0) Ready
    (cond (eqb r.kind 1) Taken
    (cond (eqb r.kind 2) (Sent r.packet)
    (cond (eqb r.kind 3) Idle (cond (eqb r.kind 4) (Closed r.number) (Refused r.number)))))

-- "each call's arguments and answer"; a kind that there isn't is no call of the gate
abbrev pub heard_of : Called → List (Call × Answer)
heard_of x =
    cond (within 1 3 x.kind)
    ((call_in x.kind x.a x.b x.c x.d x.stamp, answer_in x.reply) ∷ [])
    []

-- "A call on the state that a later request adds counts as the single calls that the request says it
-- equals.": so does presscurlew_gate_burst, with what its answer bytes say (calllog/specs/Bursts)
pub record Counted : Type 0 where
  pub calls : List Call
  pub heard : List (Call × Answer)
  pub after : Lent

pub record CountsAs (before : Lent) (x : Counted) : Type 0 where
  pub state : state_on x.after ≡ state_after (state_on before) x.calls
  pub answers : x.heard ≡ events_on (state_on before) x.calls

-- what a host does on its rows
pub data Move : Type 0 where
  single : Called → Move
  several : Counted → Move

abbrev pub Done : Lent → Move → Type 0
Done before (single x) = CallDone before x
Done before (several x) = CountsAs before x

abbrev pub rows_of : Move → Lent
rows_of (single x) = x.after
rows_of (several x) = x.after

abbrev pub told_by : Move → List (Call × Answer)
told_by (single x) = heard_of x
told_by (several x) = x.heard

-- each on the rows that the one before left
abbrev pub AllDone : Lent → List Move → Type 0
AllDone l [] = Unit {0}
AllDone l (x ∷ xs) = Done l x × AllDone (rows_of x) xs

-- the rows at the end
abbrev pub rows_after : Lent → List Move → Lent
rows_after l [] = l
rows_after l (x ∷ xs) = rows_after (rows_of x) xs

-- all that was handed over and told
abbrev pub told_in : List Move → List (Call × Answer)
told_in [] = []
told_in (x ∷ xs) = told_by x ++ told_in xs

-- the book, "fed each call's arguments and answer and nothing from the state"
abbrev pub book_of : Making → List Move → Journal
book_of m xs = journal_of (opened m.stamp) (told_in xs)

-- one more presscurlew_gate_call of kind 3
pub record PollsRight (profile : ℕ) (l : Lent) (j : Journal) : Type 0 where
  -- the floor: a poll that is not REFUSED and finds an unexpired packet after the quiet time is SENT
  pub floor : (x : Called) → CallDone l x → x.kind ≡ 3 → (x.reply.kind ≡ 5 → ⊥)
      → (top (at_poll j x.stamp).columns ≡ [] → ⊥)
      → All (λ (a : Admission). a.at + quiet profile ≤ (turned j x.stamp).time) j.admissions
      → x.reply.kind ≡ 2
  -- "SENT never comes with all columns empty, and carries the packet struck"
  pub sent : (x : Called) → CallDone l x → x.kind ≡ 3 → x.reply.kind ≡ 2
      → (e : Entry) × (top (at_poll j x.stamp).columns ≡ e ∷ []) × (e.packet ≡ x.reply.packet)

-- at the end of a run, and so at any point of one
pub record HostRun (m : Making) (l : Lent) (xs : List Move) : Type 0 where
  -- no call of a run meets NO-STATE
  pub stays_sound : sound_state (state_on (rows_after l xs)) ≡ true
  -- demand 3 of the book that the host could keep
  pub claims : Claims m.profile (view_of (state_on (rows_after l xs))) (book_of m xs)
  pub polls : PollsRight m.profile (rows_after l xs) (book_of m xs)

-- "a make that isn't refused", it answers READY, "then any list of" calls
abbrev pub HostRuns : Type 0
HostRuns =
    (m : Making) (l : Lent) (r : Reply) (xs : List Move) → MakeDone m l r → r.kind ≡ 0 → AllDone l xs
    → HostRun m l xs
