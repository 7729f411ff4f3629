-- The plain engine and the gate, on the states that their code hands out: the same answers at every step
-- (document 02, W-212).
use Rattle.std.specs.Prelude.{ℕ, ◌+◌, ◌≤◌, ◌≡◌, true, false, List, [], ◌∷◌}
use Rattle.control.specs.Owed.{quiet}
use Rattle.model.specs.declared.Packet.{Packet}
use Rattle.model.specs.declared.Admission.{Admission}
use Rattle.model.specs.declared.Answer.TheVariants.{Ready, Sent}
use Rattle.model.specs.Calls.{poll, Making, is_refused}
use Rattle.model.specs.Journal.{Entry, Journal, opened, turned, at_poll, top, journal_of}
use Rattle.model.specs.Claims.{Claims, All}
use Rattle.line.specs.Same.{in_parts}
use Rattle.gate.specs.declared.State as gate-state
use Rattle.gate.specs.Layout as gate
use Rattle.calllog.specs.Bursts.{Move}
use Rattle.calllog.specs.Bursts as gate-bursts
use Rattle.plain.specs.declared.State.{State}
use Rattle.plain.specs.declared.Outcome.{Outcome}
use Rattle.plain.specs.Layout.{view_of, sound_state, call_on}
use Rattle.plain.specs.Bursts.{burst_answers, moved_all, all_heard}

-- a state of the plain engine and one of the gate, both given the same single calls and bursts
pub record SameMoves (s : State) (t : gate-state.State) (moves : List Move) : Type 0 where
  -- "the same answers at every step, refusals, displacement .. and CLOSED numbers among them"
  pub answers : all_heard s moves ≡ gate-bursts.all_heard t moves
  -- whatever burst comes next, its answer bytes are the same, those of other kinds of records too
  pub bytes : (records answers : List ℕ)
      → burst_answers (moved_all s moves) records answers
      ≡ gate-bursts.burst_answers (gate-bursts.moved_all t moves) records answers
  -- "counts .. among them"
  pub counts : (moved_all s moves).counts ≡ (gate-bursts.moved_all t moves).head.counts
  -- and so is all that the states say, the list parted into four queues
  pub states : in_parts (view_of (moved_all s moves)) ≡ gate.view_of (gate-bursts.moved_all t moves)
  -- no call of it meets NO-STATE
  pub stays_sound : sound_state (moved_all s moves) ≡ true

-- from any sound list and the queues that are its parts
abbrev pub SoundStatesAgree : Type 0
SoundStatesAgree =
    (s : State) (t : gate-state.State) (moves : List Move) → sound_state s ≡ true → gate.sound_state t ≡ true
    → in_parts (view_of s) ≡ gate.view_of t → SameMoves s t moves

-- one more poll of the plain engine, j being the journal of the run that led to its state: as for the gate,
-- in gate/specs/Runs
pub record PollsRight (profile : ℕ) (s : State) (j : Journal) : Type 0 where
  -- the floor: an accepted poll that finds an unexpired packet after the quiet time sends
  pub floor : (stamp : ℕ) → is_refused (call_on s (poll stamp)).answer ≡ false
      → (top (at_poll j stamp).columns ≡ [] → ⊥)
      → All (λ (a : Admission). a.at + quiet profile ≤ (turned j stamp).time) j.admissions
      → (p : Packet) × ((call_on s (poll stamp)).answer ≡ Sent p)
  -- "SENT never comes with all columns empty, and carries the packet struck"
  pub sent : (stamp : ℕ) (p : Packet) → (call_on s (poll stamp)).answer ≡ Sent p
      → (l : Entry) × (top (at_poll j stamp).columns ≡ l ∷ []) × (l.packet ≡ p)

-- the journal of what the host has heard of this engine
abbrev pub journal_heard : Making → State → List Move → Journal
journal_heard m s moves = journal_of (opened m.stamp) (all_heard s moves)

-- a run from a state that make gave: the gate's run from its make, and demand 3 of what the host has heard of
-- this engine, its floor and its packets said of this engine's own polls
pub record SameRun (m : Making) (s : State) (moves : List Move) : Type 0 where
  pub same : SameMoves s (gate.make_state m).state moves
  pub claims : Claims m.profile (in_parts (view_of (moved_all s moves))) (journal_heard m s moves)
  pub polls : PollsRight m.profile (moved_all s moves) (journal_heard m s moves)

-- of what make gives: the answer of the gate's make, and where that is READY, for every list of single calls
-- and bursts the gate's run
pub record Agrees (o : Outcome) (m : Making) : Type 0 where
  pub made : o.answer ≡ (gate.make_state m).answer
  pub runs : o.answer ≡ Ready → (moves : List Move) → SameRun m o.state moves
