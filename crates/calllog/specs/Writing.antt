-- A log written and played back: it is answered as the calls were (document 02, W-206; document 01, "The call
-- log and its program").
use Rattle.std.specs.Prelude.{ℕ, ◌≡◌, true, List, [], ◌∷◌, ◌++◌, map}
use Rattle.rules.specs.Samples.{busy_of, good_words}
use Rattle.model.specs.declared.Answer.{Answer}
use Rattle.model.specs.Calls.{Call, words, count, Making}
use Rattle.gate.specs.declared.State.{State}
use Rattle.gate.specs.Layout.{make_state}
use Rattle.gate.specs.Runs.{state_after, events_on}
use Rattle.records.specs.Records.{record_at, Asked, makes}
use Rattle.records.specs.Writing.{write_number, log_after, Narrow, unlisted, log_of, AllWritten, Alike}
use Rattle.records.specs.Writing.{Shared}
use Rattle.lines.specs.Lines.{ascii, line, line_of}
use Rattle.calllog.specs.Steps.{answered, step_on}
use Rattle.calllog.specs.Text.{output_from}

-- so the program answers a record as the gate answered the call that was written, and goes on from the same
-- state
abbrev pub PlaysBack : Type 0
PlaysBack =
    (s : State) (log : List ℕ) (at : ℕ) (a : Asked) → Narrow a → write_number log at a ≡ 0
    → step_on s (record_at (log_after log at a) at) ≡ answered s a

-- the lines of the gate's own answers to calls one after the other
unfoldable pub answer_lines : State → List Asked → List ℕ
answer_lines s [] = []
answer_lines s (a ∷ more) = line_of (answered s a).answer ++ answer_lines (answered s a).state more

-- "The trailer should record its own calls.": the program's text of that log is the answers that the gate
-- gave, and END
abbrev pub LogPlaysBack : Type 0
LogPlaysBack =
    (s : State) (made : List Asked) → AllWritten made
    → output_from s (log_of made) ≡ answer_lines s made ++ line (ascii "END")

-- a make with a list and the one without it share a record too (W-213), refused or not; in another profile
-- than 5 the gate makes the same state of both, and answers alike
pub record ListLeftOut (m : Making) : Type 0 where
  pub shared : (log : List ℕ) (at : ℕ) → Shared log at (makes m) (makes (unlisted m))
  pub made : (m.profile ≡ 5 → ⊥) → make_state m ≡ make_state (unlisted m)

abbrev pub ListsLeftOut : Type 0
ListsLeftOut = (m : Making) → ListLeftOut m

-- the answers alone
abbrev pub answers_on : State → List Call → List Answer
answers_on s cs = map (λ (e : Call × Answer). e.1) (events_on s cs)

-- two calls "from the same state, with the same calls after": "the answers are the same", and so is the state
-- reached
pub record SameAfter (s : State) (a b : Call) (behind : List Call) : Type 0 where
  pub answers : answers_on s (a ∷ behind) ≡ answers_on s (b ∷ behind)
  pub state : state_after s (a ∷ behind) ≡ state_after s (b ∷ behind)

-- a good sample by words and the one by its count, which is what is written
abbrev pub CountAnswersAlike : Type 0
CountAnswersAlike =
    (s : State) (stamp probes : ℕ) (ws : List ℕ) → good_words probes ws ≡ true → (behind : List Call)
    → SameAfter s (words stamp probes ws) (count stamp (busy_of ws probes) probes) behind

-- two good ones with the same counts and stamp
abbrev pub AlikeAnswerAlike : Type 0
AlikeAnswerAlike =
    (s : State) (stamp probes : ℕ) (ws ws' : List ℕ) → Alike probes ws ws' → (behind : List Call)
    → SameAfter s (words stamp probes ws) (words stamp probes ws') behind
