-- What is said of a log and of a burst, from the proofs, on samples, calls, records and blocks that meet what it asks: one that
-- says less fails here, and one whose hypothesis nothing meets.
use Prim.Native.Nat.{ℕ, ◌+◌, ◌≤◌}
use mathlib.Core.Path.{◌≡◌, refl}
use mathlib.Core.List.{List, [], ◌∷◌, ◌++◌, map}
use native.Mathlib.Omega.{arith}
use lib.ListN.{get_or, replicate, length-replicate}
use Rattle.rules.specs.Refusals.{first_of}
use Rattle.machine.specs.declared.Levels.{Levels}
use Rattle.machine.specs.Levels.{levels_of, no_levels}
use Rattle.model.specs.declared.Answer.{Answer}
use Rattle.model.specs.declared.Answer.TheVariants.{Refused}
use Rattle.model.specs.Calls.{Call, words, count, offer, poll, Making, making_of}
use Rattle.model.specs.Journal.{opened, journal_of, air_in}
use Rattle.gate.specs.declared.State.{State}
use Rattle.gate.specs.Layout.{outcome, make_state}
use Rattle.gate.specs.Runs.{state_after, events_on, checks_on}
use Rattle.records.specs.declared.Record.{Record}
use Rattle.records.specs.Records.{record_at, Asked, makes, calls}
use Rattle.records.specs.Writing.{little_endian, bytes_of, probes_field, record_of, argument_checks, write_number, log_after}
use Rattle.records.specs.Writing.{log_of, AllWritten}
use Rattle.records.proofs.Stated.{first_two, first_and_last, alike}
use Rattle.lines.specs.Lines.{ascii}
use Rattle.calllog.specs.Steps.{at_start, answered, step_on}
use Rattle.calllog.specs.Text.{reached_from, lines_from, output_from, output_of, block_bytes, turns, one_log, AllFull}
use Rattle.calllog.specs.Writing.{answer_lines}
use Rattle.calllog.specs.Bursts.{burst_state, burst_answers, offers_to, heard_to, one, burst, Move, all_heard}
use Rattle.calllog.proofs.Asking.{five_is_refused}
use Rattle.calllog.proofs.Alike.{lists_left_out, count_answers_alike, alike_answer_alike}
use Rattle.calllog.proofs.Reading.{plays_back, log_plays_back}
use Rattle.calllog.proofs.Pieces.{pieces}
use Rattle.calllog.proofs.Turns.{turns_are_the_program}
use Rattle.calllog.proofs.Bursting.{bursts_are_single_calls, runs_with_bursts}
use Rattle.calllog.proofs.Exactly.{bursts_are_exact}
use Rattle.calllog.proofs.Computing.{of_states, of_logs, of_bursts}

of_writes : Type 0
unfolding of_states little_endian bytes_of probes_field record_of argument_checks write_number log_after
of_writes = Unit {0}

abbrev answers_to : State → List Call → List Answer
answers_to s cs = map (λ (e : Call × Answer). e.1) (events_on s cs)

-- "from the same state, with the same calls after, the answers are the same": two different samples of 65 probes, two of which
-- are busy, and the one by their count
module _ (s : State) (stamp : ℕ) (behind : List Call) where
  two_alike :
      (answers_to s (words stamp 65 first_two ∷ behind) ≡ answers_to s (words stamp 65 first_and_last ∷ behind))
      × (state_after s (words stamp 65 first_two ∷ behind) ≡ state_after s (words stamp 65 first_and_last ∷ behind))
  two_alike =
      let same = alike_answer_alike s stamp 65 first_two first_and_last alike behind in (same.answers, same.state)

  counted_alike :
      (answers_to s (words stamp 65 first_two ∷ behind) ≡ answers_to s (count stamp 2 65 ∷ behind))
      × (state_after s (words stamp 65 first_two ∷ behind) ≡ state_after s (count stamp 2 65 ∷ behind))
  unfolding of_writes
  counted_alike = let same = count_answers_alike s stamp 65 first_two refl behind in (same.answers, same.state)

-- a make, a sample by words, an offer and a poll: none of them is refused by the writer
four : List Asked
four =
    makes (making_of 2 0 no_levels 5)
    ∷ calls (words 6 65 first_two)
    ∷ calls (offer 7 (record { id = 65541; priority = 1; ontime = 400; lifetime = 1000 }))
    ∷ calls (poll 8)
    ∷ []

all-written : AllWritten four
unfolding of_writes AllWritten four
all-written = (
  omega arith,
  (refl, (refl, (refl, tt))),
  (
    (omega arith, tt),
    (refl, tt),
    (
      (omega arith, omega arith),
      (refl, (refl, (refl, tt))),
      ((omega arith, tt), tt, tt),
    ),
  ),
)

-- "The trailer should record its own calls.": the program's text of their log is what the gate answered, and END
played_back : output_of (log_of four) ≡ ascii "READY\nTAKEN\nTAKEN\nSENT 65541\nEND\n"
unfolding of_writes of_logs four answer_lines
played_back = log_plays_back at_start four all-written

-- and each record of it, at whatever state and place, is answered as its call
poll_played : (s : State)
    → step_on s (record_at (log_after (replicate 19 255) 3 (calls (poll 8))) 3) ≡ answered s (calls (poll 8))
unfolding of_writes
poll_played s = plays_back s (replicate 19 255) 3 (calls (poll 8)) (omega arith, tt) refl

-- "there .. profile 5 is refused with 1" (W-213), and any other profile is made without a list
abbrev making : (profile : ℕ) → Record
making profile = record { kind = 0; priority = profile; ontime = 0; lifetime = 1; id = 0; stamp = 9 }

by_profile_lem : (s : State)
    → (step_on s (making 5) ≡ outcome at_start (Refused 1)) × (step_on s (making 4) ≡ make_state (making_of 4 1 no_levels 9))
by_profile_lem s = (
  (five_is_refused s (making 5) refl).five refl,
  (five_is_refused s (making 4) refl).others (λ z. omega arith),
)

one_level : Levels
one_level = levels_of 1 60000 (300000 ∷ replicate 7 0) (100000 ∷ replicate 7 0)

list_left_out : make_state (making_of 4 0 one_level 9) ≡ make_state (making_of 4 0 no_levels 9)
list_left_out = (lists_left_out (making_of 4 0 one_level 9)).made (λ z. omega arith)

-- a log of two polls and a byte, cut behind the second
polls : List ℕ
polls = replicate 32 3

in_pieces : (s : State) → output_from s (polls ++ (7 ∷ [])) ≡ lines_from s polls 2
    ++ output_from (reached_from s polls 2) (7 ∷ [])
unfolding polls
in_pieces s = pieces s polls (7 ∷ []) 2 refl

-- two full blocks of polls, and a poll and a byte behind them
full : List ℕ
full = replicate block_bytes 3

all_full_lem : AllFull (full ∷ full ∷ [])
unfolding AllFull full
all_full_lem = (length-replicate {A = ℕ} block_bytes 3, (length-replicate {A = ℕ} block_bytes 3, tt))

as_one_log : (s : State) → turns s (full ∷ full ∷ []) (replicate 17 3) ≡ output_from s (full ++ (full ++ replicate 17 3))
unfolding one_log
as_one_log s = turns_are_the_program s (full ∷ full ∷ []) (replicate 17 3) all_full_lem (omega arith)

-- a burst of an offer and a poll's record
records : List ℕ
records =
    (2 ∷ 1 ∷ 144 ∷ 1 ∷ 232 ∷ 3 ∷ 0 ∷ 0 ∷ 7 ∷ 0 ∷ 0 ∷ 0 ∷ 9 ∷ 0 ∷ 0 ∷ 0 ∷ [])
    ++ (3 ∷ 0 ∷ 0 ∷ 0 ∷ 0 ∷ 0 ∷ 0 ∷ 0 ∷ 0 ∷ 0 ∷ 0 ∷ 0 ∷ 9 ∷ 0 ∷ 0 ∷ 0 ∷ [])

single : Call
single = offer 9 (record { id = 7; priority = 1; ontime = 400; lifetime = 1000 })

-- "The final state and every answer equal those of the single calls in that order."; "a record of another kind gets 10"
as_single_calls : (s : State)
    → (burst_state s records (77 ∷ 78 ∷ []) ≡ state_after s (single ∷ []))
    × (heard_to records (burst_answers s records (77 ∷ 78 ∷ [])) 2 ≡ events_on s (single ∷ []))
    × (get_or (burst_answers s records (77 ∷ 78 ∷ [])) 1 0 ≡ 10)
unfolding of_logs of_bursts offers_to records single
as_single_calls s =
    let b = bursts_are_single_calls s records (77 ∷ 78 ∷ []) refl in (
      b.final,
      b.answers_alike,
      b.others 1 (omega arith) refl,
    )

-- and the byte of the offer is the number of its table
by_table : (s : State) → get_or (burst_answers s records (77 ∷ 78 ∷ [])) 0 0 ≡ first_of (checks_on s single)
unfolding of_logs of_bursts records single
by_table s = (bursts_are_exact s records (77 ∷ 78 ∷ [])).bytes refl 0 (omega arith)

-- a run with bursts in it: a make of profile 2, a burst, a poll, and a burst that has no room
abbrev made : Making
made = making_of 2 0 no_levels 5

abbrev moves : List Move
moves = burst records (77 ∷ 78 ∷ []) ∷ one (poll 9) ∷ burst records [] ∷ []

thirty_ms : (from : ℕ)
    → air_in from (from + 1000000) (journal_of (opened 5) (all_heard (make_state made).state moves)).admissions ≤ 30000
unfolding of_states
thirty_ms = (runs_with_bursts made moves refl).claims.in_any_second
