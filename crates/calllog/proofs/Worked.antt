-- Worked examples of document 01's call log, each computed from the definitions.
use Prim.Native.Nat.{ℕ}
use mathlib.Core.Path.{◌≡◌, refl}
use mathlib.Core.List.{List, [], ◌∷◌, ◌++◌, map}
use lib.ListN.{replicate}
use Rattle.machine.specs.Levels.{no_levels}
use Rattle.model.specs.declared.Answer.TheVariants.{Ready, Refused}
use Rattle.model.specs.Calls.{Call, offer, making_of}
use Rattle.gate.specs.declared.State.{State}
use Rattle.gate.specs.declared.Outcome.{Outcome}
use Rattle.gate.specs.Layout.{outcome, call_on, make_state}
use Rattle.records.specs.declared.Record.{Record}
use Rattle.records.specs.Records.{profile_in, asked_by}
use Rattle.records.proofs.Worked.{of_kind}
use Rattle.lines.specs.Lines.{ascii}
use Rattle.calllog.specs.Steps.{at_start, step_on}
use Rattle.calllog.specs.Text.{output_of, records_done, block_room}
use Rattle.calllog.specs.Bursts.{burst_number, burst_state, burst_answers}
use Rattle.calllog.proofs.Computing.{of_states, of_logs, of_bursts}

-- "A kind above 3 gets BAD-CALL": 10, and the state as it was
unknown_kind : (s : State) → step_on s (of_kind 4) ≡ outcome s (Refused 10)
unfolding step_on asked_by of_kind
unknown_kind s = refl

-- a make takes the place of whatever state there was, and a refused one leaves the not live state
made_anew : (s : State) → step_on s (of_kind 0) ≡ make_state (making_of 2 1 no_levels 9)
unfolding step_on profile_in asked_by of_kind
made_anew s = refl

-- a make's record; one that says 4 makes a gate of profile 4 (document 02, W-209)
making : (profile oldway : ℕ) → Record
making profile oldway = record { kind = 0; priority = profile; ontime = 0; lifetime = oldway; id = 0; stamp = 9 }

made_harmonised : (s : State) → (step_on s (making 4 0)).answer ≡ Ready
unfolding of_states of_logs making
made_harmonised s = refl

-- "there .. profile 5 is refused with 1" (W-213), in either way, and the state is the not live one; so is 6
refused_make : (s : State)
    → map (step_on s) (making 5 0 ∷ making 5 1 ∷ making 5 2 ∷ making 6 0 ∷ []) ≡ replicate 4 (outcome at_start (Refused 1))
unfolding of_states of_logs making
refused_make s = refl

-- "any other number is refused with 1" (document 02, W-205): a lifetime field of 2, and one that is 0 or 1 in its low byte
refused_way : (s : State)
    → (step_on s (making 1 2) ≡ outcome at_start (Refused 1)) × (step_on s (making 1 256) ≡ outcome at_start (Refused 1))
unfolding of_states of_logs making
refused_way s = (refl, refl)

-- "Before a successful kind 0, kinds 1 to 3 meet NO-STATE"
nine : Outcome
nine = outcome at_start (Refused 9)

before-make : map (λ (kind : ℕ). step_on at_start (of_kind kind)) (1 ∷ 2 ∷ 3 ∷ []) ≡ nine ∷ nine ∷ nine ∷ []
unfolding of_states of_logs of_kind nine
before-make = refl

-- records in their order: an unknown kind, a make, samples of 65,541 busy probes, of 2 of 3, and of 0 of 20,000, and three bytes
log : List ℕ
log =
    (9 ∷ 0 ∷ 0 ∷ 0 ∷ 0 ∷ 0 ∷ 0 ∷ 0 ∷ 0 ∷ 0 ∷ 0 ∷ 0 ∷ 0 ∷ 0 ∷ 0 ∷ 0 ∷ [])
    ++ (0 ∷ 1 ∷ 0 ∷ 0 ∷ 0 ∷ 0 ∷ 0 ∷ 0 ∷ 0 ∷ 0 ∷ 0 ∷ 0 ∷ 5 ∷ 0 ∷ 0 ∷ 0 ∷ [])
    ++ (1 ∷ 0 ∷ 0 ∷ 0 ∷ 0 ∷ 0 ∷ 0 ∷ 0 ∷ 5 ∷ 0 ∷ 1 ∷ 0 ∷ 6 ∷ 0 ∷ 0 ∷ 0 ∷ [])
    ++ (1 ∷ 0 ∷ 0 ∷ 0 ∷ 3 ∷ 0 ∷ 0 ∷ 0 ∷ 2 ∷ 0 ∷ 0 ∷ 0 ∷ 6 ∷ 0 ∷ 0 ∷ 0 ∷ [])
    ++ (1 ∷ 0 ∷ 0 ∷ 0 ∷ 32 ∷ 78 ∷ 0 ∷ 0 ∷ 0 ∷ 0 ∷ 0 ∷ 0 ∷ 6 ∷ 0 ∷ 0 ∷ 0 ∷ [])
    ++ (3 ∷ 0 ∷ 0 ∷ [])

output : output_of log ≡ ascii "REFUSED 10\nREADY\nREFUSED 4\nTAKEN\nREFUSED 4\nTORN\n"
unfolding log of_states of_logs
output = refl

-- a make of profile 4, a poll, and makes of 5 and of 4 again: READY of 4, and behind the refused one no state is left
log4 : List ℕ
log4 =
    (0 ∷ 4 ∷ 0 ∷ 0 ∷ 0 ∷ 0 ∷ 0 ∷ 0 ∷ 0 ∷ 0 ∷ 0 ∷ 0 ∷ 5 ∷ 0 ∷ 0 ∷ 0 ∷ [])
    ++ (3 ∷ 0 ∷ 0 ∷ 0 ∷ 0 ∷ 0 ∷ 0 ∷ 0 ∷ 0 ∷ 0 ∷ 0 ∷ 0 ∷ 6 ∷ 0 ∷ 0 ∷ 0 ∷ [])
    ++ (0 ∷ 5 ∷ 0 ∷ 0 ∷ 0 ∷ 0 ∷ 0 ∷ 0 ∷ 0 ∷ 0 ∷ 0 ∷ 0 ∷ 7 ∷ 0 ∷ 0 ∷ 0 ∷ [])
    ++ (3 ∷ 0 ∷ 0 ∷ 0 ∷ 0 ∷ 0 ∷ 0 ∷ 0 ∷ 0 ∷ 0 ∷ 0 ∷ 0 ∷ 8 ∷ 0 ∷ 0 ∷ 0 ∷ [])
    ++ (0 ∷ 4 ∷ 0 ∷ 0 ∷ 0 ∷ 0 ∷ 0 ∷ 0 ∷ 0 ∷ 0 ∷ 0 ∷ 0 ∷ 9 ∷ 0 ∷ 0 ∷ 0 ∷ [])

output4 : output_of log4 ≡ ascii "READY\nIDLE\nREFUSED 1\nREFUSED 9\nREADY\nEND\n"
unfolding log4 of_states of_logs
output4 = refl

-- a block does the whole records that it holds, as far as there is room for their lines
done :
    map (λ (bytes : ℕ). records_done bytes block_room) (0 ∷ 15 ∷ 16 ∷ 33 ∷ 65535 ∷ 65536 ∷ 65552 ∷ [])
    ≡ 0 ∷ 0 ∷ 1 ∷ 2 ∷ 4095 ∷ 4096 ∷ 4096 ∷ []
unfolding records_done
done = refl

-- a burst's numbers: 13 before 12, and neither where there is no record
burst_numbers :
    burst_number 15 0
    ∷ burst_number 17 0
    ∷ burst_number 16 0
    ∷ burst_number 32 1
    ∷ burst_number 32 2
    ∷ burst_number 32 9
    ∷ burst_number 0 0
    ∷ []
    ≡ 13 ∷ 13 ∷ 12 ∷ 12 ∷ 0 ∷ 0 ∷ 0 ∷ []
unfolding of_bursts
burst_numbers = refl

-- a fresh gate of profile 2 at stamp 5; an offer at 9, a poll's record, whose stamp 255 is not looked at, an offer at 8, and one
-- of priority 4 at 10
fresh2 : State
fresh2 = (make_state (making_of 2 0 no_levels 5)).state

four_records : List ℕ
four_records =
    (2 ∷ 1 ∷ 144 ∷ 1 ∷ 232 ∷ 3 ∷ 0 ∷ 0 ∷ 7 ∷ 0 ∷ 0 ∷ 0 ∷ 9 ∷ 0 ∷ 0 ∷ 0 ∷ [])
    ++ (3 ∷ 0 ∷ 0 ∷ 0 ∷ 0 ∷ 0 ∷ 0 ∷ 0 ∷ 0 ∷ 0 ∷ 0 ∷ 0 ∷ 255 ∷ 0 ∷ 0 ∷ 0 ∷ [])
    ++ (2 ∷ 1 ∷ 144 ∷ 1 ∷ 232 ∷ 3 ∷ 0 ∷ 0 ∷ 8 ∷ 0 ∷ 0 ∷ 0 ∷ 8 ∷ 0 ∷ 0 ∷ 0 ∷ [])
    ++ (2 ∷ 4 ∷ 144 ∷ 1 ∷ 232 ∷ 3 ∷ 0 ∷ 0 ∷ 9 ∷ 0 ∷ 0 ∷ 0 ∷ 10 ∷ 0 ∷ 0 ∷ 0 ∷ [])

first_offer : Call
first_offer = offer 9 (record { id = 7; priority = 1; ontime = 400; lifetime = 1000 })

-- "0 for TAKEN, else the refusal number; a record of another kind gets 10 and does nothing"; "Answer bytes past the last record
-- are not written."
burst_answers_lem : burst_answers fresh2 four_records (77 ∷ 78 ∷ 79 ∷ 80 ∷ 81 ∷ 82 ∷ []) ≡ 0 ∷ 10 ∷ 2 ∷ 5 ∷ 81 ∷ 82 ∷ []
unfolding of_states of_logs of_bursts fresh2 four_records
burst_answers_lem = refl

burst_state_lem : burst_state fresh2 four_records (77 ∷ 78 ∷ 79 ∷ 80 ∷ []) ≡ (call_on fresh2 first_offer).state
unfolding of_states of_logs of_bursts fresh2 four_records first_offer
burst_state_lem = refl

-- "Both leave state and answers unchanged."
burst_refused :
    (burst_state fresh2 four_records (77 ∷ 78 ∷ 79 ∷ []) ≡ fresh2)
    × (burst_answers fresh2 four_records (77 ∷ 78 ∷ 79 ∷ []) ≡ 77 ∷ 78 ∷ 79 ∷ [])
    × (burst_answers fresh2 (0 ∷ four_records) (77 ∷ 78 ∷ 79 ∷ 80 ∷ []) ≡ 77 ∷ 78 ∷ 79 ∷ 80 ∷ [])
unfolding of_states of_logs of_bursts fresh2 four_records
burst_refused = (refl, refl, refl)

-- "an unsound one shows only as 9 at each record of kind 2"
burst_unsound : burst_answers at_start four_records (0 ∷ 0 ∷ 0 ∷ 0 ∷ []) ≡ 9 ∷ 10 ∷ 9 ∷ 9 ∷ []
unfolding of_states of_logs of_bursts four_records
burst_unsound = refl
