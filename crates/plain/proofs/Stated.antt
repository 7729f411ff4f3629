-- Demands 1 to 3 of the plain engine's states, from their proofs, on states and a run that meet what they ask: one that says less
-- fails here, and one whose hypothesis nothing meets.
use Prim.Native.Nat.{ℕ, ◌+◌, ◌≤◌}
use mathlib.Core.Path.{◌≡◌, refl, ap, sym}
use mathlib.Core.List.{List, [], ◌∷◌}
use native.Mathlib.Omega.{arith}
use lib.ListN.{length}
use Rattle.rules.specs.Refusals.{FirstHolds}
use Rattle.rules.proofs.Cases.{clash}
use Rattle.packing.specs.Packing.{filled, all_are, padded}
use Rattle.machine.specs.Levels.{no_levels}
use Rattle.model.specs.declared.Packet.{Packet}
use Rattle.model.specs.declared.Answer.TheVariants.{Sent, Refused}
use Rattle.model.specs.Calls.{offer, poll, Making, making_of}
use Rattle.model.specs.State.{not_live}
use Rattle.model.specs.Journal.{air_in}
use Rattle.model.proofs.Computing.{of_runs}
use Rattle.ledger.specs.Layout as ledger
use Rattle.line.specs.Line.{count_of, best, without, picked}
use Rattle.line.specs.Layout.{packed}
use Rattle.calllog.specs.Bursts.{Move, one}
use Rattle.plain.specs.declared.State.{State}
use Rattle.plain.specs.Layout.{state_of, sound_state, outcome, call_on, make_state}
use Rattle.plain.specs.Bursts.{moved_all, all_heard}
use Rattle.plain.specs.Refusals.{checks_on}
use Rattle.plain.specs.Runs.{journal_heard, SameRun}
use Rattle.plain.proofs.Refusals.{refused_unchanged, unsound_gets_nine, refused_exactly}
use Rattle.plain.proofs.Runs.{make_agrees}

of_states : Type 0
unfolding of_runs filled all_are padded packed ledger.packed ledger.tidy count_of best without picked sound_state call_on
    make_state
    moved_all all_heard
of_states = Unit {0}

-- a make of profile 1, a packet that goes at once, and another that waits
abbrev made : Making
made = making_of 1 0 no_levels 7

abbrev fresh : State
fresh = (make_state made).state

abbrev offered : (id : ℕ) → Move
offered id = one (offer 7 (record { id = id; priority = 0; ontime = 400; lifetime = 60000000 }))

abbrev two : List Move
two = offered 1 ∷ one (poll 7) ∷ offered 2 ∷ []

-- "A refusal hands back the given state unchanged": a poll whose clock goes back, which is refused with 2
unchanged : (call_on fresh (poll 6)).state ≡ fresh
unfolding of_states
unchanged = refused_unchanged fresh (poll 6) refl

by_the_clock : FirstHolds 2 (checks_on fresh (poll 6))
unfolding of_states
by_the_clock = (refused_exactly fresh (poll 6) 2).0 refl

-- "Any other state is refused with 9.": the not live one
nine : call_on (state_of not_live) (poll 7) ≡ outcome (state_of not_live) (Refused 9)
unfolding of_states
nine = unsound_gets_nine (state_of not_live) (poll 7) refl

-- "from fresh states of any profile": its run is the gate's, and demand 3 holds of it
run : SameRun made fresh two
unfolding of_states
run = (make_agrees made).runs refl two

thirty_ms : (from : ℕ) → air_in from (from + 1000000) (journal_heard made fresh two).admissions ≤ 30000
thirty_ms = run.claims.in_any_second

-- the floor: a poll 1,001,000 µs after the admission is not refused and finds the packet, so it goes
goes : (p : Packet) × ((call_on (moved_all fresh two) (poll 1001007)).answer ≡ Sent p)
unfolding of_states
goes = run.polls.floor 1001007 refl (λ none. clash (sym (ap length none))) (omega arith, tt)
