-- Demands 1 to 3 of the states that the code holds, from their proofs, on states and a run that meet what they ask: one that says
-- less fails here, and one whose hypothesis nothing meets.
use Prim.Native.Nat.{ℕ, ◌+◌, ◌≤◌}
use mathlib.Core.Path.{◌≡◌, refl, ap, sym}
use mathlib.Core.List.{List, [], ◌∷◌}
use native.Mathlib.Omega.{arith}
use lib.ListN.{length}
use Rattle.rules.proofs.Cases.{clash}
use Rattle.machine.specs.Levels.{no_levels}
use Rattle.model.specs.declared.Packet.{Packet}
use Rattle.model.specs.declared.Answer.TheVariants.{Sent, Refused}
use Rattle.model.specs.Calls.{Call, offer, poll, Making, making_of}
use Rattle.model.specs.State.{not_live}
use Rattle.model.specs.Journal.{Entry, Journal, at_poll, top, air_in}
use Rattle.model.proofs.Computing.{of_runs}
use Rattle.ledger.specs.Layout as ledger
use Rattle.waiting.specs.Layout as waiting
use Rattle.gate.specs.declared.State.{State}
use Rattle.gate.specs.Layout.{state_of, sound_state, outcome, call_on, make_state}
use Rattle.gate.specs.Runs.{state_after, events_on, journal_on, StateRun}
use Rattle.gate.proofs.Runs.{refused_unchanged, unsound_gets_nine, make_runs}

of_states : Type 0
unfolding of_runs waiting.triples waiting.words_of waiting.packed waiting.flat waiting.queues waiting.laid waiting.four_of
    waiting.rows_for waiting.tidy ledger.packed ledger.tidy sound_state call_on make_state state_after events_on
of_states = Unit {0}

-- a make of profile 1, a packet that goes at once, and another that waits
abbrev made : Making
made = making_of 1 0 no_levels 7

abbrev offered : (id : ℕ) → Call
offered id = offer 7 (record { id = id; priority = 0; ontime = 400; lifetime = 60000000 })

abbrev two : List Call
two = offered 1 ∷ poll 7 ∷ offered 2 ∷ []

abbrev reached : State
reached = state_after (make_state made).state two

abbrev book : Journal
book = journal_on made (make_state made).state two

-- "A refusal hands back the given state unchanged": a poll whose clock goes back
unchanged : (call_on reached (poll 6)).state ≡ reached
unfolding of_states
unchanged = refused_unchanged reached (poll 6) refl

-- "Any other state is refused with 9.": the not live one
nine : call_on (state_of not_live) (poll 7) ≡ outcome (state_of not_live) (Refused 9)
unfolding of_states
nine = unsound_gets_nine (state_of not_live) (poll 7) refl

-- "a make that isn't refused, then any list of" calls
run : StateRun made (make_state made).state two
unfolding of_states
run = make_runs made refl two

thirty_ms : (from : ℕ) → air_in from (from + 1000000) book.admissions ≤ 30000
thirty_ms = run.claims.in_any_second

-- the floor: a poll 1,001,000 µs after the admission is not refused and finds the packet, so it goes, and it is the one on top
goes : (p : Packet) × ((call_on reached (poll 1001007)).answer ≡ Sent p)
unfolding of_states
goes = run.polls.floor 1001007 refl (λ none. clash (sym (ap length none))) (omega arith, tt)

abbrev second : Packet
second = record { id = 2; priority = 0; ontime = 400; lifetime = 60000000; arrival = 0 }

on_top : (l : Entry) × (top (at_poll book 1001007).columns ≡ l ∷ []) × (l.packet ≡ second)
unfolding of_states
on_top = run.polls.sent 1001007 second refl
