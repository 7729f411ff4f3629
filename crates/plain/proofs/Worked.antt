-- Profile 5, and CLOSED asked again, on states as the plain engine holds them (document 02, W-213, W-207): the definitions run,
-- and each side computes to the other.
use Prim.Native.Nat.{ℕ}
use mathlib.Core.Path.{◌≡◌, refl}
use mathlib.Core.List.{[], ◌∷◌, ◌++◌, map}
use lib.ListN.{replicate}
use Rattle.packing.specs.Packing.{filled, all_are, padded}
use Rattle.machine.specs.declared.Levels.{Levels}
use Rattle.machine.specs.declared.Loads.{Loads}
use Rattle.machine.specs.Levels.{levels_of, no_levels}
use Rattle.machine.specs.Loads.{loads_of, no_loads}
use Rattle.control.specs.Control.{control_of, fresh_tuning}
use Rattle.model.specs.declared.Packet.{Packet}
use Rattle.model.specs.declared.Answer.TheVariants.{Ready, Sent, Idle, Closed, Refused}
use Rattle.model.specs.Calls.{count, poll, making_of}
use Rattle.model.specs.State.{status_from, blank}
use Rattle.model.proofs.Computing.{of_runs}
use Rattle.ledger.specs.Layout as ledger
use Rattle.line.specs.Line.{count_of, best, without, picked}
use Rattle.line.specs.Layout.{packed}
use Rattle.plain.specs.declared.State.{State}
use Rattle.plain.specs.Layout.{state_of, call_on, make_state, sound_state}

of_states : Type 0
unfolding of_runs filled all_are padded packed ledger.packed ledger.tidy count_of best without picked sound_state
    call_on make_state
of_states = Unit {0}

-- a list of two levels, reached at 20 % and 50 %, with waits of 60, 100 and 400 ms
two : Levels
two = levels_of 2 60000 (200000 ∷ 500000 ∷ replicate 6 0) (100000 ∷ 400000 ∷ replicate 6 0)

-- a list that breaks a rule is refused in profile 5 alone, after 1; another profile has none of it
made :
    map (λ (profile : ℕ). (make_state (making_of profile 0 no_levels 7)).answer) (1 ∷ 5 ∷ 6 ∷ [])
    ≡ Ready ∷ Refused 15 ∷ Refused 1 ∷ []
unfolding of_states
made = refl

list_left_out : map (λ (profile : ℕ). (make_state (making_of profile 0 two 7)).state.levels) (1 ∷ 5 ∷ []) ≡ no_levels ∷ two ∷ []
unfolding of_states two
list_left_out = refl

-- a state that nothing waits in, with loads and a list: what profile 5 needs no other profile may have
beside : (profile : ℕ) → Loads → Levels → State
beside profile held levels = state_of (blank 1 0 (record { time = 0; stamp = 7 }) (control_of profile fresh_tuning levels held))

-- a load; and one past the length, "unused room zero"
one : Loads
one = loads_of 1 (1 ∷ replicate 49 0)

litter : Loads
litter = loads_of 0 (replicate 49 0 ++ (1 ∷ []))

strays :
    map (λ (s : State). (call_on s (poll 8)).answer)
    (beside 1 no_loads no_levels
    ∷ beside 1 one no_levels
    ∷ beside 1 litter no_levels
    ∷ beside 1 no_loads two
    ∷ beside 5 no_loads two
    ∷ beside 5 one two
    ∷ beside 5 litter two
    ∷ beside 5 no_loads no_levels
    ∷ [])
    ≡ Idle ∷ Refused 9 ∷ Refused 9 ∷ Refused 9 ∷ Idle ∷ Idle ∷ Refused 9 ∷ Refused 9 ∷ []
unfolding of_states beside two one litter
strays = refl

-- a sample notes its load in profile 5 and in no other
noting : map (λ (profile : ℕ). (call_on (beside profile no_loads no_levels) (count 7 1000 1000)).state.loads) (1 ∷ 3 ∷ 4 ∷ [])
    ≡ no_loads ∷ no_loads ∷ no_loads ∷ []
unfolding of_states beside
noting = refl

noting_5 : (call_on (beside 5 one two) (count 7 1000 1000)).state.loads ≡ loads_of 2 (1 ∷ 1000000 ∷ replicate 48 0)
unfolding of_states beside two one
noting_5 = refl

abbrev warning : Packet
warning = record { id = 2; priority = 0; ontime = 1; lifetime = 60000000; arrival = 0 }

-- "Ask again so many µs later, and the packet goes; ask a µs sooner, and it doesn't" (the label): a packet of 1,000 µs has gone,
-- one more waits, and the stamps pass 2^32 between the two polls
shut : State
shut =
    state_of
    (status_from 1 0 (record { time = 0; stamp = 4294967295 }) (control_of 1 fresh_tuning no_levels no_loads)
    (record { at = 0; ontime = 1000; admitted = 1 }) (record { at = 0; ontime = 1000 } ∷ [])
    (record { accepted = 2; sent = 1; expired = 0; displaced = 0 }) (warning ∷ []))

closed_then_asked :
    ((call_on shut (poll 4294967295)).answer ≡ Closed 101000)
    × (map (λ (later : ℕ). (call_on (call_on shut (poll 4294967295)).state (poll later)).answer) (100998 ∷ 100999 ∷ [])
    ≡ Closed 1 ∷ Sent warning ∷ [])
unfolding of_states shut
closed_then_asked = (refl, refl)
