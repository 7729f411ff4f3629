-- CLOSED, asked again: a sound state's polls read as its view's.
use Prim.Native.Nat.{ℕ, ◌+◌, ◌-◌, ◌%◌, ◌≤◌, ◌<◌}
use mathlib.Core.Path.{◌≡◌, refl, ap}
use mathlib.Core.Bool.{cond}
use mathlib.Core.List.{[], ◌∷◌, map}
use lib.Dec.{leb}
use borrow.Author.Tests.{lt-ltb}
use Rattle.machine.specs.Levels.{no_levels}
use Rattle.machine.specs.Loads.{no_loads}
use Rattle.machine.specs.Moves.{reaches}
use Rattle.control.specs.Control.{control_of, fresh_tuning}
use Rattle.model.specs.declared.Packet.{Packet}
use Rattle.model.specs.declared.Answer.TheVariants.{Sent, Closed}
use Rattle.model.specs.Packets.{chosen}
use Rattle.model.specs.Fours.{Four, four}
use Rattle.model.specs.Queues.{choice}
use Rattle.model.specs.Calls.{poll}
use Rattle.model.specs.State.{status_from}
use Rattle.model.proofs.Computing.{of_runs}
use Rattle.model.proofs.Again.{states_asked_again}
use Rattle.model.proofs.Again as model
use Rattle.ledger.specs.Layout as ledger
use Rattle.waiting.specs.Layout as waiting
use Rattle.gate.specs.declared.State.{State}
use Rattle.gate.specs.declared.Outcome.{Outcome}
use Rattle.gate.specs.Layout.{view_of, state_of, sound_state, call_on}
use Rattle.gate.specs.Again.{ClosedAskedAgain}
use Rattle.gate.proofs.Runs.{call_reads, unsound_gets_nine}

pub closed-asked_again : ClosedAskedAgain
closed-asked_again =
    states_asked_again view_of sound_state (λ (s : State) (stamp : ℕ). (call_on s (poll stamp)).state)
    (λ (s : State) (stamp : ℕ). (call_on s (poll stamp)).answer) (λ s stamp e. call_reads s (poll stamp) e)
    (λ s stamp e. ap (λ (o : Outcome). o.answer) (unsound_gets_nine s (poll stamp) e)) model.closed-asked_again

-- the same in numbers: a host that polls twice, d µs apart, and the packet that goes next
told_twice : (s : State) (stamp n d : ℕ) → stamp < 4294967296 → (call_on s (poll stamp)).answer ≡ Closed n → d < 2147483648
    → (call_on s (poll stamp)).state.head.clock.time + d ≤ 1000000000000000
    → (p : Packet) × (others : Four Packet) × (choice (view_of (call_on s (poll stamp)).state).waiting ≡ chosen p others)
    × ((call_on s (poll stamp)).state.head.clock.time + d - p.arrival < p.lifetime
    → (call_on (call_on s (poll stamp)).state (poll ((stamp + d) % 4294967296))).answer
    ≡ cond (leb n d) (Sent p) (Closed (n - d)))
told_twice s stamp n d a r b c =
    let k = closed-asked_again s stamp n a r in
    (k.packet, k.others, k.chosen_next, λ u. k.again d b c (lt-ltb _ _ u))

-- such a state, computed: a packet of 1,000 µs has gone, one more waits in queue 2, and the stamps pass 2^32 between
-- the two polls
abbrev waits : Packet
waits = record { id = 2; priority = 2; ontime = 1; lifetime = 60000000; arrival = 0 }

abbrev shut : State
shut =
    state_of
    (status_from 1 0 (record { time = 0; stamp = 4294967295 }) (control_of 1 fresh_tuning no_levels no_loads)
    (record { at = 0; ontime = 1000; admitted = 1 }) (record { at = 0; ontime = 1000 } ∷ [])
    (record { accepted = 2; sent = 1; expired = 0; displaced = 0 }) (four [] [] (waits ∷ []) []))

closed_then_asked :
    ((call_on shut (poll 4294967295)).answer ≡ Closed 101000)
    × (map (λ (later : ℕ). (call_on (call_on shut (poll 4294967295)).state (poll later)).answer) (100998 ∷ 100999 ∷ [])
    ≡ Closed 1 ∷ Sent waits ∷ [])
unfolding of_runs waiting.triples waiting.words_of waiting.packed waiting.flat waiting.queues waiting.laid waiting.four_of
    waiting.rows_for waiting.tidy reaches ledger.packed ledger.tidy sound_state call_on
closed_then_asked = (refl, refl)
