-- CLOSED, asked again: a sound state's polls read as those of the list that it says.
use Prim.Native.Nat.{ℕ, ◌+◌, ◌-◌, ◌%◌, ◌≤◌, ◌<◌}
use mathlib.Core.Path.{◌≡◌}
use mathlib.Core.Bool.{false, cond}
use mathlib.Core.List.{List}
use lib.Dec.{leb}
use borrow.Author.Tests.{lt-ltb}
use Rattle.model.specs.declared.Packet.{Packet}
use Rattle.model.specs.declared.Answer.TheVariants.{Sent, Closed, Refused}
use Rattle.model.specs.Packets.{chosen}
use Rattle.model.specs.Calls.{poll}
use Rattle.model.proofs.Again.{states_asked_again}
use Rattle.line.specs.Line.{picked}
use Rattle.line.specs.Layout.{items}
use Rattle.line.proofs.Again as line
use Rattle.plain.specs.declared.State.{State}
use Rattle.plain.specs.Layout.{view_of, sound_state, call_on}
use Rattle.plain.specs.Again.{ClosedAskedAgain}
use Rattle.plain.proofs.Runs.{call_reads}

unsound_gets_nine : (s : State) (stamp : ℕ) → sound_state s ≡ false → (call_on s (poll stamp)).answer ≡ Refused 9
unfolding call_on
unsound_gets_nine s stamp e = rw e

pub closed-asked_again : ClosedAskedAgain
closed-asked_again =
    states_asked_again view_of sound_state (λ (s : State) (stamp : ℕ). (call_on s (poll stamp)).state)
    (λ (s : State) (stamp : ℕ). (call_on s (poll stamp)).answer) (λ s stamp e. call_reads s (poll stamp) e) unsound_gets_nine
    line.closed-asked_again

-- the same in numbers: a host that polls twice, d µs apart, and the packet that goes next
told_twice : (s : State) (stamp n d : ℕ) → stamp < 4294967296 → (call_on s (poll stamp)).answer ≡ Closed n → d < 2147483648
    → (call_on s (poll stamp)).state.clock.time + d ≤ 1000000000000000
    → (p : Packet) × (others : List Packet) × (picked (items (call_on s (poll stamp)).state.line) ≡ chosen p others)
    × ((call_on s (poll stamp)).state.clock.time + d - p.arrival < p.lifetime
    → (call_on (call_on s (poll stamp)).state (poll ((stamp + d) % 4294967296))).answer
    ≡ cond (leb n d) (Sent p) (Closed (n - d)))
told_twice s stamp n d a r b c =
    let k = closed-asked_again s stamp n a r in
    (k.packet, k.others, k.chosen_next, λ u. k.again d b c (lt-ltb _ _ u))
