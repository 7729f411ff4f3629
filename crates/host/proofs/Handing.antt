-- A call of the gate on what lies in a host's rows: the head is read there, and the next one kept there.
use Prim.Native.Nat.{ℕ}
use mathlib.Core.Path.{◌≡◌, ap, ◌∙◌}
use mathlib.Core.Bool.{true, false}
use mathlib.Core.List.{List}
use Rattle.rules.specs.Profiles.{within}
use Rattle.model.specs.declared.Answer.{Answer}
use Rattle.model.specs.declared.Reply.{Reply}
use Rattle.model.specs.Calls.{Call, plain_reply, reply_of}
use Rattle.gate.specs.declared.Head.{Head}
use Rattle.gate.specs.declared.State.{State}
use Rattle.gate.specs.declared.Outcome.{Outcome}
use Rattle.gate.specs.Layout.{state_with, sound_state, Given, outcome, call_on}
use Rattle.host.specs.Turns.{handed, handed_by, call_in, asked}

-- a kind that there isn't
pub unknown : (s : State) (r : Reply) (kind a b c d stamp : ℕ) → within 1 3 kind ≡ false → r ≡ plain_reply 5 10
    → handed s r ≡ handed_by (asked s kind a b c d stamp)
unfolding asked
unknown s r kind a b c d stamp w e = rw (w, e)

-- what a call leaves and answers, for a host
pub handed_on : (s s' : State) (answer : Answer) (r : Reply) (o : Outcome) → s' ≡ s → r ≡ reply_of answer
    → outcome s answer ≡ o → handed s' r ≡ handed_by o
handed_on s s' answer r o h p e =
    ap (λ (x : State). handed x r) h ∙ ap (handed s) p ∙ ap handed_by e

-- a call of a kind that there is, on the head that was read
pub known : (queues came air loads above waits : List ℕ) (head there : Head) → head ≡ there → (q : Call)
    (kind a b c d stamp : ℕ) → within 1 3 kind ≡ true → q ≡ call_in kind a b c d stamp
    → call_on (state_with head queues came air loads above waits) q
    ≡ asked (state_with there queues came air loads above waits) kind a b c d stamp
unfolding asked
known queues came air loads above waits head there h q kind a b c d stamp w e =
    rw (w, ← e) (ap (λ (x : Head). call_on (state_with x queues came air loads above waits) q) h)

-- a state that is not sound
pub unsound : (s : State) (r : Reply) (kind a b c d stamp : ℕ) → within 1 3 kind ≡ true → sound_state s ≡ false
    → r ≡ plain_reply 5 9 → handed s r ≡ handed_by (asked s kind a b c d stamp)
unfolding asked call_on
unsound s r kind a b c d stamp w u e = rw (w, u, e)

-- what was found sound there is so with the head that was read
pub given : (queues came air loads above waits : List ℕ) (head there : Head) → head ≡ there
    → Given (state_with there queues came air loads above waits) → Given (state_with head queues came air loads above waits)
given queues came air loads above waits head there h g = rw h g
