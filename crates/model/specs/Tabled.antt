-- "gates with the table and with the formula answer alike on every input" (document 02, W-210). The gate in
-- Gate works profile 4's factor out by the formula. Here is one that reads it from the table. A poll alone
-- asks for the wait, so the other calls and make are the same.
use Rattle.std.specs.Prelude.{ℕ, ◌+◌, ◌-◌, max, ◌≡◌, Bool, true, cond, not, ◌&&◌, List, [], ◌∷◌, ltb, eqb}
use Rattle.rules.specs.Refusals.{first_of}
use Rattle.rules.specs.Wait.{start_of}
use Rattle.rules.specs.Table.{table_wait}
use Rattle.control.specs.Control.{Control, sound_control}
use Rattle.control.specs.Wait.{wait_of}
use Rattle.model.specs.declared.Answer.{Answer}
use Rattle.model.specs.declared.Answer.TheVariants.{Sent, Idle, Closed}
use Rattle.model.specs.Packets.{Chosen, nothing, chosen, Holding}
use Rattle.model.specs.Calls.{Call, words, count, offer, poll}
use Rattle.model.specs.Ledger.{air_allows}
use Rattle.model.specs.State.{Status}
use Rattle.model.specs.Effects.{Result, result, refreshed, since_last, air_left, admits}
use Rattle.model.specs.Gate.{checks, unless_refused, call}
use Rattle.model.specs.Claims.{view_after, events}

-- the wait of a control, with the table in profile 4
unfoldable pub tabled_wait_of : Control → (ontime : ℕ) → ℕ
tabled_wait_of k ontime = cond (eqb k.profile 4) (table_wait ontime k.tuning.latest) (wait_of k ontime)

-- as closed_for
abbrev pub tabled_closed_for : {h : Holding} → Status h → ℕ
tabled_closed_for v =
    start_of v.control.profile v.last.ontime + tabled_wait_of v.control v.last.ontime

-- as closed
unfoldable pub tabled_closed : {h : Holding} → Status h → Bool
tabled_closed v = eqb v.last.admitted 1 && ltb (since_last v) (tabled_closed_for v)

-- as polled
unfoldable pub tabled_polled : {h : Holding} → Status h → Chosen h.Held → Result h
tabled_polled v nothing = result v Idle
tabled_polled v (chosen p left) =
    cond (not (tabled_closed v) && air_allows p.ontime v.ledger) (result (admits v p left) (Sent p))
    (result v (Closed (max (cond (tabled_closed v) (tabled_closed_for v - since_last v) 0) (air_left v p))))

-- a call of the gate with the table
unfoldable pub tabled_call : {h : Holding} → Status h → Call → Result h
tabled_call v (words stamp probes ws) = call v (words stamp probes ws)
tabled_call v (count stamp busy probes) = call v (count stamp busy probes)
tabled_call v (offer stamp o) = call v (offer stamp o)
tabled_call {h} v (poll stamp) =
    unless_refused (first_of (checks v (poll stamp))) v
    (tabled_polled (refreshed v stamp) (h.next (refreshed v stamp).waiting))

-- its state after a list of calls
unfoldable pub tabled_after : {h : Holding} → Status h → List Call → Status h
tabled_after v [] = v
tabled_after v (c ∷ cs) = tabled_after (tabled_call v c).view cs

-- and each call with its answer
unfoldable pub tabled_events : {h : Holding} → Status h → List Call → List (Call × Answer)
tabled_events v [] = []
tabled_events v (c ∷ cs) = (c, (tabled_call v c).answer) ∷ tabled_events (tabled_call v c).view cs

-- gates with the table and with the formula are alike: in every wait of a sound control; in every call, on
-- whatever state, sound or not; in every run, from whatever state. However packets wait
pub record GatesAlike : Type 1 where
  pub waits : (k : Control) (ontime : ℕ) → sound_control k ≡ true → tabled_wait_of k ontime ≡ wait_of k ontime
  pub calls : {h : Holding} (v : Status h) (c : Call) → tabled_call v c ≡ call v c
  pub runs : {h : Holding} (v : Status h) (cs : List Call)
      → (tabled_after v cs ≡ view_after v cs) × (tabled_events v cs ≡ events v cs)
