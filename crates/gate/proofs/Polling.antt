-- A poll: nothing waits, or the packet found waits for the wait or for the air, or it goes; and where it goes the ledger has
-- room, since the state that it leaves is sound.
use Prim.Native.Nat.{ℕ, ◌<◌, max}
use mathlib.Core.Path.{◌≡◌, ap, sym, ◌∙◌, subst}
use mathlib.Core.Bool.{true}
use mathlib.Core.List.{List}
use Rattle.std.specs.Prelude.{Option, Some, None}
use native.Mathlib.Omega.{arith}
use lib.ListN.{drop}
use Rattle.machine.specs.Loads.{loads_of}
use Rattle.control.specs.Control.{Steerable}
use Rattle.model.specs.declared.Packet.{Packet}
use Rattle.model.specs.declared.Answer.{Answer}
use Rattle.model.specs.declared.Answer.TheVariants.{Idle, Closed, Sent}
use Rattle.model.specs.Fours.{Four, change}
use Rattle.model.specs.Queues.{choice}
use Rattle.model.specs.Calls.{poll}
use Rattle.model.specs.Ledger.{places}
use Rattle.model.specs.State.{sound}
use Rattle.model.specs.Effects.{refreshed, wait_left, air_left, admits}
use Rattle.checks.proofs.Closing.{left_waits}
use Rattle.checks.proofs.Entry.{Passed, refreshed-sound}
use Rattle.checks.proofs.Polling.{idles, closes, sends, room_left, is_call, poll_keeps}
use Rattle.ledger.proofs.Settling.{list_length}
use Rattle.waiting.specs.declared.Cell.{Cell}
use Rattle.waiting.specs.declared.Found.{Found}
use Rattle.waiting.specs.Layout.{Rows, rows, Held, queues, packet_in, waiting_in, rows_for, found_from}
use Rattle.waiting.proofs.Meaning.{meant, InQueues, rows-alive, rows_waiting, chooses}
use Rattle.gate.specs.declared.Head.{Head}
use Rattle.gate.specs.declared.State.{State}
use Rattle.gate.specs.declared.Outcome.{Outcome}
use Rattle.gate.specs.Layout.{state_with, rows_in, view_of, state_of, sound_state, outcome, call_on}
use Rattle.gate.specs.Steps.{Settled, ledger_for, still_there, Noting, Lasting, wait_for, air_for, Admissible, Admitted}
use Rattle.gate.specs.Steps.{Advanced, Cleared, polled_in, polled_on, Servable, Served}
use Rattle.gate.proofs.Views.{engine, given_of, known}
use Rattle.gate.proofs.Moving.{assembled, refreshes, cleared_settled, none-expired}

-- where none is expired, what the search found is the model's choice
finds : (h : Head) (r : Rows) (f : Option Found) → Held r → still_there h r ≡ waiting_in r
    → f ≡ found_from h.clock.time 0 (queues r) → (choice (waiting_in r) ≡ meant (waiting_in r) f) × InQueues f
finds h r f k e g =
    let t = h.clock.time in
    chooses t r r f k (k.tight ∙ sym (rows_waiting r) ∙ ap rows_for (sym e) ∙ sym (rows-alive r t)) g

-- what is left of the wait and until the air allows it, of a state
module _ (s : State) (t : Settled s) where
  pub waitable : Steerable s.head.profile s.head.tuning
      × (Lasting s.head × Noting s.head.last.at (ledger_for s.head s.air))
  waitable =
      let k = known s t in
      (k.groups.control, (record { past = k.groups.last_past; ontime = k.groups.last_air }, k.noting))

  pub left_of_lem : (k : ℕ) (c : Cell) (n : ℕ) → n ≡ max (wait_for s.head s.waits) (air_for s.head s.air c.ontime)
      → n ≡ max (wait_left (view_of s)) (air_left (view_of s) (packet_in k c))
  left_of_lem k c n e =
      e ∙ ap (λ (x : ℕ). max x (air_for s.head s.air c.ontime)) (sym (left_waits (view_of s)))

  admissible : (k : ℕ) → k < 4 → s.head.admissions < places → Admissible s.head (rows_in s) s.air k
  admissible k b r =
      let n = known s t in
      record {
        held = n.held;
        queue = b;
        tight = n.ledger_tight;
        room = r;
        past = n.groups.last_past;
        young = n.groups.none-aged;
        sent = omega (arith, n.groups.sum, n.groups.most);
      }

  -- what an admission leaves
  leaves : (k : ℕ) (c : Cell) (h : Head) (words came air : List ℕ)
      → Admitted s.head k c.ontime (rows_in s) s.air h (rows words came) air
      → state_with h words came air s.loads s.above s.waits
      ≡ state_of (admits (view_of s) (packet_in k c) (change k (drop 1) (waiting_in (rows_in s))))
  leaves k c h words came air a =
      assembled a.head a.rows a.ledger (ap (λ (x : Head). loads_of x.loads s.loads) a.head)

-- what serving is given, and what it gives
module _ (h : Head) (words came air waits : List ℕ) (g : Servable h words came air waits) (f : Option Found)
    (q : f ≡ found_from h.clock.time 0 (queues (rows words came))) where
  abbrev served : State
  served = state_with h words came air g.loads g.above waits

  abbrev t : Settled served
  t = g.settled

  found : (choice (waiting_in (rows words came)) ≡ meant (waiting_in (rows words came)) f) × InQueues f
  found = finds h (rows words came) f (known served t).held g.live q

  -- what was found is the choice
  picked : (x : Option Found) → f ≡ x → choice (waiting_in (rows words came)) ≡ meant (waiting_in (rows words came)) x
  picked x z = found.0 ∙ ap (meant (waiting_in (rows words came))) z

  pub serves_none : f ≡ None → outcome served Idle ≡ polled_on served
  serves_none z = idles engine served t.tight t.judged_sound (picked None z)

  module _ (x : Found) (z : f ≡ Some x) where
    abbrev rest : Four Packet
    rest = change x.queue (drop 1) (waiting_in (rows words came))

    pub in_four : x.queue < 4
    in_four = subst InQueues z found.1

    module _ (n : ℕ) (m : n ≡ max (wait_for h waits) (air_for h air x.cell.ontime)) where
      left : n ≡ max (wait_left (view_of served)) (air_left (view_of served) (packet_in x.queue x.cell))
      left = left_of_lem served t x.queue x.cell n m

      pub serves_later : (n ≡ 0 → ⊥) → outcome served (Closed n) ≡ polled_on served
      serves_later y = closes engine served t.tight t.judged_sound (packet_in x.queue x.cell) rest (picked (Some x) z) n left y

      module _ (y : n ≡ 0) where
        pub may_admit : Admissible h (rows words came) air x.queue
        may_admit =
            let room =
            room_left engine served t.tight t.judged_sound (packet_in x.queue x.cell) rest (picked (Some x) z) n left y g.kept in
            let len = list_length h.last.at (ledger_for h air) (known served t).ledger_tight in
            admissible served t x.queue in_four (omega (arith, room, len))

        module _ (h' : Head) (words' came' air' : List ℕ)
            (a : Admitted h x.queue x.cell.ontime (rows words came) air h' (rows words' came') air') where
          abbrev then : State
          then = state_with h' words' came' air' g.loads g.above waits

          sent : outcome then (Sent (packet_in x.queue x.cell)) ≡ polled_on served
          sent =
              sends engine served t.tight t.judged_sound (packet_in x.queue x.cell) rest (picked (Some x) z) n left y then
              (leaves served t x.queue x.cell h' words' came' air' a)

          pub serves_now : (p : Packet) → p ≡ packet_in x.queue x.cell → outcome then (Sent p) ≡ polled_on served
          serves_now p w = ap (λ (q : Packet). outcome then (Sent q)) w ∙ sent

          pub sent_settled : Settled then
          sent_settled = given_of then (polled_in served).view (ap (λ (o : Outcome). o.state) sent) g.kept

-- the poll, from what its steps leave
module _ (given : State) (stamp : ℕ) (e : Passed engine given (poll stamp)) (h₁ h₂ : Head) (air words came : List ℕ)
    (a : Advanced given.head stamp given.air h₁ air) (c : Cleared h₁ (rows_in given) h₂ (rows words came)) where
  abbrev s : State
  s = state_with h₂ words came air given.loads given.above given.waits

  same : s ≡ state_of (refreshed (view_of given) stamp)
  same = refreshes given stamp h₁ h₂ air words came a c

  still_sound : sound (refreshed (view_of given) stamp) ≡ true
  still_sound = refreshed-sound engine given stamp e.0

  pub servable : Servable h₂ words came air given.waits
  servable =
      record {
        loads = given.loads;
        above = given.above;
        settled = cleared_settled given stamp h₁ h₂ air words came a c still_sound;
        live = none-expired given stamp h₁ h₂ air words came a c still_sound;
        kept = poll_keeps engine given s stamp e.0 same;
      }

  pub poll_served : (h : Head) (words' came' air' : List ℕ) (answer : Answer)
      → Served h₂ words came air given.waits h words' came' air' answer
      → outcome (state_with h words' came' air' given.loads given.above given.waits) answer
      ≡ call_on given (poll stamp)
  unfolding call_on sound_state servable
  poll_served h words' came' air' answer f = f servable ∙ is_call engine given s stamp e.0 same
