-- What an accepted call does (document 01, "The clock", "Samples", "Waiting and leaving").
use Rattle.std.specs.Prelude.{ℕ, ◌+◌, ◌-◌, max, Bool, cond, not, ◌&&◌, [], ◌∷◌, ◌++◌, leb, ltb, eqb}
use Rattle.rules.specs.Clock.{step_of}
use Rattle.rules.specs.Profiles.{room}
use Rattle.rules.specs.Samples.{busy_of, load_of}
use Rattle.control.specs.Control.{sampled}
use Rattle.control.specs.Wait.{closed_after}
use Rattle.model.specs.declared.Packet.{Packet}
use Rattle.model.specs.declared.Clock.{Clock}
use Rattle.model.specs.declared.Counts.{Counts}
use Rattle.model.specs.declared.Answer.{Answer}
use Rattle.model.specs.declared.Answer.TheVariants.{Taken, Sent, Idle, Closed}
use Rattle.model.specs.Packets.{packet_of, Chosen, nothing, chosen, Holding}
use Rattle.model.specs.Calls.{Call, words, count, offer, poll}
use Rattle.model.specs.Ledger.{young, air_allows, allowed_from}
use Rattle.model.specs.State.{Status, with_clock, with_control, with_last, with_ledger, with_counts}
use Rattle.model.specs.State.{with_waiting}

-- "Each call .. hands the next one back": the next state, and the answer
pub record Result (h : Holding) : Type 0 where
  pub view : Status h
  pub answer : Answer

-- the two side by side
abbrev pub result : {h : Holding} → Status h → Answer → Result h
result v a = record { view = v; answer = a }

-- "Running time grows by each step"
abbrev pub stepped : Clock → (stamp : ℕ) → Clock
stepped c stamp = record { time = c.time + step_of stamp c.stamp; stamp = stamp }

-- without the admissions "that have reached 1,000,000 µs of age" (document 02, W-207)
abbrev pub aged : {h : Holding} → Status h → Status h
aged v = with_ledger v (young v.clock.time v.ledger)

-- "moves the clock"; "Every accepted call, samples too, drops admissions" that have aged (document 02, W-207)
abbrev pub moved : {h : Holding} → Status h → (stamp : ℕ) → Status h
moved v stamp = aged (with_clock v (stepped v.clock stamp))

-- "A sample expires nothing."
abbrev pub sampled_by : {h : Holding} → Status h → (stamp busy probes : ℕ) → Status h
sampled_by v stamp busy probes = with_control (moved v stamp) (sampled v.control (load_of busy probes))

-- one more offer accepted, one more packet sent, some more expired (document 02, W-201), one more displaced
-- (W-205)
abbrev pub one_accepted : Counts → Counts
one_accepted c =
    record { accepted = c.accepted + 1; sent = c.sent; expired = c.expired; displaced = c.displaced }

abbrev pub one_sent : Counts → Counts
one_sent c =
    record { accepted = c.accepted; sent = c.sent + 1; expired = c.expired; displaced = c.displaced }

abbrev pub more_expired : Counts → ℕ → Counts
more_expired c n =
    record { accepted = c.accepted; sent = c.sent; expired = c.expired + n; displaced = c.displaced }

abbrev pub one_displaced : Counts → Counts
one_displaced c =
    record { accepted = c.accepted; sent = c.sent; expired = c.expired; displaced = c.displaced + 1 }

-- those that wait, without the expired
abbrev pub still_waiting : {h : Holding} → Status h → h.Held
still_waiting {h} v = h.expire v.clock.time v.waiting

-- how many are expired
abbrev pub expired_in : {h : Holding} → Status h → ℕ
expired_in {h} v = h.total v.waiting - h.total (still_waiting v)

-- "then removes every expired packet"; "an expiry counts at its removal" (document 02, W-201)
abbrev pub expired : {h : Holding} → Status h → Status h
expired v = with_counts (with_waiting v (still_waiting v)) (more_expired v.counts (expired_in v))

-- "An accepted offer or poll first moves the clock, then removes every expired packet."
abbrev pub refreshed : {h : Holding} → Status h → (stamp : ℕ) → Status h
refreshed v stamp = expired (moved v stamp)

-- "where five unexpired packets wait" of a priority (document 02, W-205), once the expired are removed
abbrev pub is_full : {h : Holding} → Status h → (priority : ℕ) → Bool
is_full {h} v priority = leb room (h.of_priority priority v.waiting)

-- "the front one leaves", and counts as displaced
abbrev pub displaced : {h : Holding} → Status h → (priority : ℕ) → Status h
displaced {h} v priority =
    with_counts (with_waiting v (h.spill priority v.waiting)) (one_displaced v.counts)

-- "where five unexpired packets wait, the front one leaves"; else all stay
abbrev pub room_made : {h : Holding} → Status h → (priority : ℕ) → Status h
room_made v priority = cond (is_full v priority) (displaced v priority) v

-- "An offer then joins the back of its priority's queue"
abbrev pub joined : {h : Holding} → Status h → Packet → Status h
joined {h} v p = with_counts (with_waiting v (h.join p v.waiting)) (one_accepted v.counts)

-- how long after the last admission the gate is closed: the wait is "taken afresh at each poll"
abbrev pub closed_for : {h : Holding} → Status h → ℕ
closed_for v = closed_after v.control v.last.ontime

-- the time "since that admission"
abbrev pub since_last : {h : Holding} → Status h → ℕ
since_last v = v.clock.time - v.last.at

-- "if something was admitted and less than the wait has passed since that admission"
unfoldable pub closed : {h : Holding} → Status h → Bool
closed v = eqb v.last.admitted 1 && ltb (since_last v) (closed_for v)

-- what is left of the wait
abbrev pub wait_left : {h : Holding} → Status h → ℕ
wait_left v = cond (closed v) (closed_for v - since_last v) 0

-- what is left until the air allows a packet (document 02, W-207)
abbrev pub air_left : {h : Holding} → Status h → Packet → ℕ
air_left v p = allowed_from p.ontime v.clock.time v.ledger - v.clock.time

-- "A packet is sent only if its on-time plus all on-times admitted in the 1,000,000 µs up to and including
-- now .. is at most 30,000" (document 02, W-207), and the wait is over
abbrev pub may_send : {h : Holding} → Status h → Packet → Bool
may_send v p = not (closed v) && air_allows p.ontime v.ledger

-- "which leaves its queue and is recorded as the last admission", the newest of the ledger
abbrev pub admits : {h : Holding} → Status h → Packet → h.Held → Status h
admits v p left =
    with_counts
    (with_ledger
    (with_last (with_waiting v left) (record { at = v.clock.time; ontime = p.ontime; admitted = 1 }))
    (v.ledger ++ (record { at = v.clock.time; ontime = p.ontime } ∷ [])))
    (one_sent v.counts)

-- "A poll answers": IDLE, else SENT, else CLOSED with "the smallest further wait after which that packet
-- would go" (document 02, W-207): the greater of the two
abbrev pub polled : {h : Holding} → Status h → Chosen h.Held → Result h
polled v nothing = result v Idle
polled v (chosen p left) =
    cond (may_send v p) (result (admits v p left) (Sent p))
    (result v (Closed (max (wait_left v) (air_left v p))))

-- what each call does that is not refused
unfoldable pub effect : {h : Holding} → Status h → Call → Result h
effect v (words stamp probes ws) = result (sampled_by v stamp (busy_of ws probes) probes) Taken
effect v (count stamp busy probes) = result (sampled_by v stamp busy probes) Taken
effect v (offer stamp o) =
    result
    (joined (room_made (refreshed v stamp) o.priority) (packet_of o (refreshed v stamp).clock.time))
    Taken
effect {h} v (poll stamp) = polled (refreshed v stamp) (h.next (refreshed v stamp).waiting)
