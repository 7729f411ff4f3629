-- What each step of a call is given and what it leaves: what refuses a call, the clock moved, the expired
-- gone, what a sample steers, a packet that joins and one that is admitted (document 01, "State and calls").
use Rattle.std.specs.Prelude.{ℕ, ◌+◌, ◌-◌, ◌≤◌, ◌<◌, ◌≡◌, Bool, true, cond, ◌&&◌, List, [], ◌∷◌, ◌++◌, leb}
use Rattle.std.specs.Prelude.{eqb, length, drop}
use Rattle.rules.specs.Refusals.{Check, check}
use Rattle.rules.specs.Samples.{bad_count}
use Rattle.rules.specs.Profiles.{profile3, most_offers, room}
use Rattle.rules.specs.Clock.{end_of_time}
use Rattle.machine.specs.Levels.{wait_at, listed}
use Rattle.machine.specs.Loads.{loads_of}
use Rattle.machine.specs.Loads as held
use Rattle.machine.specs.Moves.{level_after}
use Rattle.control.specs.declared.Tuning.{Tuning}
use Rattle.control.specs.Control.{tuned}
use Rattle.control.specs.Wait.{closed_with}
use Rattle.model.specs.declared.Clock.{Clock}
use Rattle.model.specs.declared.Last.{Last}
use Rattle.model.specs.declared.Counts.{Counts}
use Rattle.model.specs.declared.Offer.{Offer}
use Rattle.model.specs.declared.Packet.{Packet}
use Rattle.model.specs.declared.Answer.{Answer}
use Rattle.model.specs.declared.Admission.{Admission}
use Rattle.model.specs.Packets.{packet_of, without_expired, at_back}
use Rattle.model.specs.Fours.{Four, each, column, change, how_many}
use Rattle.model.specs.Queues.{in_queues, choice}
use Rattle.model.specs.Ledger.{places, most_air, young, air_of, allowed_from}
use Rattle.model.specs.State.{sound}
use Rattle.model.specs.Effects.{Result, stepped, more_expired, one_accepted, one_sent, one_displaced, polled}
use Rattle.model.specs.Gate.{number_checks, room_checks, clock_checks}
use Rattle.ledger.specs.declared.Ledger.{Ledger}
use Rattle.ledger.specs.Layout as ledger
use Rattle.checks.specs.declared.Request.{Request}
use Rattle.checks.specs.declared.Request.TheVariants.{Count, Offered, Poll}
use Rattle.checks.specs.Checks.{left_at}
use Rattle.waiting.specs.Layout.{Rows, rows, Sized, Held, queues, queue_of, waiting_in, rows_for}
use Rattle.gate.specs.declared.Head.{Head}
use Rattle.gate.specs.declared.State.{State}
use Rattle.gate.specs.declared.Outcome.{Outcome}
use Rattle.gate.specs.Layout.{state_with, rows_in, view_of, state_of, LaidOut, outcome}

-- how many of a priority are not expired at a time
abbrev pub live_of : Four Packet → (priority time : ℕ) → ℕ
live_of q priority time = length (column priority (each (without_expired time) q))

-- "Number 8 is given only by a gate made in the old way" (document 02, W-205)
abbrev pub full_in_old_way : Head → Four Packet → (priority time : ℕ) → Bool
full_in_old_way h q priority time = eqb h.oldway 1 && leb room (live_of q priority time)

-- 5, 6, 7, then 8, then 11: what refuses an offer at a time
abbrev pub offer_checks : Head → Four Packet → Offer → (time : ℕ) → List Check
offer_checks h q o time =
    number_checks h.profile o ++ room_checks h.oldway (live_of q o.priority time) h.counts.accepted

-- a request's own checks
abbrev pub request_checks : Head → Four Packet → Request → (time : ℕ) → List Check
request_checks h q (Count busy probes) time = check 4 (bad_count busy probes) ∷ []
request_checks h q (Offered o) time = offer_checks h q o time
request_checks h q Poll time = []

-- "Checks run 9, 2, 3, then ..": those of a call on a sound state
abbrev pub refusals : Head → Four Packet → Request → (stamp : ℕ) → List Check
refusals h q r stamp =
    clock_checks true h.clock stamp (request_checks h q r (stepped h.clock stamp).time)

-- a state laid out from a sound view, the rows of its queues long enough
pub record Settled (s : State) : Type 0 where
  pub queues : Sized 4 (rows_in s)
  pub tight : LaidOut s
  pub judged_sound : sound (view_of s) ≡ true

-- a head with another clock, last admission, counts and number of admissions
abbrev pub head_with : Head → Clock → Last → Counts → (admissions : ℕ) → Head
head_with h clock last counts admissions =
    record {
      clock = clock;
      last = last;
      counts = counts;
      tuning = h.tuning;
      profile = h.profile;
      oldway = h.oldway;
      live = h.live;
      admissions = admissions;
      loads = h.loads;
      levels = h.levels;
      calm = h.calm;
    }

-- and with another tuning and number of loads
abbrev pub head_steered : Head → Tuning → (loads : ℕ) → Head
head_steered h tuning loads =
    record {
      clock = h.clock;
      last = h.last;
      counts = h.counts;
      tuning = tuning;
      profile = h.profile;
      oldway = h.oldway;
      live = h.live;
      admissions = h.admissions;
      loads = loads;
      levels = h.levels;
      calm = h.calm;
    }

-- a head's ledger, and its admissions
abbrev pub ledger_for : Head → (air : List ℕ) → Ledger
ledger_for h air = ledger.ledger_of h.admissions air

abbrev pub admissions_in : Head → (air : List ℕ) → List Admission
admissions_in h air = ledger.items h.last.at (ledger_for h air)

-- "first moves the clock"; the ledger without those that have aged
pub record Advanceable (h : Head) (air : List ℕ) : Type 0 where
  pub time : h.clock.time ≤ end_of_time
  pub tight : ledger.Packed h.last.at (ledger_for h air)
  pub ordered : ledger.InOrder (admissions_in h air)

pub record Advanced (h : Head) (stamp : ℕ) (air : List ℕ) (h' : Head) (air' : List ℕ) : Type 0 where
  pub head : h' ≡ head_with h (stepped h.clock stamp) h.last h.counts h'.admissions
  pub ledger :
      ledger_for h' air'
      ≡ ledger.packed h.last.at (young (stepped h.clock stamp).time (admissions_in h air))

-- "then removes every expired packet"
abbrev pub still_there : Head → Rows → Four Packet
still_there h r = each (without_expired h.clock.time) (waiting_in r)

pub record Clearable (h : Head) (r : Rows) : Type 0 where
  pub held : Held r
  pub expired : h.counts.expired ≤ most_offers

pub record Cleared (h : Head) (r : Rows) (h' : Head) (r' : Rows) : Type 0 where
  pub head :
      h'
      ≡ head_with h h.clock h.last
      (more_expired h.counts (how_many (waiting_in r) - how_many (still_there h r))) h.admissions
  pub rows : r' ≡ rows_for (still_there h r)

-- what a load steers: in profile 5 it is noted, and the level follows the loads as noted
abbrev pub noted_with : Head → (slots : List ℕ) → (load : ℕ) → List ℕ
noted_with h slots load = held.noted (held.loads (loads_of h.loads slots)) load

pub record Steered (h : Head) (load : ℕ) (above slots : List ℕ) (h' : Head) (slots' : List ℕ) : Type 0 where
  pub head :
      h'
      ≡ head_steered h
      (tuned h.profile h.tuning
      (level_after (listed h.levels above) (noted_with h slots load) h.tuning.level) load)
      h'.loads
  pub noted :
      loads_of h'.loads slots'
      ≡ cond (eqb h.profile 5) (held.packed (noted_with h slots load)) (loads_of h.loads slots)

-- "where five unexpired packets wait, the front one leaves" (document 02, W-205), once the expired are gone
abbrev pub has_five : (priority : ℕ) → Rows → Bool
has_five priority r = leb room (length (column priority (waiting_in r)))

abbrev pub with_room : (priority : ℕ) → Rows → Four Packet
with_room priority r =
    cond (has_five priority r) (change priority (drop 1) (waiting_in r)) (waiting_in r)

pub record Freed (k : ℕ) (r : Rows) (n : ℕ) (r' : Rows) : Type 0 where
  pub held : Held r'
  pub free : length (queue_of (queues r') k) < room
  pub gone : n ≡ cond (has_five k r) 1 0
  pub left : waiting_in r' ≡ with_room k r

-- "An offer then joins the back of its priority's queue"
pub record Joinable (h : Head) (r : Rows) (o : Offer) : Type 0 where
  pub held : Held r
  pub queue : o.priority < 4
  pub accepted : h.counts.accepted ≤ most_offers
  pub displaced : h.counts.displaced ≤ most_offers

abbrev pub counts_joined : (full : Bool) → Counts → Counts
counts_joined full c = cond full (one_displaced (one_accepted c)) (one_accepted c)

pub record Joined (h : Head) (o : Offer) (r : Rows) (h' : Head) (r' : Rows) : Type 0 where
  pub head :
      h'
      ≡ head_with h h.clock h.last (counts_joined (has_five o.priority r) h.counts) h.admissions
  pub rows :
      r'
      ≡ rows_for (change o.priority (at_back (packet_of o h.clock.time)) (with_room o.priority r))

-- a ledger whose air time can be told
pub record Noting (base : ℕ) (l : Ledger) : Type 0 where
  pub few : l.len ≤ places
  pub air : air_of (ledger.items base l) ≤ most_air
  pub in_good_time : ledger.Timely (ledger.items base l)

-- a last admission that is past, with an on-time that the wait's arithmetic takes
pub record Lasting (h : Head) : Type 0 where
  pub past : h.last.at ≤ h.clock.time
  pub ontime : h.last.ontime ≤ profile3.limits.ontime

-- what is left of the wait, and until the air allows a packet
abbrev pub wait_for : Head → (waits : List ℕ) → ℕ
wait_for h waits =
    left_at
    (closed_with h.profile h.tuning (wait_at h.calm (listed h.levels waits) h.tuning.level)
    h.last.ontime)
    h.last h.clock.time

abbrev pub air_for : Head → (air : List ℕ) → (ontime : ℕ) → ℕ
air_for h air ontime = allowed_from ontime h.clock.time (admissions_in h air) - h.clock.time

-- the front packet of a queue is admitted: it leaves, and is the last in the ledger, which has room for it
pub record Admissible (h : Head) (r : Rows) (air : List ℕ) (k : ℕ) : Type 0 where
  pub held : Held r
  pub queue : k < 4
  pub tight : ledger.Packed h.last.at (ledger_for h air)
  pub room : h.admissions < places
  pub past : h.last.at ≤ h.clock.time
  pub young : young h.clock.time (admissions_in h air) ≡ admissions_in h air
  pub sent : h.counts.sent ≤ most_offers

pub record Admitted
    (h : Head) (k ontime : ℕ) (r : Rows) (air : List ℕ) (h' : Head) (r' : Rows) (air' : List ℕ) : Type 0 where
  pub head :
      h'
      ≡ head_with h h.clock (record { at = h.clock.time; ontime = ontime; admitted = 1 })
      (one_sent h.counts) (h.admissions + 1)
  pub ledger :
      ledger_for h' air'
      ≡ ledger.packed h.clock.time
      (admissions_in h air ++ (ledger.admission h.clock.time ontime ∷ []))
  pub rows : r' ≡ rows_for (change k (drop 1) (waiting_in r))

-- a poll of a state whose clock has moved and whose expired packets are gone, laid out
abbrev pub polled_in : State → Result in_queues
polled_in s = polled (view_of s) (choice (waiting_in (rows_in s)))

abbrev pub polled_on : State → Outcome
polled_on s = outcome (state_of (polled_in s).view) (polled_in s).answer

-- such a state's head and rows, with the loads and the thresholds, which a poll does not look at; what it
-- leaves is sound
pub record Servable (h : Head) (words came air waits : List ℕ) : Type 0 where
  pub loads : List ℕ
  pub above : List ℕ
  pub settled : Settled (state_with h words came air loads above waits)
  pub live : still_there h (rows words came) ≡ waiting_in (rows words came)
  pub kept : sound (polled_in (state_with h words came air loads above waits)).view ≡ true

abbrev pub Served :
    Head → (words came air waits : List ℕ) → Head → (words' came' air' : List ℕ) → Answer → Type 0
Served h words came air waits h' words' came' air' answer =
    (g : Servable h words came air waits)
    → outcome (state_with h' words' came' air' g.loads g.above waits) answer
    ≡ polled_on (state_with h words came air g.loads g.above waits)
