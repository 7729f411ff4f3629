-- The messages of a calm channel, how long a packet waits on it, and how soon it is so after a jam
-- (docs/LABEL.md, "On a calm channel").
use Rattle.std.specs.Prelude.{ℕ, suc, ◌+◌, ◌-◌, ◌*◌, ◌/◌, ◌≤◌, ◌<◌, max, ◌≡◌, true, cond, List, [], ◌∷◌}
use Rattle.std.specs.Prelude.{length}
use Rattle.rules.specs.Wait.{ceil_div}
use Rattle.control.specs.Owed.{second, quiet}
use Rattle.model.specs.declared.Offer.{Offer}
use Rattle.model.specs.declared.Answer.{Answer}
use Rattle.model.specs.declared.Answer.TheVariants.{Taken}
use Rattle.model.specs.Calls.{Call, offer, Making}
use Rattle.model.specs.Journal.{Journal, fed}
use Rattle.model.specs.Claims.{most_in_second}
use Rattle.model.specs.Delivery.{OfferedBy}
use Rattle.label.specs.Trailer.{Run, Answers, book_of, time_of, messages_in, ObeysFrom}
use Rattle.label.specs.Priorities.{Wait, with_offer, when_it_came, its, WaitsStill, before, meanwhile}
use Rattle.label.specs.Priorities.{ServedSince, waited}
use Rattle.label.specs.Calm.{accepted_load, loads_since, calm_floor, Calm, settled, profile_of, floor_of}
use Rattle.label.specs.Calm.{always_room}

-- so many packets of an on-time fit into a second
abbrev pub in_asecond : (ontime : ℕ) → ℕ
in_asecond ontime = most_in_second / ontime

-- what each message takes, at most: the calm floor and as long as the host is late; where the second may lack
-- room, a share of a second and of that, if it is more
abbrev pub calm_each : (profile floor ontime late : ℕ) → ℕ
calm_each profile floor ontime late =
    cond (always_room profile ontime) (floor + late)
    (max (floor + late) (ceil_div (second + late) (in_asecond ontime)))

-- and once, for what was sent before: a second where it may lack room
abbrev pub calm_once : (profile ontime : ℕ) → ℕ
calm_once profile ontime = cond (always_room profile ontime) 0 second

-- "(n + 1) x (Q + p) for n messages", or "1 s and (n + 1) x the longer of Q + p and a share of 1 s + p": of
-- a host that obeys CLOSED so late, and so of one that polls at least that often
abbrev pub CalmRate : Answers → Type 0
CalmRate by =
    (load samples ontime late : ℕ) (c : Calm by load samples ontime)
    → ObeysFrom by late (settled c) c.during
    → time_of by (settled c) c.during
    ≤ calm_once (profile_of c) ontime
    + suc (messages_in by (settled c) c.during) * calm_each (profile_of c) (floor_of c) ontime late

-- so many times so long are over before a time is
abbrev pub times_in : (time each : ℕ) → ℕ
times_in time each = (time - 1) / each

-- so many messages in a time, at least: by a calm floor, or by the floor that always holds if those are more
unfoldable pub messages_by : (profile floor ontime late time : ℕ) → ℕ
messages_by profile floor ontime late time =
    max (times_in time (quiet profile + late))
    (times_in (time - calm_once profile ontime) (calm_each profile floor ontime late))

abbrev pub calm_messages : Making → (load samples ontime late time : ℕ) → ℕ
calm_messages m load samples ontime late time =
    messages_by m.profile (calm_floor m load samples ontime) ontime late time

abbrev pub CalmMessages : Answers → Type 0
CalmMessages by =
    (load samples ontime late time : ℕ) (c : Calm by load samples ontime)
    → ObeysFrom by late (settled c) c.during
    → time ≤ time_of by (settled c) c.during
    → calm_messages c.before.making load samples ontime late time ≤ messages_in by (settled c) c.during

-- How long a packet waits on a calm channel.

-- a packet that is TAKEN once the run has settled, and calls behind it
pub record CalmWait (by : Answers) (load samples ontime : ℕ) : Type 0 where
  pub calm : Calm by load samples ontime
  pub stamp : ℕ
  pub packet : Offer
  pub taken : by.next (settled calm) (offer stamp packet) ≡ Taken
  pub behind : List Call
  -- the calls that the figure is about: its offer and those
  pub calls : calm.during ≡ offer stamp packet ∷ behind

-- it is one of the waits of "How long may a status message wait?"
abbrev pub as_wait : {by : Answers} {load samples ontime : ℕ} → CalmWait by load samples ontime → Wait by
as_wait w =
    record {
      run = settled w.calm;
      stamp = w.stamp;
      packet = w.packet;
      taken = w.taken;
      during = w.behind;
    }

-- "(before it + meanwhile + 1) x (Q + p)", with the calm floor
abbrev pub CalmWaits : Answers → Type 0
CalmWaits by =
    (load samples ontime p : ℕ) (w : CalmWait by load samples ontime) → ServedSince p (as_wait w)
    → WaitsStill (as_wait w)
    → waited (as_wait w)
    ≤ calm_once (profile_of w.calm) ontime
    + suc (before (as_wait w) + meanwhile (as_wait w))
    * calm_each (profile_of w.calm) (floor_of w.calm) ontime p

-- "(k + 1) x (Q + p)" for a warning with k before it, which is sent by then, and neither expires nor is
-- displaced: with the conditions of "How long may a lane-closure warning wait?", where the second always has
-- room
abbrev pub CalmDelivery : Answers → Type 0
CalmDelivery by =
    (load samples ontime p : ℕ) (w : CalmWait by load samples ontime)
    → always_room (profile_of w.calm) ontime ≡ true
    → w.packet.priority ≡ 0
    → OfferedBy (floor_of w.calm) w.calm.before.making p (its (as_wait w)) (when_it_came (as_wait w))
    (by.since (with_offer (as_wait w)) w.behind)

-- How soon after a jam.

-- the time of the last accepted sample
abbrev pub last_sample : (last : ℕ) → (accepted : List ℕ) → (now : ℕ) → ℕ
last_sample last [] now = last
last_sample last (x ∷ xs) now = now

-- "a sample comes each 100 ms", or at least each so many µs: no call comes more than that after the last
-- accepted one (before the first: after the start)
abbrev pub SampledEvery : (every last : ℕ) → Journal → List (Call × Answer) → Type 0
SampledEvery every last j [] = Unit {0}
SampledEvery every last j (e ∷ es) =
    ((fed j e.0 e.1).time ≤ last + every)
    × SampledEvery every
    (last_sample last (accepted_load e.0 e.1) (fed j e.0 e.1).time)
    (fed j e.0 e.1) es

-- more than n times that later n samples have come: as many as the profile settles in, and the figures hold
abbrev pub Recovers : Answers → Type 0
Recovers by =
    (every samples : ℕ) (r : Run) (calls : List Call)
    → SampledEvery every (book_of by r).time (book_of by r) (by.since r calls)
    → samples * every < time_of by r calls
    → samples ≤ length (loads_since by r calls)
