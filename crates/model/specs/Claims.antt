-- Demand 3: what holds of every run, a make that isn't refused and then any list of calls (document 01,
-- "A run and its book").
use Rattle.std.specs.Prelude.{ℕ, suc, ◌+◌, ◌*◌, ◌≤◌, ◌≡◌, true, false, List, [], ◌∷◌, ◌++◌, map, eqb, length}
use Rattle.control.specs.Owed.{spare, least_gap, second, quiet, claims_ceiling}
use Rattle.model.specs.declared.Packet.{Packet}
use Rattle.model.specs.declared.Offer.{Offer}
use Rattle.model.specs.declared.Last.{Last}
use Rattle.model.specs.declared.Answer.{Answer}
use Rattle.model.specs.declared.Answer.TheVariants.{Ready, Sent, Refused}
use Rattle.model.specs.Packets.{Holding}
use Rattle.model.specs.Fours.{each, how_many}
use Rattle.model.specs.Calls.{Call, offer, poll, Making, is_refused}
use Rattle.model.specs.State.{Status, View, sound}
use Rattle.model.specs.Gate.{make, call}
use Rattle.model.specs.declared.Admission.{Admission}
use Rattle.model.specs.Journal.{Entry, Way, expiry, displacement, admission, Departure}
use Rattle.model.specs.Journal.{Journal, opened, turned, at_poll, top, journal_of, air_time, air_in}
use Rattle.model.specs.Journal.{last_second}

-- the state after a list of calls
unfoldable pub view_after : {h : Holding} → Status h → List Call → Status h
view_after v [] = v
view_after v (c ∷ cs) = view_after (call v c).view cs

-- "each call's arguments and answer"
unfoldable pub events : {h : Holding} → Status h → List Call → List (Call × Answer)
events v [] = []
events v (c ∷ cs) = (c, (call v c).answer) ∷ events (call v c).view cs

-- P of each
abbrev pub All : {A : Type 0} → (A → Type 0) → List A → Type 0
All P [] = Unit {0}
All P (a ∷ l) = P a × All P l

-- "leaves by expiry, by displacement, or no later than with the (k+1)th admission after it came"
-- (document 02, W-205)
abbrev pub InTurn : Entry → Way → Type 0
InTurn l expiry = Unit {0}
InTurn l (displacement priority n) = Unit {0}
InTurn l (admission n) = n ≤ l.earlier + suc l.above

-- displaced only by the fifth or a later accepted offer of its own priority after it came
abbrev pub ByTheFifth : Entry → Way → Type 0
ByTheFifth l expiry = Unit {0}
ByTheFifth l (displacement priority n) = (priority ≡ l.packet.priority) × (l.ordinal + 5 ≤ n)
ByTheFifth l (admission n) = Unit {0}

-- the last admission that a view has is the journal's newest
abbrev pub Newest : Last → List Admission → Type 0
Newest last [] = eqb last.admitted 1 ≡ false
Newest last (a ∷ l) = (eqb last.admitted 1 ≡ true) × (last.at ≡ a.at) × (last.ontime ≡ a.ontime)

-- "sum to at most 30,000" (document 02, W-207)
abbrev pub most_in_second : ℕ
most_in_second = 30000

-- "gaps of at least 25,000 µs" (document 02, W-207): each so long after the one before it, the newest first
abbrev pub Apart : List Admission → Type 0
Apart [] = Unit {0}
Apart (a ∷ []) = Unit {0}
Apart (b ∷ a ∷ l) = (a.at + least_gap ≤ b.at) × Apart (a ∷ l)

-- at the end of a run of a profile, where one more poll may come: all of it of all four profiles, but the
-- ceiling, which is claimed of those that owe it (control/specs/Owed: Keeps, KeepsCeiling)
pub record Claims (profile : ℕ) (v : View) (j : Journal) : Type 0 where
  -- no call of a run meets NO-STATE
  pub sound_throughout : sound v ≡ true
  -- "Its time, queues, admissions and expiries are those of a book"
  pub time : v.clock.time ≡ j.time
  pub queues : v.waiting ≡ each (map (λ (l : Entry). l.packet)) j.columns
  pub admissions : Newest v.last j.admissions
  -- "each count equals the number of such events in the run" (document 02, W-201)
  pub counts :
      v.counts
      ≡ record {
        accepted = how_many j.offers;
        sent = length j.admissions;
        expired = j.expiries;
        displaced = j.displacements;
      }
  -- "accepted equals sent plus expired plus the packets waiting"; "a fourth count, displaced" (W-205)
  pub adds_up :
      v.counts.accepted ≡ v.counts.sent + v.counts.expired + v.counts.displaced + how_many v.waiting
  -- the ceiling: "in any window of W µs, 100 x air time admitted ≤ 3 W + 400,000"; of profile 4, "01's
  -- ceiling isn't claimed for it; W-207's 30,000 is" (document 02, W-209)
  pub ceiling : claims_ceiling profile ≡ true
      → (from w : ℕ) → 100 * air_time from w j.admissions ≤ 3 * w + spare
  -- "the admissions of the last second in the state" (document 02, W-207)
  pub ledger : v.ledger ≡ last_second j.time j.admissions
  -- "gaps of at least 25,000 µs"
  pub apart : Apart j.admissions
  -- "on-times admitted in any half-open stretch of 1,000,000 µs sum to at most 30,000"
  pub in_any_second : (from : ℕ) → air_in from (from + second) j.admissions ≤ most_in_second
  -- the floor: an accepted poll that finds an unexpired packet, the quiet time or more after every earlier
  -- admission, sends
  pub floor : (stamp : ℕ) → is_refused (call v (poll stamp)).answer ≡ false
      → (top (at_poll j stamp).columns ≡ [] → ⊥)
      → All (λ (a : Admission). a.at + quiet profile ≤ (turned j stamp).time) j.admissions
      → (p : Packet) × ((call v (poll stamp)).answer ≡ Sent p)
  -- "SENT never comes with all columns empty, and carries the packet struck"
  pub sent : (stamp : ℕ) (p : Packet) → (call v (poll stamp)).answer ≡ Sent p
      → (l : Entry) × (top (at_poll j stamp).columns ≡ l ∷ []) × (l.packet ≡ p)
  -- "A packet of priority 0 still there .. has seen at most k admissions"
  pub still_waiting : All (λ (l : Entry). length j.admissions ≤ l.earlier + l.above) j.columns.c0
  -- a packet of priority 0 leaves by expiry, by displacement, or no later than with the (k+1)th admission
  -- after it came
  pub leaving :
      All (λ (d : Departure). d.entry.packet.priority ≡ 0 → InTurn d.entry d.way) j.departures
  -- a packet of any priority is displaced only by the fifth or a later accepted offer of its own priority
  -- after it came, whatever k was
  pub displacing : All (λ (d : Departure). ByTheFifth d.entry d.way) j.departures

-- "a make that isn't refused, then any list of samples .., offers and polls"
abbrev pub Demand3 : Type 0
Demand3 =
    (m : Making) (calls : List Call) → (make m).answer ≡ Ready
    → Claims m.profile (view_after (make m).view calls)
    (journal_of (opened m.stamp) (events (make m).view calls))

-- not by displacement
abbrev pub NotDisplaced : Way → Type 0
NotDisplaced expiry = Unit {0}
NotDisplaced (displacement priority n) = ⊥
NotDisplaced (admission n) = Unit {0}

-- "a gate made in the old way" (document 02, W-205) displaces nothing: no packet leaves so, none is counted
abbrev pub OldWayDisplacesNothing : Type 0
OldWayDisplacesNothing =
    (m : Making) (calls : List Call) → (make m).answer ≡ Ready → m.oldway ≡ 1
    → All (λ (d : Departure). NotDisplaced d.way)
    (journal_of (opened m.stamp) (events (make m).view calls)).departures
    × ((view_after (make m).view calls).counts.displaced ≡ 0)

-- "Number 8 is given only by a gate made in the old way" (document 02, W-205): in the new way no offer of a
-- run is refused for lack of room
abbrev pub NewWayHasRoom : Type 0
NewWayHasRoom =
    (m : Making) (calls : List Call) → (make m).answer ≡ Ready → m.oldway ≡ 0
    → (stamp : ℕ) (o : Offer) → (call (view_after (make m).view calls) (offer stamp o)).answer ≡ Refused 8 → ⊥

-- so every prefix of a run is a run, and the claims hold at every point of it
abbrev pub RunsAreTheirParts : Type 0
RunsAreTheirParts =
    (v : View) (j : Journal) (cs ds : List Call)
    → (view_after v (cs ++ ds) ≡ view_after (view_after v cs) ds)
    × (journal_of j (events v (cs ++ ds)) ≡ journal_of (journal_of j (events v cs))
    (events (view_after v cs) ds))
