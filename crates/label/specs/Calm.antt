-- The floor of a calm channel: how long the gate is closed at most where no sample is above a load, and how
-- many samples it takes to forget a jam (docs/LABEL.md, "On a calm channel"). All of it is read off calls,
-- answers and the run's book, and nothing off a state.
use Rattle.std.specs.Prelude.{ℕ, zero, suc, ◌+◌, ◌-◌, ◌*◌, ◌/◌, ◌≤◌, max, ◌≡◌, Bool, true, false, cond, List}
use Rattle.std.specs.Prelude.{[], ◌∷◌, ◌++◌, leb, length}
use Rattle.rules.specs.Profiles.{profile1, profile2, profile3, profile4, full_load, by_profile, limits_of}
use Rattle.rules.specs.Profiles.{most_ontime}
use Rattle.rules.specs.Samples.{busy_of, load_of}
use Rattle.rules.specs.Levels.{wanted_by, wait_by}
use Rattle.rules.specs.Duty.{smoothed_of, duty_of}
use Rattle.rules.specs.Wait.{ceil_div, adaptive_wait, start_of}
use Rattle.rules.specs.Harmonised.{harmonised_wait}
use Rattle.machine.specs.declared.Levels.{Levels}
use Rattle.machine.specs.Levels as listing
use Rattle.machine.specs.Moves.{highest}
use Rattle.control.specs.Owed.{second}
use Rattle.model.specs.declared.Answer.{Answer}
use Rattle.model.specs.Calls.{Call, words, count, offer, poll, Making, is_refused}
use Rattle.model.specs.Ledger.{air_of}
use Rattle.model.specs.Journal.{Entry, Journal, turned, at_poll, top, last_second}
use Rattle.model.specs.Claims.{All, most_in_second}
use Rattle.model.specs.Delivery.{SendsAfter}
use Rattle.label.specs.Trailer.{Run, Answers, book_of, onward}

-- What a run tells of the channel and of its packets.

-- "Load becomes floor(1,000,000 × busy / probes)" (document 02, W-208): a sample's load; other calls have
-- none
abbrev pub load_in : Call → List ℕ
load_in (words stamp probes ws) = load_of (busy_of ws probes) probes ∷ []
load_in (count stamp busy probes) = load_of busy probes ∷ []
load_in (offer stamp o) = []
load_in (poll stamp) = []

-- an accepted sample's
abbrev pub accepted_load : Call → Answer → List ℕ
accepted_load c a = cond (is_refused a) [] (load_in c)

-- the loads of the accepted samples, in order of coming
unfoldable pub loads_in : List (Call × Answer) → List ℕ
loads_in [] = []
loads_in (e ∷ es) = accepted_load e.0 e.1 ++ loads_in es

-- those of calls from the end of a run on
abbrev pub loads_since : Answers → Run → List Call → List ℕ
loads_since by r calls = loads_in (by.since r calls)

-- none of some loads is above one
abbrev pub NoneAbove : (load : ℕ) → List ℕ → Type 0
NoneAbove load xs = All (λ (x : ℕ). x ≤ load) xs

-- the on-time of the packet that a call offers; 0 where it offers none
abbrev pub ontime_in : Call → ℕ
ontime_in (words stamp probes ws) = 0
ontime_in (count stamp busy probes) = 0
ontime_in (offer stamp o) = o.ontime
ontime_in (poll stamp) = 0

-- no packet that is taken is longer than an on-time
abbrev pub NoneLonger : (ontime : ℕ) → List (Call × Answer) → Type 0
NoneLonger ontime es = All (λ (e : Call × Answer). is_refused e.1 ≡ false → ontime_in e.0 ≤ ontime) es

-- none that a run takes is longer than its profile allows
abbrev pub NeverLonger : Answers → Type 0
NeverLonger by = (r : Run) → NoneLonger (most_ontime r.making.profile) (by.all r)

-- How long the gate is closed after a packet, at most: by the load, the samples since the jam, the on-time.

-- profile 3's duty after so many updates by pairs of one load, from a smoothed load and a duty on
unfoldable pub duty_after : (load updates smoothed duty : ℕ) → ℕ
duty_after load zero smoothed duty = duty
duty_after load (suc n) smoothed duty =
    let next = smoothed_of smoothed load load in
    duty_after load n next (duty_of profile3 duty next)

-- from the worst that there is: a smoothed load of 1,000,000 and a duty of 600,000
unfoldable pub worst_duty : (load updates : ℕ) → ℕ
worst_duty load updates = duty_after load updates full_load profile3.leastduty

-- two samples are an update; the first may have been paired with one of the jam
abbrev pub updates_in : (samples : ℕ) → ℕ
updates_in samples = (samples - 1) / 2

-- the longest wait that a list has for levels 0 to n
unfoldable pub longest_to : Levels → (n : ℕ) → ℕ
longest_to l zero = listing.wait_of l 0
longest_to l (suc n) = max (listing.wait_of l (suc n)) (longest_to l n)

-- the longest wait: in profiles 1 and 2 that of the level which the load wants; in profile 3 that by the
-- worst duty; in profile 4 that by the load; in profile 5 the longest of the levels up to the highest that
-- the load reaches
unfoldable pub calm_wait : Making → (load samples ontime : ℕ) → ℕ
calm_wait m load samples ontime =
    by_profile m.profile (wait_by profile1 (wanted_by profile1 load))
    (wait_by profile2 (wanted_by profile2 load))
    (adaptive_wait profile3.limits ontime (worst_duty load (updates_in samples)))
    (harmonised_wait profile4 ontime load)
    (longest_to m.list (highest (listing.thresholds m.list) load))

-- and from where it starts: the calm floor
unfoldable pub calm_floor : Making → (load samples ontime : ℕ) → ℕ
calm_floor m load samples ontime = start_of m.profile ontime + calm_wait m load samples ontime

-- so many samples settle a profile after a jam: its level falls by one a sample in profiles 1 and 2; profile
-- 4 goes by the latest load, profile 5 by the last 50. Profile 3 settles bit by bit, and its calm floor says
-- how far
unfoldable pub settles_in : (profile : ℕ) → ℕ
settles_in profile = by_profile profile 4 4 0 1 50

-- a run up to some moment, whatever it was, as a jam of any length; then calls with so many accepted samples
-- or more, in which it settles; then the calls that a figure is about. From that moment on no accepted sample
-- is above a load, and in all of it no packet that is taken is longer than an on-time
pub record Calm (by : Answers) (load samples ontime : ℕ) : Type 0 where
  pub before : Run
  pub settling : List Call
  pub during : List Call
  -- a load and an on-time that there are, and as many samples as the profile settles in
  pub a_load : load ≤ full_load
  pub an_ontime : ontime ≤ most_ontime before.making.profile
  pub settles : settles_in before.making.profile ≤ samples
  pub enough : samples ≤ length (loads_since by before settling)
  pub none_above : NoneAbove load (loads_since by before settling)
  pub stays : NoneAbove load (loads_since by (onward before settling) during)
  pub none_longer : NoneLonger ontime (by.all (onward (onward before settling) during))

-- the run once it has settled, and at its end
abbrev pub settled : {by : Answers} {load samples ontime : ℕ} → Calm by load samples ontime → Run
settled c = onward c.before c.settling

abbrev pub ended : {by : Answers} {load samples ontime : ℕ} → Calm by load samples ontime → Run
ended c = onward (settled c) c.during

-- its profile, and its calm floor
abbrev pub profile_of : {by : Answers} {load samples ontime : ℕ} → Calm by load samples ontime → ℕ
profile_of c = c.before.making.profile

abbrev pub floor_of : {by : Answers} {load samples ontime : ℕ} → Calm by load samples ontime → ℕ
floor_of {by} {load} {samples} {ontime} c = calm_floor c.before.making load samples ontime

-- "sent only if its on-time plus all on-times admitted in the 1,000,000 µs up to and including now .. is at
-- most 30,000" (document 02, W-207): so it is with the packet that a poll finds
abbrev pub HasRoom : Journal → (stamp : ℕ) → Type 0
HasRoom j stamp =
    All (λ (l : Entry).
    l.packet.ontime + air_of (last_second (turned j stamp).time j.admissions) ≤ most_in_second)
    (top (at_poll j stamp).columns)

-- it always is where as many packets as the least wait lets into a second take 30,000 µs at most: in profiles
-- 1, 2 and 5 all of them, in profiles 3 and 4 those of 750 µs or less
abbrev pub always_room : (profile ontime : ℕ) → Bool
always_room profile ontime = leb (ontime * ceil_div second (limits_of profile).leastwait) most_in_second

-- at the end of a calm run, and so at any point of one: the calm floor where the second has room, and by
-- itself where it always has
pub record CalmFloor (by : Answers) (load samples ontime : ℕ) (c : Calm by load samples ontime) : Type 0 where
  pub room_found : (stamp : ℕ) → HasRoom (book_of by (ended c)) stamp
      → SendsAfter (floor_of c) stamp (by.next (ended c) (poll stamp)) (book_of by (ended c))
  pub by_itself : always_room (profile_of c) ontime ≡ true
      → (stamp : ℕ)
      → SendsAfter (floor_of c) stamp (by.next (ended c) (poll stamp)) (book_of by (ended c))

abbrev pub CalmFloors : Answers → Type 0
CalmFloors by =
    (load samples ontime : ℕ) (c : Calm by load samples ontime) → CalmFloor by load samples ontime c
