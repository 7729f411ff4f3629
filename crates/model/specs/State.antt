-- The gate's state on lists, whatever way its packets wait: how it starts, and when it is sound (document 01,
-- "State and calls").
use Rattle.std.specs.Prelude.{ℕ, ◌+◌, Bool, cond, ◌&&◌, List, [], ◌∷◌, leb, eqb}
use Rattle.rules.specs.Tests.{all_of}
use Rattle.rules.specs.Profiles.{ontime_allowed, most_offers}
use Rattle.rules.specs.Clock.{end_of_time}
use Rattle.control.specs.Control.{Control, fresh_control, no_control, sound_control}
use Rattle.model.specs.declared.Clock.{Clock}
use Rattle.model.specs.declared.Last.{Last}
use Rattle.model.specs.declared.Admission.{Admission}
use Rattle.model.specs.declared.Counts.{Counts}
use Rattle.model.specs.Packets.{Holding}
use Rattle.model.specs.Queues.{in_queues}
use Rattle.model.specs.Calls.{Making}
use Rattle.model.specs.Ledger.{ledger_rules}

-- "A state holds: whether it is live, profile, last stamp, running time, .."; live is 1 or 0, as every
-- yes-or-no of it
pub record Status (h : Holding) : Type 0 where
  pub live : ℕ
  -- "a gate made in the old way, a yes-or-no fixed at making and held in the state" (document 02, W-205)
  pub oldway : ℕ
  pub clock : Clock
  pub control : Control
  pub last : Last
  -- "the admissions of the last second" (document 02, W-207), the oldest first
  pub ledger : List Admission
  pub counts : Counts
  pub waiting : h.Held

-- the state with "four queues of up to 5 packets"
abbrev pub View : Type 0
View = Status in_queues

-- the one builder of a state
abbrev pub status_from :
    {h : Holding} → (live oldway : ℕ) → Clock → Control → Last → List Admission → Counts → h.Held → Status h
status_from live oldway clock control last ledger counts waiting =
    record {
      live = live;
      oldway = oldway;
      clock = clock;
      control = control;
      last = last;
      ledger = ledger;
      counts = counts;
      waiting = waiting;
    }

-- a state with one group changed
abbrev pub with_clock : {h : Holding} → Status h → Clock → Status h
with_clock v clock =
    status_from v.live v.oldway clock v.control v.last v.ledger v.counts v.waiting

abbrev pub with_control : {h : Holding} → Status h → Control → Status h
with_control v control =
    status_from v.live v.oldway v.clock control v.last v.ledger v.counts v.waiting

abbrev pub with_last : {h : Holding} → Status h → Last → Status h
with_last v last =
    status_from v.live v.oldway v.clock v.control last v.ledger v.counts v.waiting

abbrev pub with_ledger : {h : Holding} → Status h → List Admission → Status h
with_ledger v ledger =
    status_from v.live v.oldway v.clock v.control v.last ledger v.counts v.waiting

abbrev pub with_counts : {h : Holding} → Status h → Counts → Status h
with_counts v counts =
    status_from v.live v.oldway v.clock v.control v.last v.ledger counts v.waiting

abbrev pub with_waiting : {h : Holding} → Status h → h.Held → Status h
with_waiting v waiting =
    status_from v.live v.oldway v.clock v.control v.last v.ledger v.counts waiting

-- "nothing admitted"
abbrev pub no_last : Last
no_last = record { at = 0; ontime = 0; admitted = 0 }

-- "three numbers in the state: offers accepted, packets sent, packets expired" (document 02, W-201), and "a
-- fourth count, displaced" (W-205), at first
abbrev pub no_counts : Counts
no_counts = record { accepted = 0; sent = 0; expired = 0; displaced = 0 }

-- nothing admitted, counted or waiting
abbrev pub blank : {h : Holding} → (live oldway : ℕ) → Clock → Control → Status h
blank {h} live oldway clock control = status_from live oldway clock control no_last [] no_counts h.none

-- "A fresh state: live, last stamp as given to make, running time 0, .., nothing admitted, queues empty."
abbrev pub fresh : {h : Holding} → Making → Status h
fresh m = blank 1 m.oldway (record { time = 0; stamp = m.stamp }) (fresh_control m.profile m.list)

-- "the all-zero, not live state"
abbrev pub not_live : {h : Holding} → Status h
not_live = blank 0 0 (record { time = 0; stamp = 0 }) no_control

-- "the admission not after it and its on-time allowed"; "admission fields before the first" are zero
abbrev pub last_rules : (profile now : ℕ) → Last → List Bool
last_rules profile now l =
    leb l.admitted 1
    ∷ leb l.at now
    ∷ cond (eqb l.admitted 1) (ontime_allowed profile l.ontime) (eqb l.at 0 && eqb l.ontime 0)
    ∷ []

-- "A state whose counts don't add up, or with accepted above 10^15, isn't sound." (document 02, W-201);
-- "W-201's sum gains a fourth count, displaced" (W-205)
abbrev pub count_rules : (waiting : ℕ) → Counts → List Bool
count_rules waiting c =
    eqb c.accepted (c.sent + c.expired + c.displaced + waiting) ∷ leb c.accepted most_offers ∷ []

-- "A state is sound if: live; ..; running time at most 10^15; .."
abbrev pub status_rules : {h : Holding} → Status h → List Bool
status_rules {h} v =
    eqb v.live 1
    ∷ leb v.oldway 1
    ∷ sound_control v.control
    ∷ leb v.clock.time end_of_time
    ∷ all_of (last_rules v.control.profile v.clock.time v.last)
    ∷ h.fits v.control.profile v.clock.time v.waiting
    ∷ all_of (count_rules (h.total v.waiting) v.counts)
    ∷ all_of (ledger_rules v.control.profile v.clock.time v.last v.ledger)
    ∷ []

-- "A state is sound if" every rule holds
unfoldable pub sound : {h : Holding} → Status h → Bool
sound v = all_of (status_rules v)
