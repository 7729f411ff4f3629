-- A view is sound exactly if these facts hold of it; the clock and expiry, as far as the end of time, keep them.
use Prim.Native.Nat.{ℕ, ◌+◌, ◌≤◌}
use mathlib.Core.Path.{◌≡◌}
use mathlib.Core.Bool.{true, cond, ◌&&◌}
use mathlib.Core.List.{List}
use native.Mathlib.Omega.{arith}
use lib.Dec.{eqb}
use borrow.Author.Tests.{le-leb, eq-eqb}
use Rattle.rules.specs.Tests.{all_of}
use Rattle.rules.specs.Profiles.{ontime_allowed, most_offers}
use Rattle.rules.specs.Clock.{passes_end, end_of_time}
use Rattle.rules.specs.Refusals.{NoneHolds}
use Rattle.rules.proofs.Tests.{tested, all_true}
use Rattle.control.specs.Owed.{Allowed}
use Rattle.control.proofs.Controls.{SoundControl, test_control, control_test}
use Rattle.model.specs.declared.Packet.{Packet}
use Rattle.model.specs.declared.Last.{Last}
use Rattle.model.specs.declared.Counts.{Counts}
use Rattle.model.specs.Packets.{without_expired, Holding}
use Rattle.model.specs.Fours.{Four, how_many}
use Rattle.model.specs.Queues.{queue_rules, choice}
use Rattle.model.specs.Calls.{Call, stamp_of}
use Rattle.model.specs.State.{View, last_rules, count_rules, status_rules, sound}
use Rattle.model.specs.Effects.{stepped, moved, expired, refreshed}
use Rattle.model.specs.Gate.{checks, FortyAreEnough}
use Rattle.model.proofs.Fours.{Fours, fours_each}
use Rattle.model.proofs.Counting.{many_expired}
use Rattle.model.proofs.SoundQueues.{Queued, test_queued, queued_test, queued_later, queued_expired, queued_tail, OfChoice}
use Rattle.model.proofs.SoundQueues.{of-choice}
use Rattle.model.proofs.Aging.{noted-forty}
use Rattle.model.proofs.SoundLedger.{SoundLedger, test_ledger, ledger_test, aged-sound}

pub record SoundLast (profile now : ℕ) (l : Last) : Type 0 where
  pub flag : l.admitted ≤ 1
  pub past : l.at ≤ now
  pub fields :
      cond (eqb l.admitted 1) (ontime_allowed profile l.ontime) (eqb l.at 0 && eqb l.ontime 0) ≡ true

pub record SoundCounts (waiting : ℕ) (c : Counts) : Type 0 where
  pub sum : c.accepted ≡ c.sent + c.expired + c.displaced + waiting
  pub most : c.accepted ≤ most_offers

abbrev pub SoundQueues : (profile now : ℕ) → Four Packet → Type 0
SoundQueues profile now q = Fours (Queued profile now) q

pub record SoundView (v : View) : Type 0 where
  pub live : eqb v.live 1 ≡ true
  pub way : v.oldway ≤ 1
  pub control : SoundControl v.control
  pub time : v.clock.time ≤ end_of_time
  pub last : SoundLast v.control.profile v.clock.time v.last
  pub queues : SoundQueues v.control.profile v.clock.time v.waiting
  pub counts : SoundCounts (how_many v.waiting) v.counts
  pub ledger : SoundLedger v.control.profile v.clock.time v.last v.ledger

-- the tests say these facts, and no more
pub test_last : (profile now : ℕ) (l : Last) → all_of (last_rules profile now l) ≡ true → SoundLast profile now l
test_last profile now l e =
    let h = all_true (last_rules profile now l) e in
    record { flag = omega (tested, h.0); past = omega (tested, h.1.0); fields = h.1.1.0 }

last_test : (profile now : ℕ) (l : Last) → SoundLast profile now l → all_of (last_rules profile now l) ≡ true
last_test profile now l h = rw (le-leb _ _ h.flag, le-leb _ _ h.past, h.fields)

test_counts : (waiting : ℕ) (c : Counts) → all_of (count_rules waiting c) ≡ true → SoundCounts waiting c
test_counts waiting c e =
    let h = all_true (count_rules waiting c) e in
    record { sum = omega (tested, h.0); most = omega (tested, h.1.0) }

counts_test : (waiting : ℕ) (c : Counts) → SoundCounts waiting c → all_of (count_rules waiting c) ≡ true
counts_test waiting c h = rw (eq-eqb _ _ h.sum, le-leb _ _ h.most)

test_queues : (profile now : ℕ) (q : Four Packet) → all_of (queue_rules profile now q) ≡ true → SoundQueues profile now q
test_queues profile now q e =
    let h = all_true (queue_rules profile now q) e in (
      test_queued profile now 0 q.c0 h.0,
      test_queued profile now 1 q.c1 h.1.0,
      test_queued profile now 2 q.c2 h.1.1.0,
      test_queued profile now 3 q.c3 h.1.1.1.0,
    )

queues_test : (profile now : ℕ) (q : Four Packet) → SoundQueues profile now q → all_of (queue_rules profile now q) ≡ true
queues_test profile now q h =
    rw (
      queued_test profile now 0 q.c0 h.0,
      queued_test profile now 1 q.c1 h.1,
      queued_test profile now 2 q.c2 h.2,
      queued_test profile now 3 q.c3 h.3,
    )

pub test_view : (v : View) → sound v ≡ true → SoundView v
unfolding sound
test_view v e =
    let h = all_true (status_rules v) e in
    record {
      live = h.0;
      way = omega (tested, h.1.0);
      control = test_control v.control h.1.1.0;
      time = omega (tested, h.1.1.1.0);
      last = test_last v.control.profile v.clock.time v.last h.1.1.1.1.0;
      queues = test_queues v.control.profile v.clock.time v.waiting h.1.1.1.1.1.0;
      counts = test_counts (how_many v.waiting) v.counts h.1.1.1.1.1.1.0;
      ledger = test_ledger v.control.profile v.clock.time v.last v.ledger h.1.1.1.1.1.1.1.0;
    }

pub view_test : (v : View) → SoundView v → sound v ≡ true
unfolding sound
view_test v h =
    rw (
      h.live,
      le-leb _ _ h.way,
      control_test v.control h.control,
      le-leb _ _ h.time,
      last_test v.control.profile v.clock.time v.last h.last,
      queues_test v.control.profile v.clock.time v.waiting h.queues,
      counts_test (how_many v.waiting) v.counts h.counts,
      ledger_test v.control.profile v.clock.time v.last v.ledger h.ledger,
    )

-- the on-time of the last admission is one that its profile allows
pub last_allowed : (profile now : ℕ) (l : Last) → SoundLast profile now l → eqb l.admitted 1 ≡ true
    → ontime_allowed profile l.ontime ≡ true
last_allowed profile now l h some = rw some at h.fields

pub last_admits : (v : View) → SoundView v → eqb v.last.admitted 1 ≡ true → Allowed v.control v.last.ontime
last_admits v h some = (
  control_test v.control h.control,
  last_allowed v.control.profile v.clock.time v.last h.last some,
)

-- "40 are enough", whatever way packets wait
pub forty_are_enough : {h : Holding} → FortyAreEnough h
unfolding sound
forty_are_enough {h} v e =
    let r = all_true (status_rules v) e in
    let l = test_ledger v.control.profile v.clock.time v.last v.ledger r.1.1.1.1.1.1.1.0 in
    noted-forty v.control.profile v.clock.time 0 v.ledger l.noted

-- the clock
pub moved-sound : (v : View) (stamp : ℕ) → (stepped v.clock stamp).time ≤ end_of_time → SoundView v → SoundView (moved v stamp)
moved-sound v stamp k h =
    let past : v.last.at ≤ (stepped v.clock stamp).time = omega (arith, h.last.past) in
    let queues =
    fours_each (Queued v.control.profile v.clock.time)
    (Queued v.control.profile (stepped v.clock stamp).time)
    (λ (ps : List Packet). ps)
    (λ n ps. queued_later v.control.profile v.clock.time (stepped v.clock stamp).time n ps (omega arith))
    v.waiting h.queues in
    let ledger =
    aged-sound v.control.profile v.clock.time (stepped v.clock stamp).time v.last v.ledger (omega arith)
    h.ledger in
    search (k, past, queues, ledger, h)

-- expiry
expired-sound : (v : View) → SoundView v → SoundView (expired v)
expired-sound v h =
    let now = v.clock.time in
    let queues =
    fours_each (Queued v.control.profile now) (Queued v.control.profile now) (without_expired now)
    (λ n ps. queued_expired v.control.profile now n now ps) v.waiting h.queues in
    let counts : SoundCounts (how_many (expired v).waiting) (expired v).counts =
    record { sum = omega (arith, h.counts.sum, many_expired now v.waiting); most = h.counts.most } in
    search (queues, counts, h)

pub refreshed-sound : (v : View) (stamp : ℕ) → (stepped v.clock stamp).time ≤ end_of_time → SoundView v
    → SoundView (refreshed v stamp)
refreshed-sound v stamp k h = expired-sound (moved v stamp) (moved-sound v stamp k h)

-- the packet that a poll chooses
pub chosen_queued : (v : View) → SoundView v → OfChoice (Queued v.control.profile v.clock.time) (choice v.waiting)
chosen_queued v h =
    of-choice (Queued v.control.profile v.clock.time) (queued_tail v.control.profile v.clock.time) v.waiting
    h.queues

-- a call that passes its checks doesn't pass the end of time
pub passed_time : (v : View) (c : Call) → NoneHolds (checks v c) → (stepped v.clock (stamp_of c)).time ≤ end_of_time
unfolding checks passes_end
passed_time v c h = omega (tested, h.1.1.0)
