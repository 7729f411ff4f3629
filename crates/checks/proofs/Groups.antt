-- What a sound state says, group by group, whatever way packets wait.
use Prim.Native.Nat.{ℕ, ◌+◌, ◌≤◌}
use mathlib.Core.Path.{◌≡◌}
use mathlib.Core.Bool.{true}
use lib.Dec.{eqb}
use lib.ListN.{length}
use Rattle.rules.specs.Tests.{all_of}
use Rattle.rules.specs.Clock.{end_of_time}
use Rattle.rules.specs.Profiles.{profile3, most_offers}
use Rattle.rules.proofs.Cases.{split, both}
use Rattle.rules.proofs.Tests.{tested, all_true}
use Rattle.rules.proofs.Profiles.{ontime_le}
use Rattle.control.specs.Control.{Steerable}
use Rattle.control.proofs.Controls.{test_control, steerable}
use Rattle.model.specs.declared.Last.{Last}
use Rattle.model.specs.Packets.{Holding}
use Rattle.model.specs.Ledger.{places, young, ledger_rules}
use Rattle.model.specs.State.{Status, count_rules, status_rules, sound}
use Rattle.model.proofs.Aging.{all-young}
use Rattle.model.proofs.Sound.{SoundLast, test_last, forty_are_enough}
use Rattle.model.proofs.SoundLedger.{SoundLedger, test_ledger}

last_ontime : (profile now : ℕ) (l : Last) → SoundLast profile now l → l.ontime ≤ profile3.limits.ontime
last_ontime profile now l g =
    split (eqb l.admitted 1)
    (λ e. ontime_le profile l.ontime (rw e at g.fields))
    (λ e. let f = both (eqb l.at 0) (eqb l.ontime 0) (rw e at g.fields) in omega (tested, f.1))

pub record Groups {h : Holding} (v : Status h) : Type 0 where
  pub control : Steerable v.control.profile v.control.tuning
  pub time : v.clock.time ≤ end_of_time
  pub last_past : v.last.at ≤ v.clock.time
  pub last_air : v.last.ontime ≤ profile3.limits.ontime
  pub packets : h.fits v.control.profile v.clock.time v.waiting ≡ true
  pub sum : v.counts.accepted ≡ v.counts.sent + v.counts.expired + v.counts.displaced + h.total v.waiting
  pub most : v.counts.accepted ≤ most_offers
  pub rules : all_of (ledger_rules v.control.profile v.clock.time v.last v.ledger) ≡ true
  pub ledger : SoundLedger v.control.profile v.clock.time v.last v.ledger
  pub few : length v.ledger ≤ places
  pub none-aged : young v.clock.time v.ledger ≡ v.ledger

pub groups : {h : Holding} (v : Status h) → sound v ≡ true → Groups v
unfolding sound
groups {h} v e =
    let now = v.clock.time in
    let profile = v.control.profile in
    let g = all_true (status_rules v) e in
    let n = all_true (count_rules (h.total v.waiting) v.counts) g.1.1.1.1.1.1.0 in
    let last = test_last profile now v.last g.1.1.1.1.0 in
    let l = test_ledger profile now v.last v.ledger g.1.1.1.1.1.1.1.0 in
    record {
      control =
          steerable profile v.control.levels.len v.control.tuning (test_control v.control g.1.1.0).tuning;
      time = omega (tested, g.1.1.1.0);
      last_past = last.past;
      last_air = last_ontime profile now v.last last;
      packets = g.1.1.1.1.1.0;
      sum = omega (tested, n.0);
      most = omega (tested, n.1.0);
      rules = g.1.1.1.1.1.1.1.0;
      ledger = l;
      few = forty_are_enough v e;
      none-aged = all-young profile now 0 v.ledger l.noted;
    }
