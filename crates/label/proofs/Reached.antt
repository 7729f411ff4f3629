-- Each profile's figures are reached by a steady sender: in profiles 1 and 2 of longest packets, a stride apart, from a fresh
-- gate on; in profile 4 of eight packets of 3,750 µs a second, which are 30 ms; in profile 3 the same, once 400 samples of an
-- empty channel have raised the duty to its greatest.
use Prim.Native.Nat.{ℕ, zero, suc, ◌+◌, ◌*◌, ◌≤◌}
use mathlib.Core.Path.{◌≡◌, refl, ap, ◌∙◌}
use mathlib.Core.Bool.{true}
use mathlib.Core.List.{List, [], ◌∷◌, ◌++◌}
use native.Mathlib.Omega.{arith}
use lib.Dec.{leb, ltb}
use borrow.Author.Tests.{leb-true, ltb-true}
use Rattle.rules.specs.Profiles.{most_offers, within, ontime_allowed}
use Rattle.rules.specs.Clock.{end_of_time}
use Rattle.rules.proofs.Profiles.{allowed}
use Rattle.rules.proofs.Tests.{tested}
use lib.ListN.{replicate}
use Rattle.machine.specs.declared.Levels.{Levels}
use Rattle.machine.specs.Loads.{no_loads}
use Rattle.control.specs.Control.{Control, control_of, fresh_control}
use Rattle.control.specs.Wait.{closed_after}
use Rattle.control.specs.Owed.{second, claims_ceiling}
use Rattle.machine.specs.Levels.{levels_of, no_levels}
use Rattle.model.specs.declared.Answer.TheVariants.{Ready}
use Rattle.model.specs.Calls.{Call, count, Making, making_of}
use Rattle.model.specs.Ledger.{most_air}
use Rattle.model.specs.Gate.{make}
use Rattle.model.specs.Journal.{Journal, opened, air_in, journal_of}
use Rattle.model.specs.Claims.{view_after, events}
use Rattle.model.proofs.Computing.{of_runs, of-waits}
use Rattle.model.proofs.Runs.{run_on, run_begins, runs_are_their_parts}
use Rattle.label.specs.Trailer.{Run, by_model, journal}
use Rattle.label.specs.OnAir.{on_air}
use Rattle.label.specs.Most.{most, Reached, ReachedBy, MostReached}
use Rattle.label.proofs.Beats.{Steady, Beat, beats, ticks, run_beats, air_ticks, heard_ticks}

-- so many packets of an on-time, a period apart, are the most that a profile has in w µs
abbrev Reaching : (profile period ontime : ℕ) → Type 0
Reaching profile period ontime =
    (n w : ℕ) → leb (n * period) end_of_time ≡ true → leb n most_offers ≡ true → leb (n * period + ontime) (w + period) ≡ true
    → n * ontime ≡ most profile w → Reached by_model profile w

-- a run that begins with some calls, and then sends steadily
module _ (m : Making) (first : List Call) (ready : (make m).answer ≡ Ready) (k : Control) (period ontime others : ℕ)
    (s : Steady m k period ontime others)
    (starts : Beat m k period ontime others 0 (view_after (make m).view first)
    (journal_of (opened m.stamp) (events (make m).view first))) where
  steadily : (n : ℕ) → Run
  steadily n = record { making = m; calls = first ++ beats m k period ontime others 0 n; ready = ready }

  sends : (n : ℕ) → n * period ≤ end_of_time → n ≤ most_offers
      → (journal (steadily n)).admissions ≡ ticks m k period ontime others n
  unfolding steadily
  sends n e o =
      ap (λ (j : Journal). j.admissions)
      (runs_are_their_parts (make m).view (opened m.stamp) first (beats m k period ontime others 0 n)).1
      ∙ (run_beats m k period ontime others s 0 n _ _ starts (omega (arith, e)) (omega arith)).ticked
      ∙ ap (ticks m k period ontime others) zero_more
    where
      zero_more : 0 + n ≡ n
      zero_more = omega arith

  reaches : Reaching m.profile period ontime
  unfolding steadily
  reaches n w e o h same =
      let all = sends n (leb-true _ _ e) (leb-true _ _ o) in
      let some = (allowed m.profile ontime s.allows).0 in
      record {
        run = steadily n;
        its_profile = refl;
        admitted = ap (air_in 0 w) all ∙ air_ticks m k period ontime others w n (omega tested) ∙ same;
        heard_on_air = ap (on_air 0 w) all ∙ heard_ticks m k period ontime others w n (leb-true _ _ h) ∙ same;
      }

-- the list with the shortest waits, which profile 5 takes and no other looks at
abbrev calmest : Levels
calmest = levels_of 1 40000 (1000000 ∷ replicate 7 0) (40000 ∷ replicate 7 0)

made : (profile : ℕ) → Making
made profile = making_of profile 0 calmest 0

-- what a steady sender needs, by computing
steady_by : (m : Making) (k : Control) (period ontime others : ℕ) → m.oldway ≡ 0 → leb (closed_after k ontime) period ≡ true
    → leb second (suc others * period) ≡ true → leb (suc others * ontime) most_air ≡ true
    → ontime_allowed m.profile ontime ≡ true → ltb period 2147483648 ≡ true → Steady m k period ontime others
steady_by m k period ontime others n w p r a t =
    record {
      new = n;
      opens = leb-true _ _ w;
      spread = leb-true _ _ p;
      room = leb-true _ _ r;
      allows = a;
      short = ltb-true _ _ t;
    }

-- a fresh gate
module _ (profile : ℕ) (ready : (make (made profile)).answer ≡ Ready)
    (is-fresh : (make (made profile)).view.control ≡ fresh_control profile calmest) (period ontime others : ℕ)
    (s : Steady (made profile) (fresh_control profile calmest) period ontime others) where
  fresh_beat : Beat (made profile) (fresh_control profile calmest) period ontime others 0
      (view_after (make (made profile)).view []) (journal_of (opened 0) (events (make (made profile)).view []))
  unfolding made view_after events journal_of ticks
  fresh_beat =
      record {
        run = run_begins (made profile) ready;
        control = is-fresh;
        stamped = refl;
        late = omega arith;
        soon = omega arith;
        empty = refl;
        offered = refl;
        ticked = refl;
      }

  from_fresh : Reaching profile period ontime
  unfolding made
  from_fresh = reaches (made profile) [] ready (fresh_control profile calmest) period ontime others s fresh_beat

steady_1 : Steady (made 1) (fresh_control 1 calmest) 101000 1000 9
unfolding of-waits made
steady_1 = steady_by _ _ _ _ _ refl refl refl refl refl refl

steady_2 : Steady (made 2) (fresh_control 2 calmest) 50500 500 19
unfolding of-waits made
steady_2 = steady_by _ _ _ _ _ refl refl refl refl refl refl

steady_4 : Steady (made 4) (fresh_control 4 calmest) 125000 3750 7
unfolding of-waits made
steady_4 = steady_by _ _ _ _ _ refl refl refl refl refl refl

steady_5 : Steady (made 5) (fresh_control 5 calmest) 41000 1000 24
unfolding of_runs made
steady_5 = steady_by _ _ _ _ _ refl refl refl refl refl refl

-- samples of an empty channel, before profile 3 sends
calm : ℕ → List Call
calm zero = []
calm (suc n) = count 0 0 1000 ∷ calm n

-- the greatest duty
raised : Control
raised =
    control_of 3 (record { level = 0; duty = 30000000; smoothed = 0; kept = 0; pairing = 0; latest = 0 }) no_levels no_loads

steady_3 : Steady (made 3) raised 125000 3750 7
unfolding of-waits made raised
steady_3 = steady_by _ _ _ _ _ refl refl refl refl refl refl

raised_beat : (ready : (make (made 3)).answer ≡ Ready) → Beat (made 3) raised 125000 3750 7 0
    (view_after (make (made 3)).view (calm 400)) (journal_of (opened 0) (events (make (made 3)).view (calm 400)))
unfolding of_runs made calm raised ticks
raised_beat ready =
    record {
      run = run_on (made 3) (make (made 3)).view (opened 0) (calm 400) (run_begins (made 3) ready);
      control = refl;
      stamped = refl;
      late = omega arith;
      soon = omega arith;
      empty = refl;
      offered = refl;
      ticked = refl;
    }

ready_3 : (make (made 3)).answer ≡ Ready
unfolding of_runs made
ready_3 = refl

from_raised : Reaching 3 125000 3750
unfolding made
from_raised = reaches (made 3) (calm 400) ready_3 raised 125000 3750 7 steady_3 (raised_beat ready_3)

reached_1 : ReachedBy by_model 1
unfolding of_runs made most claims_ceiling
reached_1 = (go 10 _ refl refl refl refl, go 595 _ refl refl refl refl, go 35644 _ refl refl refl refl)
  where
    go : Reaching 1 101000 1000
    go = from_fresh 1 refl refl 101000 1000 9 steady_1

reached_2 : ReachedBy by_model 2
unfolding of_runs made most claims_ceiling
reached_2 = (go 20 _ refl refl refl refl, go 1189 _ refl refl refl refl, go 71288 _ refl refl refl refl)
  where
    go : Reaching 2 50500 500
    go = from_fresh 2 refl refl 50500 500 19 steady_2

reached_3 : ReachedBy by_model 3
unfolding most claims_ceiling within
reached_3 = (
  from_raised 8 _ refl refl refl refl,
  from_raised 480 _ refl refl refl refl,
  from_raised 28800 _ refl refl refl refl,
)

reached_4 : ReachedBy by_model 4
unfolding of_runs made most claims_ceiling
reached_4 = (go 8 _ refl refl refl refl, go 480 _ refl refl refl refl, go 28800 _ refl refl refl refl)
  where
    go : Reaching 4 125000 3750
    go = from_fresh 4 refl refl 125000 3750 7 steady_4

reached_5 : ReachedBy by_model 5
unfolding of_runs made most claims_ceiling
reached_5 = (go 25 _ refl refl refl refl, go 1464 _ refl refl refl refl, go 87805 _ refl refl refl refl)
  where
    go : Reaching 5 41000 1000
    go = from_fresh 5 refl refl 41000 1000 24 steady_5

pub most_reached : MostReached by_model
most_reached = (reached_1, reached_2, reached_3, reached_4, reached_5)
