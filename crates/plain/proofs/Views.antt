-- A state with one list, laid out and read back, is that state, where its admissions fit the words of a ledger; so this is an
-- engine with one list. What is known of a sound state, group by group.
use Prim.Native.Nat.{ℕ, ◌+◌, ◌≤◌}
use mathlib.Core.Path.{◌≡◌, ap, sym, ◌∙◌}
use mathlib.Core.Bool.{true, ◌&&◌}
use native.Mathlib.Omega.{arith}
use lib.ListN.{take}
use Rattle.model.specs.State.{with_ledger, with_waiting, sound}
use Rattle.model.specs.Effects.{stepped, moved}
use Rattle.ledger.specs.Layout as ledger
use Rattle.ledger.proofs.Meaning.{AllFitting, read_fitting, young_fitting, sound_fitting, read_timely, packed-tidy}
use Rattle.ledger.proofs.Meaning.{items-packed as ledger-packed}
use Rattle.ledger.proofs.Settling.{list_length}
use Rattle.line.specs.Line.{in_list, Listed}
use Rattle.line.specs.Layout.{places, items, packed, Packed, tidy}
use Rattle.line.proofs.Packing.{items-packed, packed-length, tidy-packed}
use Rattle.line.proofs.Rules.{at_most_twenty}
use Rattle.line.proofs.Agree.{refreshed_list}
use Rattle.line.proofs.Again.{lists_stay}
use Rattle.checks.proofs.Groups.{Groups, groups}
use Rattle.checks.proofs.Engine.{Engine, says}
use Rattle.plain.specs.declared.State.{State}
use Rattle.plain.specs.declared.Outcome.{Outcome}
use Rattle.plain.specs.Layout.{view_of, state_of, LaidOut, Given, outcome, forty}

-- its admissions fit the words of a ledger: what was read does, the aged dropped, and so does a sound one
abbrev pub Writable : Listed → Type 0
Writable v = AllFitting v.last.at v.ledger

pub moved_writable : (s : State) (stamp : ℕ) → Writable (moved (view_of s) stamp)
moved_writable s stamp =
    young_fitting s.last.at (stepped s.clock stamp).time (ledger.items s.last.at s.ledger)
    (read_fitting s.last.at (take s.ledger.len s.ledger.slots))

pub sound_writable : (v : Listed) → sound v ≡ true → Writable v
sound_writable v e =
    sound_fitting v.control.profile v.clock.time v.last v.ledger (groups v e).ledger

pub view_state : (v : Listed) → Writable v → view_of (state_of v) ≡ v
view_state v f =
    let l = ledger-packed v.last.at v.ledger f in
    λ i. with_waiting (with_ledger v (l i)) (items-packed v.waiting i)

pub tidy_state : (v : Listed) → sound v ≡ true
    → tidy (packed v.waiting) && ledger.tidy v.last.at (ledger.packed v.last.at v.ledger) ≡ true
tidy_state v e =
    let g = groups v e in
    rw (
      tidy-packed v.waiting (at_most_twenty v.control.profile v.clock.time v.waiting g.packets),
      packed-tidy v.last.at v.ledger (sound_writable v e) g.few,
    )

-- the plain engine
abbrev pub engine : Engine in_list
engine =
    record {
      State = State;
      Outcome = Outcome;
      view_of = view_of;
      state_of = state_of;
      packed = λ s. tidy s.line;
      kept = λ s. ledger.tidy s.last.at s.ledger;
      outcome = outcome;
      tidy_state = tidy_state;
      view_state = λ v e. view_state v (sound_writable v e);
      keeps = lists_stay.keeps;
      refreshes = refreshed_list;
      allowed = lists_stay.allowed;
    }

-- a state is laid out where its line and its ledger are
pub laid_out : (s : State) → Packed s.line → ledger.Packed s.last.at s.ledger → LaidOut s
laid_out s p l =
    λ i.
    record {
      line = p i;
      ledger = l i;
      loads = s.loads;
      levels = s.levels;
      clock = s.clock;
      last = s.last;
      counts = s.counts;
      tuning = s.tuning;
      profile = s.profile;
      oldway = s.oldway;
      live = s.live;
    }

-- a sound state laid out is given as one
pub given_of : (a : State) (w : Listed) → a ≡ state_of w → sound w ≡ true → Given a
given_of a w e h = let v = says engine a w e h in (e ∙ ap state_of (sym v), ap sound v ∙ h)

-- what is known of a state that is given
pub record Known (s : State) : Type 0 where
  pub groups : Groups (view_of s)
  pub tight : Packed s.line
  pub short : s.line.len ≤ places
  pub sum : s.counts.accepted ≡ s.counts.sent + s.counts.expired + s.counts.displaced + s.line.len
  pub ledger_tight : ledger.Packed s.last.at s.ledger
  pub few : s.ledger.len ≤ forty
  pub ordered : ledger.InOrder (ledger.items s.last.at s.ledger)
  pub in_good_time : ledger.Timely (ledger.items s.last.at s.ledger)

pub known : (s : State) → Given s → Known s
known s h =
    let now = s.clock.time in
    let t : Packed s.line = ap (λ (x : State). x.line) h.0 in
    let lt : ledger.Packed s.last.at s.ledger = ap (λ (x : State). x.ledger) h.0 in
    let g = groups (view_of s) h.1 in
    record {
      groups = g;
      tight = t;
      short = omega (arith, packed-length s.line t, at_most_twenty s.profile now (items s.line) g.packets);
      sum = omega (arith, g.sum, packed-length s.line t);
      ledger_tight = lt;
      few = omega (arith, list_length s.last.at s.ledger lt, g.few);
      ordered = record { profile = s.profile; now = now; last = s.last; rules = g.rules };
      in_good_time =
          read_timely s.last.at (take s.ledger.len s.ledger.slots) (omega (arith, g.last_past, g.time));
    }
