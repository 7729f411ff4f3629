-- What the code makes of a state is what the model makes of what it says, laid out: group by group, each from the result of the
-- function that gave it.
use Prim.Native.Nat.{ℕ, ◌+◌, ◌-◌, ◌≤◌, ◌<◌}
use mathlib.Core.Path.{◌≡◌, ap, ap₂, sym, ◌∙◌, subst⁻¹}
use mathlib.Core.Bool.{Bool, true, false, cond}
use mathlib.Core.List.{List, [], ◌∷◌, ◌++◌}
use native.Mathlib.Omega.{arith}
use lib.Dec.{eqb}
use lib.ListN.{length, length-take}
use borrow.Author.Tests.{le-leb, lt-leb}
use Rattle.rules.specs.Profiles.{last_priority, room}
use Rattle.rules.specs.Samples.{load_of}
use Rattle.rules.specs.Refusals.{first_of}
use Rattle.rules.proofs.Cases.{split}
use Rattle.machine.specs.declared.Loads.{Loads}
use Rattle.control.specs.declared.Tuning.{Tuning}
use Rattle.control.specs.Control.{Control, control_of, Steerable, sampled}
use Rattle.model.specs.declared.Offer.{Offer}
use Rattle.model.specs.declared.Packet.{Packet}
use Rattle.model.specs.declared.Clock.{Clock}
use Rattle.model.specs.declared.Counts.{Counts}
use Rattle.model.specs.Packets.{without_expired, at_back}
use Rattle.model.specs.Ledger.{young}
use Rattle.model.specs.State.{with_control}
use Rattle.model.specs.Calls.{offer}
use Rattle.model.specs.Effects.{stepped, moved, refreshed, sampled_by, one_accepted, one_sent, one_displaced, more_expired}
use Rattle.model.specs.Effects.{expired, displaced, room_made, joined, admits}
use Rattle.model.specs.Gate.{number_checks, room_checks, own_checks}
use Rattle.model.proofs.Orders.{expired-length}
use Rattle.ledger.specs.declared.Ledger.{Ledger}
use Rattle.ledger.specs.Layout as ledger
use Rattle.line.specs.declared.Line.{Line}
use Rattle.line.specs.Line.{Listed, count_of, without}
use Rattle.line.specs.Layout.{places, items, packed, Packed}
use Rattle.line.proofs.Packing.{items-packed, packed-Packed, packed-length}
use Rattle.line.proofs.Rules.{place_left}
use Rattle.checks.proofs.Offering.{then_rest}
use Rattle.plain.specs.declared.State.{State}
use Rattle.plain.specs.Layout.{control_on, view_of, state_of, LaidOut}
use Rattle.plain.proofs.Views.{moved_writable, view_state, Known}

-- those that wait in a state laid out
pub waits : (a : State) (w : Listed) → a ≡ state_of w → items a.line ≡ w.waiting
waits a w e = ap (λ (x : State). items x.line) e ∙ items-packed w.waiting

-- the clock moved and the aged dropped
pub advanced : (s : State) (stamp : ℕ) (clock : Clock) (l : Ledger) → LaidOut s → clock ≡ stepped s.clock stamp
    → l ≡ ledger.packed s.last.at (young clock.time (ledger.items s.last.at s.ledger))
    → ◌≡◌ {A = State}
    (record {
      line = s.line;
      ledger = l;
      loads = s.loads;
      levels = s.levels;
      clock = clock;
      last = s.last;
      counts = s.counts;
      tuning = s.tuning;
      profile = s.profile;
      oldway = s.oldway;
      live = s.live;
    })
    (state_of (moved (view_of s) stamp))
advanced s stamp clock l h e f =
    let line : s.line ≡ packed (items s.line) = ap (λ (x : State). x.line) h in
    let es = ledger.items s.last.at s.ledger in
    let g : l ≡ ledger.packed s.last.at (young (stepped s.clock stamp).time es) =
    f ∙ ap (λ (c : Clock). ledger.packed s.last.at (young c.time es)) e in
    λ i.
    record {
      line = line i;
      ledger = g i;
      loads = s.loads;
      levels = s.levels;
      clock = e i;
      last = s.last;
      counts = s.counts;
      tuning = s.tuning;
      profile = s.profile;
      oldway = s.oldway;
      live = s.live;
    }

pub same_line : (s a : State) (stamp : ℕ) → LaidOut s → a ≡ state_of (moved (view_of s) stamp) → a.line ≡ s.line
same_line s a stamp h e = ap (λ (x : State). x.line) e ∙ sym (ap (λ (x : State). x.line) h)

pub same_counts : (s a : State) (stamp : ℕ) → a ≡ state_of (moved (view_of s) stamp) → a.counts ≡ s.counts
same_counts s a stamp e = ap (λ (x : State). x.counts) e

-- a state with another line and other counts
abbrev pub with_line : State → Line → Counts → State
with_line a l c =
    record {
      line = l;
      ledger = a.ledger;
      loads = a.loads;
      levels = a.levels;
      clock = a.clock;
      last = a.last;
      counts = c;
      tuning = a.tuning;
      profile = a.profile;
      oldway = a.oldway;
      live = a.live;
    }

-- the expired gone
pub shorter : (l left : Line) (now : ℕ) → left ≡ packed (without_expired now (items l)) → left.len ≤ l.len
unfolding packed
shorter l left now e =
    omega (arith, ap (λ (x : Line). x.len) e, expired-length now (items l), length-take l.len l.packets)

pub refreshes : (a : State) (w : Listed) (left : Line) → a ≡ state_of w
    → left ≡ packed (without_expired a.clock.time (items a.line))
    → with_line a left (more_expired a.counts (a.line.len - left.len)) ≡ state_of (expired w)
unfolding packed
refreshes a w left e f =
    let now = w.clock.time in
    let g : left ≡ packed (without_expired now w.waiting) =
    f ∙ ap (λ (x : State). packed (without_expired x.clock.time (items x.line))) e
    ∙ ap (λ (ps : List Packet). packed (without_expired now ps)) (items-packed w.waiting) in
    ap₂ (λ (x : State) (l : Line). with_line x l (more_expired x.counts (x.line.len - l.len))) e g

-- what samples steer, moved by a load
abbrev pub steered_to : State → Tuning → Loads → State
steered_to a t l =
    record {
      line = a.line;
      ledger = a.ledger;
      loads = l;
      levels = a.levels;
      clock = a.clock;
      last = a.last;
      counts = a.counts;
      tuning = t;
      profile = a.profile;
      oldway = a.oldway;
      live = a.live;
    }

pub steers : (s : State) (k : Control) (t : Tuning) (l : Loads) → LaidOut s → control_of s.profile t s.levels l ≡ k
    → steered_to s t l ≡ state_of (with_control (view_of s) k)
steers s k t l h e =
    λ i.
    record {
      line = (h i).line;
      ledger = (h i).ledger;
      loads = (e i).loads;
      levels = (e i).levels;
      clock = s.clock;
      last = s.last;
      counts = s.counts;
      tuning = (e i).tuning;
      profile = (e i).profile;
      oldway = s.oldway;
      live = s.live;
    }

-- a sample moves the clock first: what it leaves is laid out, and steered by as much
advanced_says : (s a : State) (stamp : ℕ) → a ≡ state_of (moved (view_of s) stamp) → view_of a ≡ moved (view_of s) stamp
advanced_says s a stamp e = ap view_of e ∙ view_state (moved (view_of s) stamp) (moved_writable s stamp)

pub advanced_laid : (s a : State) (stamp : ℕ) → a ≡ state_of (moved (view_of s) stamp) → LaidOut a
advanced_laid s a stamp e = e ∙ ap state_of (sym (advanced_says s a stamp e))

pub advanced_steerable : (s a : State) (stamp : ℕ) → a ≡ state_of (moved (view_of s) stamp)
    → Steerable s.profile s.tuning → Steerable a.profile a.tuning
advanced_steerable s a stamp e h = subst⁻¹ (λ (x : State). Steerable x.profile x.tuning) e h

pub samples : (s a r : State) (stamp busy probes load : ℕ) → a ≡ state_of (moved (view_of s) stamp) → load ≡ load_of busy probes
    → r ≡ state_of (with_control (view_of a) (sampled (control_on a) load)) → r
    ≡ state_of (sampled_by (view_of s) stamp busy probes)
samples s a r stamp busy probes load e f k =
    k ∙ ap₂ (λ (v : Listed) (n : ℕ). state_of (with_control v (sampled v.control n))) (advanced_says s a stamp e) f

-- an offer's room, once the expired are gone
room_at : (a : State) (w : Listed) (n : ℕ) → a ≡ state_of w
    → first_of (room_checks a.oldway (count_of n (items a.line)) a.counts.accepted)
    ≡ first_of (room_checks w.oldway (count_of n w.waiting) w.counts.accepted)
room_at a w n e =
    ap₂ (λ (x : State) (ps : List Packet). first_of (room_checks x.oldway (count_of n ps) x.counts.accepted)) e (waits a w e)

-- where an offer's own numbers pass, its room is judged last
pub room_last : (s : State) (stamp : ℕ) (o : Offer) (a : State) → a ≡ state_of (refreshed (view_of s) stamp)
    → first_of (number_checks s.profile o) ≡ 0
    → first_of (own_checks (view_of s) (offer stamp o))
    ≡ first_of (room_checks a.oldway (count_of o.priority (items a.line)) a.counts.accepted)
room_last s stamp o a e allowed =
    then_rest s.profile o _ allowed ∙ sym (room_at a (refreshed (view_of s) stamp) o.priority e)

-- one of a priority fewer leaves a place, and so does a priority that has fewer than five
without_fewer : (n : ℕ) (ps : List Packet) → 1 ≤ count_of n ps → length (without n ps) + 1 ≡ length ps
unfolding count_of without
without_fewer n [] h = absurd (omega arith)
without_fewer n (p ∷ ps) h =
    split (eqb p.priority n) (λ e. rw e (omega arith))
    (λ e. let k : 1 ≤ count_of n ps = rw e at h in rw e (omega (arith, without_fewer n ps k)))

pub room_full : (s : State) (n : ℕ) (l : Line) → Known s → room ≤ count_of n (items s.line)
    → l ≡ packed (without n (items s.line)) → Packed l × (l.len < places)
unfolding packed
room_full s n l k h e =
    let ps = items s.line in (
      subst⁻¹ Packed e (packed-Packed (without n ps)),
      omega (
        arith,
        ap (λ (x : Line). x.len) e,
        without_fewer n ps (omega (arith, h)),
        packed-length s.line k.tight,
        k.short,
      ),
    )

pub room_free : (s : State) (n : ℕ) (l : Line) → Known s → n ≤ last_priority → count_of n (items s.line) < room → l ≡ s.line
    → Packed l × (l.len < places)
room_free s n l k m h e =
    subst⁻¹ (λ (x : Line). Packed x × (x.len < places)) e (
      k.tight,
      omega (
        arith,
        packed-length s.line k.tight,
        place_left s.profile s.clock.time (items s.line) n k.groups.packets m h,
      ),
    )

-- a packet joins, where five of its priority wait and where they don't
joins : (s : State) (p : Packet) (r : Line) (c : Counts) (u : Bool) → LaidOut s
    → r ≡ packed (at_back p (cond u (without p.priority (items s.line)) (items s.line)))
    → c ≡ cond u (one_displaced (one_accepted s.counts)) (one_accepted s.counts)
    → with_line s r c ≡ state_of (joined (cond u (displaced (view_of s) p.priority) (view_of s)) p)
joins s p r c true h e f = λ i. record {
  line = e i;
  ledger = (h i).ledger;
  loads = s.loads;
  levels = s.levels;
  clock = s.clock;
  last = s.last;
  counts = f i;
  tuning = s.tuning;
  profile = s.profile;
  oldway = s.oldway;
  live = s.live;
}
joins s p r c false h e f = λ i. record {
  line = e i;
  ledger = (h i).ledger;
  loads = s.loads;
  levels = s.levels;
  clock = s.clock;
  last = s.last;
  counts = f i;
  tuning = s.tuning;
  profile = s.profile;
  oldway = s.oldway;
  live = s.live;
}

module _ (s : State) (p : Packet) (l r : Line) (c : Counts) (h : LaidOut s) (e : r ≡ packed (at_back p (items l))) where
  abbrev Joins : Type 0
  Joins = with_line s r c ≡ state_of (joined (room_made (view_of s) p.priority) p)

  pub joins_full : room ≤ count_of p.priority (items s.line) → l ≡ packed (without p.priority (items s.line))
      → c ≡ one_displaced (one_accepted s.counts) → Joins
  joins_full k f g =
      let ps = without p.priority (items s.line) in
      rw (le-leb room (count_of p.priority (items s.line)) k)
      (joins s p r c true h (e ∙ ap (λ (xs : List Packet). packed (at_back p xs)) (ap items f ∙ items-packed ps)) g)

  pub joins_free : count_of p.priority (items s.line) < room → l ≡ s.line → c ≡ one_accepted s.counts → Joins
  joins_free k f g =
      rw (lt-leb room (count_of p.priority (items s.line)) k)
      (joins s p r c false h (e ∙ ap (λ (x : Line). packed (at_back p (items x))) f) g)

-- a packet goes
pub admitted : (s : State) (p : Packet) (l : Line) (r : Ledger) → l ≡ packed (without p.priority (items s.line))
    → r
    ≡ ledger.packed s.clock.time
    (ledger.items s.last.at s.ledger ++ (ledger.admission s.clock.time p.ontime ∷ []))
    → ◌≡◌ {A = State}
    (record {
      line = l;
      ledger = r;
      loads = s.loads;
      levels = s.levels;
      clock = s.clock;
      last = record { at = s.clock.time; ontime = p.ontime; admitted = 1 };
      counts = one_sent s.counts;
      tuning = s.tuning;
      profile = s.profile;
      oldway = s.oldway;
      live = s.live;
    })
    (state_of (admits (view_of s) p (without p.priority (items s.line))))
admitted s p l r e f =
    λ i.
    record {
      line = e i;
      ledger = f i;
      loads = s.loads;
      levels = s.levels;
      clock = s.clock;
      last = record { at = s.clock.time; ontime = p.ontime; admitted = 1 };
      counts = one_sent s.counts;
      tuning = s.tuning;
      profile = s.profile;
      oldway = s.oldway;
      live = s.live;
    }
