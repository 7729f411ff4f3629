-- The clock moved and what has aged dropped from the ledger, then the expired packets gone: the model's refreshed view, laid out.
use Prim.Native.Nat.{ℕ, ◌-◌, ◌≤◌}
use mathlib.Core.Path.{◌≡◌, refl, ap, ap₂, sym, ◌∙◌, subst⁻¹}
use mathlib.Core.Bool.{true}
use mathlib.Core.List.{List, [], ◌∷◌, map}
use native.Mathlib.Omega.{arith}
use lib.ListN.{length}
use Rattle.rules.specs.Profiles.{most_offers}
use Rattle.rules.proofs.Cases.{split}
use Rattle.machine.specs.declared.Loads.{Loads}
use Rattle.machine.specs.Levels.{levels_of}
use Rattle.machine.specs.Loads.{loads_of}
use Rattle.control.specs.Control.{Steerable}
use Rattle.model.specs.declared.Clock.{Clock}
use Rattle.model.specs.declared.Packet.{Packet}
use Rattle.model.specs.Packets.{unexpired, without_expired}
use Rattle.model.specs.Fours.{Four, four, each, how_many}
use Rattle.model.specs.declared.Admission.{Admission}
use Rattle.model.specs.Ledger.{is_young, young}
use Rattle.model.specs.State.{View, sound}
use Rattle.model.specs.Effects.{stepped, more_expired, refreshed}
use Rattle.ledger.specs.declared.Ledger.{Ledger}
use Rattle.ledger.specs.Layout as ledger
use Rattle.ledger.proofs.Settling.{list_length}
use Rattle.checks.proofs.Engine.{says}
use Rattle.waiting.specs.Layout.{Rows, rows, queues, alive, count_in, waiting_in, rows_for}
use Rattle.waiting.specs.Layout as fifo
use Rattle.waiting.proofs.Meaning.{rows-alive, how_many_lem, how_many-alive}
use Rattle.gate.specs.declared.Head.{Head}
use Rattle.gate.specs.declared.State.{State}
use Rattle.gate.specs.Layout.{state_with, state_from, rows_in, view_of, state_of}
use Rattle.gate.specs.Steps.{Settled, head_with, ledger_for, admissions_in, still_there, Advanceable, Advanced}
use Rattle.gate.specs.Steps.{Clearable, Cleared}
use Rattle.gate.proofs.Views.{engine, known, given_of}

-- a head and rows, each known by its parts, are a state from those
pub assembled : {h h' : Head} {words came air slots above waits : List ℕ} {r : Rows} {l : Ledger} {held : Loads} → h ≡ h'
    → rows words came ≡ r → ledger_for h air ≡ l → loads_of h.loads slots ≡ held
    → state_with h words came air slots above waits
    ≡ state_from r l held (levels_of h'.levels h'.calm above waits) h'.clock h'.last h'.counts h'.tuning
    h'.profile h'.oldway h'.live
assembled {above = above} {waits = waits} e f g k =
    λ i.
    let x = e i in
    state_from (f i) (g i) (k i) (levels_of x.levels x.calm above waits) x.clock x.last x.counts x.tuning
    x.profile x.oldway x.live

pub advanced_by : (h : Head) (stamp : ℕ) (air air' : List ℕ) (c : Clock) (n : ℕ) → c ≡ stepped h.clock stamp
    → ledger.ledger_of n air' ≡ ledger.packed h.last.at (young c.time (admissions_in h air))
    → Advanced h stamp air (head_with h c h.last h.counts n) air'
advanced_by h stamp air air' c n e l =
    record {
      head = ap (λ (x : Clock). head_with h x h.last h.counts n) e;
      ledger = l ∙ ap (λ (x : Clock). ledger.packed h.last.at (young x.time (admissions_in h air))) e;
    }

young-length : (now : ℕ) (es : List Admission) → length (young now es) ≤ length es
unfolding young
young-length now [] = omega arith
young-length now (a ∷ es) =
    let h = young-length now es in
    split (is_young now a) (λ e. rw e (omega (arith, h))) (λ e. rw e (omega (arith, h)))

pub aged_few : (h : Head) (air air' : List ℕ) (time n : ℕ) → ledger.Packed h.last.at (ledger_for h air)
    → ledger.ledger_of n air' ≡ ledger.packed h.last.at (young time (admissions_in h air)) → n ≤ h.admissions
unfolding ledger.packed
aged_few h air air' time n t e =
    let m : n ≡ length (young time (admissions_in h air)) = ap (λ (x : Ledger). x.len) e in
    omega (arith, m, young-length time (admissions_in h air), list_length h.last.at (ledger_for h air) t)

pub cleared_by : (h : Head) (r r' : Rows) (gone : ℕ)
    → gone ≡ count_in (queues r) - count_in (map (alive h.clock.time) (queues r))
    → r' ≡ fifo.laid (map (alive h.clock.time) (queues r))
    → Cleared h r (head_with h h.clock h.last (more_expired h.counts gone) h.admissions) r'
cleared_by h r r' gone g f =
    let t = h.clock.time in
    record {
      head =
          ap (λ (n : ℕ). head_with h h.clock h.last (more_expired h.counts n) h.admissions)
          (g ∙ ap₂ (λ (a b : ℕ). a - b) (how_many_lem r) (how_many-alive r t));
      rows = f ∙ rows-alive r t;
    }

-- once the expired are gone, none is expired
again : (now : ℕ) (ps : List Packet) → without_expired now (without_expired now ps) ≡ without_expired now ps
unfolding without_expired
again now [] = refl
again now (p ∷ ps) =
    split (unexpired now p)
    (λ e. rw e (rw e (ap (λ (qs : List Packet). p ∷ qs) (again now ps))))
    (λ e. rw e (again now ps))

each_again : (now : ℕ) (q : Four Packet)
    → each (without_expired now) (each (without_expired now) q) ≡ each (without_expired now) q
each_again now q =
    λ i. four (again now q.c0 i) (again now q.c1 i) (again now q.c2 i) (again now q.c3 i)

-- what a settled state allows
module _ (s : State) (t : Settled s) where
  pub advanceable : Advanceable s.head s.air
  advanceable =
      let k = known s t in
      record {
        time = k.groups.time;
        tight = k.ledger_tight;
        ordered =
            record { profile = s.head.profile; now = s.head.clock.time; last = s.head.last; rules = k.groups.rules };
      }

  module _ (stamp : ℕ) (h : Head) (air : List ℕ) (a : Advanced s.head stamp s.air h air) where
    pub still_steerable : Steerable h.profile h.tuning
    still_steerable = subst⁻¹ (λ (x : Head). Steerable x.profile x.tuning) a.head (known s t).groups.control

    pub clearable : Clearable h (rows_in s)
    clearable =
        let k = known s t in
        record {
          held = k.held;
          expired =
              subst⁻¹ (λ (x : Head). x.counts.expired ≤ most_offers) a.head (omega (arith, k.groups.sum, k.groups.most));
        }

-- both, one after the other
module _ (s : State) (stamp : ℕ) (h₁ h₂ : Head) (air words came : List ℕ) (a : Advanced s.head stamp s.air h₁ air)
    (c : Cleared h₁ (rows_in s) h₂ (rows words came)) where
  abbrev pub cleared : State
  cleared = state_with h₂ words came air s.loads s.above s.waits

  abbrev counted : Head → Head
  counted h =
      head_with h h.clock h.last
      (more_expired h.counts (how_many (waiting_in (rows_in s)) - how_many (still_there h (rows_in s)))) h.admissions

  pub refreshes : cleared ≡ state_of (refreshed (view_of s) stamp)
  refreshes =
      let e = c.head ∙ ap counted a.head in
      assembled e (c.rows ∙ ap (λ (h : Head). rows_for (still_there h (rows_in s))) a.head)
      (ap (λ (h : Head). ledger_for h air) c.head ∙ a.ledger) (ap (λ (h : Head). loads_of h.loads s.loads) e)

  module _ (e : sound (refreshed (view_of s) stamp) ≡ true) where
    pub cleared_settled : Settled cleared
    cleared_settled = given_of cleared (refreshed (view_of s) stamp) refreshes e

    pub cleared_says : view_of cleared ≡ refreshed (view_of s) stamp
    cleared_says = says engine cleared (refreshed (view_of s) stamp) refreshes e

    pub none-expired : still_there h₂ (rows words came) ≡ waiting_in (rows words came)
    none-expired =
        let v = cleared_says in
        ap (λ (x : View). each (without_expired x.clock.time) x.waiting) v
        ∙ each_again (stepped s.head.clock stamp).time (waiting_in (rows_in s))
        ∙ sym (ap (λ (x : View). x.waiting) v)
