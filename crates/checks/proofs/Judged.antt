-- A state is unsound by one of its groups, or by what waits; else it is sound exactly if its ledger is.
use Prim.Native.Nat.{ℕ, ◌<◌, ◌≤◌}
use mathlib.Core.Path.{◌≡◌, refl, ap, sym, ◌∙◌}
use mathlib.Core.Bool.{Bool, true, false, ◌&&◌, and-false, and-true, false≢true}
use lib.Dec.{leb, eqb}
use borrow.Author.Tests.{ne_eqb, eq-eqb, le-leb, lt-leb, ltb-true, ltb-false}
use Rattle.rules.specs.Tests.{all_of}
use Rattle.rules.specs.Clock.{end_of_time, passes_end}
use Rattle.rules.proofs.Cases.{both}
use Rattle.control.specs.Control.{sound_control}
use Rattle.model.specs.Packets.{Holding}
use Rattle.model.specs.Ledger.{ledger_rules}
use Rattle.model.specs.State.{Status, last_rules, count_rules, sound}
use Rattle.checks.proofs.Engine.{Engine, sound_in}

pub in_good_time : (time : ℕ) → passes_end time ≡ false → time ≤ end_of_time
unfolding passes_end
in_good_time time e = ltb-false end_of_time time e

-- an answer of no says nothing more
pub no : (u : Bool) (P : Type 0) → u ≡ false → (false ≡ u) × (false ≡ true → P)
no u P e = (sym e, λ z. absurd (false≢true z))

by_waiting : (t u a b c d e f z : Bool) → t && f ≡ false → (t && u) && (a && (b && (c && (d && (e && (f && z)))))) ≡ false
by_waiting true u a b c d e f z g = simp (g, and-false)
by_waiting false u a b c d e f z g = refl

all_but : (t u a b c d e f z w : Bool) → a ≡ true → b ≡ true → c ≡ true → d ≡ true → e ≡ true → t && f ≡ true → z ≡ true
    → (t && u) && (a && (b && (c && (d && (e && (f && (z && (w && true)))))))) ≡ (u && w)
all_but t u a b c d e f z w ha hb hc hd he hf hz =
    let k = both t f hf in simp (k.0, ha, hb, hc, hd, he, k.1, hz, and-true)

module _ {h : Holding} (e : Engine h) (s : e.State) where
  abbrev v : Status h
  v = e.view_of s

  abbrev lasting : Bool
  lasting = all_of (last_rules v.control.profile v.clock.time v.last)

  abbrev fitting : Bool
  fitting = h.fits v.control.profile v.clock.time v.waiting

  abbrev noting : Bool
  noting = all_of (ledger_rules v.control.profile v.clock.time v.last v.ledger)

  pub unsound_live : (v.live ≡ 1 → ⊥) → sound_in e s ≡ false
  unfolding sound
  unsound_live g = simp (ne_eqb v.live 1 g, and-false)

  pub unsound_way : 1 < v.oldway → sound_in e s ≡ false
  unfolding sound
  unsound_way g = simp (lt-leb v.oldway 1 g, and-false)

  pub unsound_control : sound_control v.control ≡ false → sound_in e s ≡ false
  unfolding sound
  unsound_control g = simp (g, and-false)

  pub unsound_time : passes_end v.clock.time ≡ true → sound_in e s ≡ false
  unfolding sound passes_end
  unsound_time g = simp (lt-leb v.clock.time end_of_time (ltb-true end_of_time v.clock.time g), and-false)

  pub unsound_last : lasting ≡ false → sound_in e s ≡ false
  unfolding sound
  unsound_last g = simp (g, and-false)

  -- what waits, with its padding
  pub unsound_waiting : e.packed s && fitting ≡ false → sound_in e s ≡ false
  unfolding sound
  unsound_waiting g =
      by_waiting (e.packed s) (e.kept s) (eqb v.live 1) (leb v.oldway 1) (sound_control v.control)
      (leb v.clock.time end_of_time) lasting fitting _ g

  module _ (n : ℕ) (same : n ≡ h.total v.waiting) where
    counts_of_lem : all_of (count_rules (h.total v.waiting) v.counts) ≡ all_of (count_rules n v.counts)
    counts_of_lem = ap (λ (m : ℕ). all_of (count_rules m v.counts)) (sym same)

    pub unsound_counts : all_of (count_rules n v.counts) ≡ false → sound_in e s ≡ false
    unfolding sound
    unsound_counts g = simp (counts_of_lem ∙ g, and-false)

    -- all else being well, it goes by the ledger
    pub by_ledger : v.live ≡ 1 → v.oldway ≤ 1 → sound_control v.control ≡ true → passes_end v.clock.time ≡ false
        → lasting ≡ true → e.packed s && fitting ≡ true → all_of (count_rules n v.counts) ≡ true
        → sound_in e s ≡ (e.kept s && noting)
    unfolding sound passes_end
    by_ledger live way control time last waiting counts =
        all_but (e.packed s) (e.kept s) (eqb v.live 1) (leb v.oldway 1) (sound_control v.control)
        (leb v.clock.time end_of_time) lasting fitting (all_of (count_rules (h.total v.waiting) v.counts)) noting
        (eq-eqb v.live 1 live) (le-leb v.oldway 1 way) control
        (le-leb v.clock.time end_of_time (ltb-false end_of_time v.clock.time time)) last waiting (counts_of_lem ∙ counts)
