-- The µs left are what is left of the wait, and a packet may go exactly if nothing is left of either wait; whatever way packets
-- wait.
use Prim.Native.Nat.{ℕ, ◌-◌, ◌≤◌, max}
use mathlib.Core.Path.{◌≡◌, refl, ap, ap₂, sym, ◌∙◌}
use mathlib.Core.Bool.{Bool, true, false, cond, not, ◌&&◌}
use native.Mathlib.Omega.{arith}
use lib.Dec.{leb, ltb, eqb}
use borrow.Author.Tests.{eqb-false, eq-eqb, ne_eqb}
use Rattle.rules.proofs.Cases.{on_test, both}
use Rattle.rules.proofs.Tests.{tested}
use Rattle.model.specs.declared.Packet.{Packet}
use Rattle.model.specs.Packets.{Holding}
use Rattle.model.specs.Ledger.{most_air, air_allows, allowed_from}
use Rattle.model.specs.State.{Status}
use Rattle.model.specs.Effects.{closed_for, since_last, closed, wait_left, air_left, may_send}
use Rattle.model.proofs.Aging.{AllNoted, all-young, allowed_from_lem}
use Rattle.checks.specs.Checks.{left_at}

by_flag : (u : Bool) (since wait : ℕ) → cond (u && ltb since wait) (wait - since) 0 ≡ cond u (wait - since) 0
by_flag true since wait =
    on_test (λ x. cond x (wait - since) 0 ≡ wait - since) (ltb since wait) (λ e. refl) (λ e. omega tested)
by_flag false since wait = refl

pub left_waits : {h : Holding} (v : Status h) → wait_left v ≡ left_at (closed_for v) v.last v.clock.time
unfolding left_at closed
left_waits v = by_flag (eqb v.last.admitted 1) (since_last v) (closed_for v)

-- both are 0 exactly if the greater is
none_left : (a b : ℕ) → eqb a 0 && eqb b 0 ≡ eqb (max a b) 0
none_left a b =
    on_test (λ u. u && eqb b 0 ≡ eqb (max a b) 0) (eqb a 0)
    (λ e. on_test (λ u. u ≡ eqb (max a b) 0) (eqb b 0) (λ f. sym (eq-eqb (max a b) 0 (omega tested)))
    (λ f. sym (ne_eqb (max a b) 0 (λ z. eqb-false b 0 f (omega arith)))))
    (λ e. sym (ne_eqb (max a b) 0 (λ z. eqb-false a 0 e (omega arith))))

module _ {h : Holding} (v : Status h) (p : Packet) (noted : AllNoted v.control.profile v.clock.time 0 v.ledger)
    (small : p.ontime ≤ most_air) where
  abbrev some : ℕ
  some = closed_for v - since_last v

  open_now : not (closed v) ≡ eqb (wait_left v) 0
  unfolding closed
  open_now =
      on_test (λ u. not u ≡ eqb (cond u some 0) 0) (closed v)
      (λ e. sym (ne_eqb some 0 (λ z.
      absurd (omega (tested, (both (eqb v.last.admitted 1) (ltb (since_last v) (closed_for v)) e).1)))))
      (λ e. refl)

  allowed_now : air_allows p.ontime v.ledger ≡ eqb (air_left v p) 0
  allowed_now =
      ap (air_allows p.ontime) (sym (all-young v.control.profile v.clock.time 0 v.ledger noted))
      ∙ allowed_from_lem p.ontime v.control.profile v.clock.time 0 v.clock.time v.clock.time v.ledger small
      noted (omega arith)
      ∙ on_test (λ u. u ≡ eqb (air_left v p) 0) (leb (allowed_from p.ontime v.clock.time v.ledger) v.clock.time)
      (λ e. sym (eq-eqb (air_left v p) 0 (omega tested))) (λ e. sym (ne_eqb (air_left v p) 0 (λ z. absurd (omega tested))))

  pub may_go : may_send v p ≡ eqb (max (wait_left v) (air_left v p)) 0
  may_go = ap₂ (λ a b. a && b) open_now allowed_now ∙ none_left (wait_left v) (air_left v p)
