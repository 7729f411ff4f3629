-- Packets in order of arrival, each by a rule: the test as facts, and what keeps them so: a weaker rule, expiry, one more at the
-- back. All by induction on the list, over any rule.
use Prim.Native.Nat.{ℕ, ◌≤◌}
use mathlib.Core.Path.{◌≡◌, refl}
use mathlib.Core.Bool.{Bool, true, ◌&&◌}
use mathlib.Core.List.{List, [], ◌∷◌}
use native.Mathlib.Omega.{arith}
use lib.Dec.{leb}
use lib.ListN.{length}
use borrow.Author.Tests.{le-leb}
use Rattle.rules.proofs.Cases.{on_cond, both}
use Rattle.rules.proofs.Tests.{tested}
use Rattle.model.specs.declared.Packet.{Packet}
use Rattle.model.specs.Packets.{unexpired, without_expired, at_back, in_order}

-- P of each packet, and none came before the one before it
abbrev pub InOrder : (Packet → Type 0) → ℕ → List Packet → Type 0
InOrder P since [] = Unit {0}
InOrder P since (p ∷ ps) = P p × (since ≤ p.arrival) × InOrder P p.arrival ps

pub test_order : (rule : Packet → Bool) (P : Packet → Type 0) → ((p : Packet) → rule p ≡ true → P p) → (since : ℕ)
    (ps : List Packet) → in_order rule since ps ≡ true → InOrder P since ps
unfolding in_order
test_order rule P f since [] e = tt
test_order rule P f since (p ∷ ps) e =
    let h = both (rule p && leb since p.arrival) (in_order rule p.arrival ps) e in
    let k = both (rule p) (leb since p.arrival) h.0 in
    (f p k.0, omega (tested, k.1), test_order rule P f p.arrival ps h.1)

pub order_test : (rule : Packet → Bool) (P : Packet → Type 0) → ((p : Packet) → P p → rule p ≡ true) → (since : ℕ)
    (ps : List Packet) → InOrder P since ps → in_order rule since ps ≡ true
unfolding in_order
order_test rule P f since [] h = refl
order_test rule P f since (p ∷ ps) h =
    rw (f p h.0, le-leb since p.arrival h.1, order_test rule P f p.arrival ps h.2)

-- by a weaker rule, and behind less
pub order_more : (P Q : Packet → Type 0) → ((p : Packet) → P p → Q p) → (since less : ℕ) (ps : List Packet) → less ≤ since
    → InOrder P since ps → InOrder Q less ps
order_more P Q f since less [] a h = tt
order_more P Q f since less (p ∷ ps) a h =
    (f p h.0, omega (arith, h.1), order_more P Q f p.arrival p.arrival ps (omega arith) h.2)

-- without the expired
pub order_expired : (P : Packet → Type 0) (since at : ℕ) (ps : List Packet) → InOrder P since ps
    → InOrder P since (without_expired at ps)
unfolding without_expired
order_expired P since at [] h = tt
order_expired P since at (p ∷ ps) h =
    on_cond (InOrder P since) (unexpired at p) (λ e. (h.0, h.1, order_expired P p.arrival at ps h.2))
    (λ e. order_more P P (λ q k. k) p.arrival since (without_expired at ps) h.1 (order_expired P p.arrival at ps h.2))

pub expired-length : (at : ℕ) (ps : List Packet) → length (without_expired at ps) ≤ length ps
unfolding without_expired
expired-length at [] = omega arith
expired-length at (p ∷ ps) =
    on_cond (λ (l : List Packet). length l ≤ length (p ∷ ps)) (unexpired at p) (λ e. omega (arith, expired-length at ps))
    (λ e. omega (arith, expired-length at ps))

-- a packet that comes no earlier than any, at the back
pub order_back : (P : Packet → Type 0) (since : ℕ) (p : Packet) (ps : List Packet)
    → ((q : Packet) → P q → q.arrival ≤ p.arrival) → since ≤ p.arrival → P p → InOrder P since ps
    → InOrder P since (at_back p ps)
order_back P since p [] f a e h = (e, a, tt)
order_back P since p (x ∷ ps) f a e h = (h.0, h.1, order_back P x.arrival p ps f (f x h.0) e h.2)
