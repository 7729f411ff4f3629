-- The ledger is the journal's last second, and the air allowed each admission of the journal when it came. So any half-open
-- stretch of a second has at most 30,000 µs of air time: the newest admission in it came less than a second after the others.
use Prim.Native.Nat.{ℕ, ◌+◌, ◌-◌, ◌≤◌, ◌<◌}
use mathlib.Core.Path.{◌≡◌, refl, ap, ap₂, ◌∙◌}
use mathlib.Core.Bool.{true, cond, ◌&&◌}
use mathlib.Core.List.{List, [], ◌∷◌, ◌++◌}
use native.Mathlib.Omega.{arith}
use lib.Dec.{leb, ltb}
use Rattle.rules.proofs.Cases.{on_cond, on_test, both}
use Rattle.rules.proofs.Tests.{tested}
use Rattle.control.specs.Owed.{second}
use Rattle.model.specs.declared.Admission.{Admission}
use Rattle.model.specs.Ledger.{most_air, is_young, young, air_of, air_allows}
use Rattle.model.specs.Journal.{air_in, last_second}
use Rattle.model.specs.Claims.{All, Apart, most_in_second}
use Rattle.model.proofs.Aging.{air_append, young-append}

-- what the ledger keeps as time goes on is the journal's last second
young-one : (now then : ℕ) (a : Admission) → now ≤ then
    → young then (cond (ltb (now - a.at) 1000000) (a ∷ []) []) ≡ cond (ltb (then - a.at) 1000000) (a ∷ []) []
unfolding young
young-one now then a s =
    on_test (λ u. young then (cond u (a ∷ []) []) ≡ cond (ltb (then - a.at) 1000000) (a ∷ []) []) (ltb (now - a.at) 1000000)
    (λ e. on_test (λ w. cond w (a ∷ []) [] ≡ cond (ltb (then - a.at) 1000000) (a ∷ []) []) (is_young then a)
    (λ f. on_test (λ w. a ∷ [] ≡ cond w (a ∷ []) []) (ltb (then - a.at) 1000000) (λ g. refl) (λ g. absurd (omega tested)))
    (λ f. on_test (λ w. [] ≡ cond w (a ∷ []) []) (ltb (then - a.at) 1000000) (λ g. absurd (omega tested)) (λ g. refl)))
    (λ e. on_test (λ w. [] ≡ cond w (a ∷ []) []) (ltb (then - a.at) 1000000) (λ g. absurd (omega tested)) (λ g. refl))

pub young_last : (now then : ℕ) (l : List Admission) → now ≤ then → young then (last_second now l) ≡ last_second then l
unfolding last_second young
young_last now then [] s = refl
young_last now then (a ∷ l) s =
    young-append then (last_second now l) (cond (ltb (now - a.at) 1000000) (a ∷ []) [])
    ∙ ap₂ (λ x y. x ++ y) (young_last now then l s) (young-one now then a s)

-- each admission fitted
abbrev pub Fitted : List Admission → Type 0
Fitted [] = Unit {0}
Fitted (a ∷ l) = (air_of (last_second a.at (a ∷ l)) ≤ most_air) × Fitted l

-- at a time in a stretch, the stretch so far is within the last second
covered : (from now : ℕ) (l : List Admission) → now < from + second → air_in from (from + second) l ≤ air_of (last_second now l)
unfolding air_in last_second air_of
covered from now [] h = omega arith
covered from now (a ∷ l) h =
    let more = covered from now l h in
    let added = air_append (last_second now l) (cond (ltb (now - a.at) 1000000) (a ∷ []) []) in
    let one : cond (leb from a.at && ltb a.at (from + second)) a.ontime 0
    ≤ air_of (cond (ltb (now - a.at) 1000000) (a ∷ []) []) =
    on_test (λ u. cond (u && ltb a.at (from + second)) a.ontime 0 ≤ air_of (cond (ltb (now - a.at) 1000000) (a ∷ []) []))
    (leb from a.at)
    (λ e. on_cond (λ (x : List Admission). cond (ltb a.at (from + second)) a.ontime 0 ≤ air_of x) (ltb (now - a.at) 1000000)
    (λ f. on_cond (λ n. n ≤ a.ontime + 0) (ltb a.at (from + second)) (λ g. omega arith) (λ g. omega arith))
    (λ f. absurd (omega tested)))
    (λ e. omega arith) in
    omega arith

pub in_second : (from : ℕ) (l : List Admission) → Fitted l → air_in from (from + second) l ≤ most_in_second
unfolding air_in
in_second from [] h = omega arith
in_second from (a ∷ l) h =
    on_test (λ u. cond u a.ontime 0 + air_in from (from + second) l ≤ most_in_second)
    (leb from a.at && ltb a.at (from + second))
    (λ e.
    let within = both (leb from a.at) (ltb a.at (from + second)) e in
    omega (arith, h.0, rw e at (covered from a.at (a ∷ l) (omega (tested, within.1)))))
    (λ e. omega (arith, in_second from l h.1))

-- a ledger that follows the journal's admissions
pub record Followed (now : ℕ) (l ledger : List Admission) : Type 0 where
  pub same : ledger ≡ last_second now l
  pub allowed : Fitted l
  pub apart : Apart l

pub followed_later : (now then : ℕ) (l ledger : List Admission) → now ≤ then → Followed now l ledger
    → Followed then l (young then ledger)
followed_later now then l ledger s f =
    record { same = ap (young then) f.same ∙ young_last now then l s; allowed = f.allowed; apart = f.apart }

-- one more
module _ (now ontime : ℕ) (l ledger : List Admission) where
  abbrev new : Admission
  new = record { at = now; ontime = ontime }

  noted : ledger ≡ last_second now l → ledger ++ (new ∷ []) ≡ last_second now (new ∷ l)
  unfolding last_second
  noted e =
      on_test (λ u. ledger ++ (new ∷ []) ≡ last_second now l ++ cond u (new ∷ []) []) (ltb (now - now) 1000000)
      (λ u. ap (λ (x : List Admission). x ++ (new ∷ [])) e) (λ u. absurd (omega tested))

  pub followed_sent : air_allows ontime ledger ≡ true → Apart (new ∷ l) → Followed now l ledger
      → Followed now (new ∷ l) (ledger ++ (new ∷ []))
  unfolding air_of
  followed_sent a gap f =
      let e = noted f.same in
      record {
        same = e;
        allowed = (omega (tested, air_append ledger (new ∷ []), ap air_of e), f.allowed);
        apart = gap;
      }

-- after the quiet time it is empty
pub last_empty : (now gap : ℕ) (l : List Admission) → second ≤ gap → All (λ (a : Admission). a.at + gap ≤ now) l
    → last_second now l ≡ []
unfolding last_second
last_empty now gap [] s q = refl
last_empty now gap (a ∷ l) s q =
    on_test (λ u. last_second now l ++ cond u (a ∷ []) [] ≡ []) (ltb (now - a.at) 1000000)
    (λ e. absurd (omega (tested, q.0)))
    (λ e. rw (last_empty now gap l s q.1))
