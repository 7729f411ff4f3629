-- Admissions of a run are at least its profile's least wait apart, so few of them are of the last second: where as many and one
-- more fit by their on-time, the second has room. It also has room once all but so few of them are a second old.
use Prim.Native.Nat.{ℕ, zero, suc, ◌+◌, ◌-◌, ◌*◌, ◌≤◌}
use mathlib.Core.Path.{◌≡◌, ap}
use mathlib.Core.Logic.{◌⊎◌, inl, inr, ⊎_elim}
use mathlib.Core.Bool.{true, cond}
use mathlib.Core.List.{List, [], ◌∷◌}
use native.Mathlib.Nat.{suc-mul, mul-le-mul_left, mul_comm, le-div_iff_mul-le}
use native.Mathlib.Omega.{arith}
use lib.Dec.{ltb}
use Rattle.rules.specs.Profiles.{limits_of}
use Rattle.rules.specs.Wait.{ceil_div}
use Rattle.rules.proofs.Cases.{split, on_test}
use Rattle.rules.proofs.Tests.{tested}
use Rattle.control.specs.Owed.{second}
use Rattle.model.specs.declared.Admission.{Admission}
use Rattle.model.specs.Ledger.{air_of}
use Rattle.model.specs.Journal.{last_second}
use Rattle.model.specs.Claims.{All, most_in_second}
use Rattle.model.proofs.Aging.{air_append}
use Rattle.model.proofs.AnySecond.{last_empty}
use Rattle.model.proofs.DeliveryLines.{all_more}
use Rattle.label.specs.Calm.{always_room}
use Rattle.label.proofs.Rows.{Chain, so_far}
use Rattle.label.proofs.Pace.{Waits, Allows, Paced, fit}
use Rattle.label.proofs.Steps.{due, Indexed}

-- none is newer than the newest
chain_old : (profile next : ℕ) (l : List Admission) → Chain (Waits profile) (Allows profile) next l
    → All (λ (a : Admission). a.at ≤ next) l
chain_old profile next [] c = tt
chain_old profile next (a ∷ l) c =
    (omega (arith, c.0), all_more _ _ l (λ b h. omega (arith, c.0)) (chain_old profile a.at l c.2))

-- so long after the newest; at any time where there is none
abbrev pub after : (floor : ℕ) → List Admission → ℕ
after floor [] = 0
after floor (a ∷ l) = a.at + floor

pub after_all : (profile floor now : ℕ) (l : List Admission) → Paced profile l → after floor l ≤ now
    → All (λ (a : Admission). a.at + floor ≤ now) l
after_all profile floor now [] c h = tt
after_all profile floor now (a ∷ l) c h =
    (omega arith, all_more _ _ l (λ b k. omega arith) (chain_old profile a.at l c.1))

pub all_after : (floor now : ℕ) (l : List Admission) → All (λ (a : Admission). a.at + floor ≤ now) l → after floor l ≤ now
all_after floor now [] h = omega arith
all_after floor now (a ∷ l) h = h.0

module _ (profile ontime now : ℕ) where
  abbrev least : ℕ
  least = (limits_of profile).leastwait

  -- those of the last second, with the next at some time: k of them take k times the least wait
  record Few (next : ℕ) (l : List Admission) : Type 0 where
    pub k : ℕ
    pub air : air_of (last_second now l) ≤ k * ontime
    pub time : k * least ≤ next + 999999 - now

  few : (next : ℕ) (l : List Admission) → Chain (Waits profile) (Allows profile) next l
      → All (λ (a : Admission). a.ontime ≤ ontime) l → Few next l
  unfolding last_second air_of
  few next [] c h = record { k = 0; air = omega arith; time = omega arith }
  few next (a ∷ l) c h =
      let r = few a.at l c.2 h.1 in
      let newest = cond (ltb (now - a.at) 1000000) (a ∷ []) [] in
      let more = air_append (last_second now l) newest in
      split (ltb (now - a.at) 1000000)
      (λ e.
      let one : air_of newest ≡ a.ontime + 0 = rw e in
      record {
        k = suc r.k;
        air = omega (arith, more, one, r.air, h.0, suc-mul r.k ontime);
        time = omega (tested, r.time, c.0, suc-mul r.k least);
      })
      (λ e.
      let none : air_of newest ≡ 0 = rw e in
      record { k = r.k; air = omega (arith, more, none, r.air); time = omega (arith, r.time, c.0) })

  -- one more
  pub has_room : (l : List Admission) → Chain (Waits profile) (Allows profile) now l
      → All (λ (a : Admission). a.ontime ≤ ontime) l → always_room profile ontime ≡ true
      → ontime + air_of (last_second now l) ≤ most_in_second
  has_room l c h room =
      let r = few now l c h in
      let count : suc r.k ≤ ceil_div second least =
      (le-div_iff_mul-le (fit profile).some).1 (omega (arith, r.time, suc-mul r.k least)) in
      omega (tested, r.air, suc-mul r.k ontime, mul_comm (suc r.k) ontime, mul-le-mul_left ontime count)

-- when the one behind the newest k is a second old; at any time where there is none
abbrev pub aged : (k : ℕ) → List Admission → ℕ
aged k [] = 0
aged zero (a ∷ l) = a.at + second
aged (suc k) (a ∷ l) = aged k l

-- then at most k are of the last second
pub few_young : (profile ontime now k : ℕ) (l : List Admission) → Paced profile l
    → All (λ (a : Admission). a.ontime ≤ ontime) l → aged k l ≤ now → air_of (last_second now l) ≤ k * ontime
unfolding last_second air_of
few_young profile ontime now k [] c h g = omega arith
few_young profile ontime now zero (a ∷ l) c h g =
    let none = last_empty now second (a ∷ l) (omega arith) (after_all profile second now (a ∷ l) c g) in
    omega (arith, ap air_of none)
few_young profile ontime now (suc k) (a ∷ l) c h g =
    let newest = cond (ltb (now - a.at) 1000000) (a ∷ []) [] in
    let one : air_of newest ≤ a.ontime =
    on_test (λ u. air_of (cond u (a ∷ []) []) ≤ a.ontime) (ltb (now - a.at) 1000000) (λ e. omega arith) (λ e. omega arith) in
    let rest =
    few_young profile ontime now k l (so_far (Waits profile) (Allows profile) a.at l c.1) h.1 g in
    omega (arith, air_append (last_second now l) newest, one, rest, h.0, suc-mul k ontime)

-- Of a stretch in which the nth came by its time.

pub after_due : (late start once each floor n : ℕ) (l : List Admission) → floor + late ≤ each → Indexed start once each n l
    → after floor l + late ≤ due start once each (suc n)
after_due late start once each floor n [] g i = omega (arith, suc-mul n each)
after_due late start once each floor zero (a ∷ l) g i = omega (arith, i.0)
after_due late start once each floor (suc n) (a ∷ l) g i = omega (arith, i.0, suc-mul (suc n) each)

aged-before : (start once each k : ℕ) (l : List Admission) → Indexed start once each zero l → aged k l ≤ start + second
aged-before start once each k [] i = omega arith
aged-before start once each zero (a ∷ l) i = omega (arith, i.0)
aged-before start once each (suc k) (a ∷ l) i = aged-before start once each k l i.1

aged-within : (start once each k n : ℕ) (l : List Admission) → Indexed start once each n l
    → (aged k l + k * each ≤ due start once each n + second) ⊎ (aged k l ≤ start + second)
aged-within start once each k n [] i = inr (omega arith)
aged-within start once each k zero (a ∷ l) i = inr (aged-before start once each k (a ∷ l) i)
aged-within start once each zero (suc n) (a ∷ l) i = inl (omega (arith, i.0))
aged-within start once each (suc k) (suc n) (a ∷ l) i =
    ⊎_elim (λ h. inl (omega (arith, suc-mul k each, suc-mul n each))) (λ h. inr h)
    (aged-within start once each k n l i.1)

pub aged_due : (late start each k n : ℕ) (l : List Admission) → late ≤ each → second + late ≤ suc k * each
    → Indexed start second each n l → aged k l + late ≤ due start second each (suc n)
aged_due late start each k n l g h i =
    ⊎_elim (λ e. omega (arith, suc-mul k each, suc-mul n each)) (λ e. omega (arith, suc-mul n each))
    (aged-within start second each k n l i)
