-- Ageing takes the oldest first: an admission comes after those before it by a gap, so where one is young all behind it are. That
-- bounds how many there are, and tells from when the air allows a packet.
use Prim.Native.Nat.{ℕ, ◌+◌, ◌*◌, ◌≤◌, ◌<◌}
use mathlib.Core.Path.{◌≡◌, refl, ap, sym, ◌∙◌}
use mathlib.Core.Bool.{true, cond}
use mathlib.Core.List.{List, [], ◌∷◌, ◌++◌}
use native.Mathlib.Omega.{arith}
use lib.Dec.{leb, eqb}
use lib.ListN.{length}
use borrow.Author.Tests.{le-leb, lt-leb, eq-eqb}
use Rattle.rules.specs.Profiles.{ontime_allowed}
use Rattle.rules.proofs.Cases.{on_cond, on_test, both, clash}
use Rattle.rules.proofs.Tests.{tested}
use Rattle.model.specs.declared.Admission.{Admission}
use Rattle.model.specs.declared.Last.{Last}
use Rattle.model.specs.Ledger.{full_age, most_air, spacing, places, is_young, young, air_of, air_allows, allowed_from, newest_is}

-- air time
pub air_append : (x y : List Admission) → air_of (x ++ y) ≡ air_of x + air_of y
unfolding air_of
air_append [] y = omega arith
air_append (a ∷ x) y = omega (arith, air_append x y)

pub air_young : (now : ℕ) (l : List Admission) → air_of (young now l) ≤ air_of l
unfolding air_of young
air_young now [] = omega arith
air_young now (a ∷ l) =
    on_cond (λ (x : List Admission). air_of x ≤ a.ontime + air_of l) (is_young now a) (λ e. omega (arith, air_young now l))
    (λ e. omega (arith, air_young now l))

-- ageing
pub young-append : (now : ℕ) (x y : List Admission) → young now (x ++ y) ≡ young now x ++ young now y
unfolding young
young-append now [] y = refl
young-append now (a ∷ x) y =
    on_test (λ u. cond u (a ∷ young now (x ++ y)) (young now (x ++ y)) ≡ cond u (a ∷ young now x) (young now x) ++ young now y)
    (is_young now a) (λ e. ap (λ (l : List Admission). a ∷ l) (young-append now x y)) (λ e. young-append now x y)

-- what has aged stays out
pub young-young : (now then : ℕ) (l : List Admission) → now ≤ then → young then (young now l) ≡ young then l
unfolding young
young-young now then [] s = refl
young-young now then (a ∷ l) s =
    on_test
    (λ u. young then (cond u (a ∷ young now l) (young now l)) ≡ cond (is_young then a) (a ∷ young then l) (young then l))
    (is_young now a)
    (λ e. ap (λ (x : List Admission). cond (is_young then a) (a ∷ x) x) (young-young now then l s))
    (λ e. young-young now then l s ∙ on_test (λ w. young then l ≡ cond w (a ∷ young then l) (young then l)) (is_young then a)
    (λ f. absurd (omega tested)) (λ f. refl))

-- an admission of a ledger; earliest is when it may be
pub record Noted (profile now earliest : ℕ) (a : Admission) : Type 0 where
  pub late : earliest ≤ a.at
  pub past : a.at ≤ now
  pub age : now < a.at + full_age
  pub ontime : ontime_allowed profile a.ontime ≡ true

abbrev pub AllNoted : ℕ → ℕ → ℕ → List Admission → Type 0
AllNoted profile now earliest [] = Unit {0}
AllNoted profile now earliest (a ∷ l) = Noted profile now earliest a × AllNoted profile now (a.at + spacing) l

module _ (profile now : ℕ) where
  noted_sooner : (earliest sooner : ℕ) (l : List Admission) → sooner ≤ earliest → AllNoted profile now earliest l
      → AllNoted profile now sooner l
  noted_sooner earliest sooner [] s h = tt
  noted_sooner earliest sooner (a ∷ l) s h =
      (record { late = omega (arith, h.0.late); past = h.0.past; age = h.0.age; ontime = h.0.ontime }, h.1)

  -- where what may be earliest is young, all are
  pub still_young : (earliest then : ℕ) (l : List Admission) → then < earliest + full_age → AllNoted profile now earliest l
      → young then l ≡ l
  unfolding young
  still_young earliest then [] y h = refl
  still_young earliest then (a ∷ l) y h =
      on_test (λ u. cond u (a ∷ young then l) (young then l) ≡ a ∷ l) (is_young then a)
      (λ e. ap (λ (x : List Admission). a ∷ x) (still_young (a.at + spacing) then l (omega tested) h.1))
      (λ e. absurd (omega (tested, h.0.late)))

  pub all-young : (earliest : ℕ) (l : List Admission) → AllNoted profile now earliest l → young now l ≡ l
  unfolding young
  all-young earliest [] h = refl
  all-young earliest (a ∷ l) h =
      on_test (λ u. cond u (a ∷ young now l) (young now l) ≡ a ∷ l) (is_young now a)
      (λ e. ap (λ (x : List Admission). a ∷ x) (all-young (a.at + spacing) l h.1))
      (λ e. absurd (omega (tested, h.0.age)))

  -- forty are enough: the gaps of n admissions reach over (n - 1) × 25,000 µs, and the oldest is younger than 1,000,000
  reach : (earliest : ℕ) (l : List Admission) → earliest ≤ now + spacing → AllNoted profile now earliest l
      → earliest + spacing * length l ≤ now + spacing
  reach earliest [] s h = omega arith
  reach earliest (a ∷ l) s h = omega (arith, h.0.late, h.0.past, reach (a.at + spacing) l (omega (arith, h.0.past)) h.1)

  pub noted-forty : (earliest : ℕ) (l : List Admission) → AllNoted profile now earliest l → length l ≤ places
  noted-forty earliest [] h = omega arith
  noted-forty earliest (a ∷ l) h =
      omega (arith, h.0.past, h.0.age, reach (a.at + spacing) l (omega (arith, h.0.past)) h.1)

  -- the newest is the last
  newest_late : (last : Last) (earliest : ℕ) (l : List Admission) → AllNoted profile now earliest l → newest_is last l ≡ true
      → earliest ≤ last.at
  unfolding newest_is
  newest_late last earliest [] h n = clash (cc)
  newest_late last earliest (a ∷ []) h n =
      let same = both (eqb a.at last.at) (eqb a.ontime last.ontime) n in omega (tested, h.0.late, same.0)
  newest_late last earliest (a ∷ b ∷ l) h n = omega (arith, h.0.late, newest_late last (a.at + spacing) (b ∷ l) h.1 n)

  -- where it has aged, all have
  pub all-aged : (then : ℕ) (last : Last) (earliest : ℕ) (l : List Admission) → AllNoted profile now earliest l
      → newest_is last l ≡ true → last.at + full_age ≤ then → young then l ≡ []
  unfolding newest_is young
  all-aged then last earliest [] h n o = refl
  all-aged then last earliest (a ∷ []) h n o =
      let same = both (eqb a.at last.at) (eqb a.ontime last.ontime) n in
      on_cond (λ (x : List Admission). x ≡ []) (is_young then a) (λ e. absurd (omega (tested, same.0))) (λ e. refl)
  all-aged then last earliest (a ∷ b ∷ l) h n o =
      on_cond (λ (x : List Admission). x ≡ []) (is_young then a)
      (λ e. absurd (omega (tested, newest_late last (a.at + spacing) (b ∷ l) h.1 n)))
      (λ e. all-aged then last (a.at + spacing) (b ∷ l) h.1 n o)

  -- one more, at the back
  pub noted_back : (last : Last) (earliest : ℕ) (new : Admission) (l : List Admission) → AllNoted profile now earliest l
      → newest_is last l ≡ true → Noted profile now (last.at + spacing) new → AllNoted profile now earliest (l ++ (new ∷ []))
  unfolding newest_is
  noted_back last earliest new [] h n f = clash (cc)
  noted_back last earliest new (a ∷ []) h n f =
      let same = both (eqb a.at last.at) (eqb a.ontime last.ontime) n in
      (h.0, (record { late = omega (tested, f.late, same.0); past = f.past; age = f.age; ontime = f.ontime }, tt))
  noted_back last earliest new (a ∷ b ∷ l) h n f = (h.0, noted_back last (a.at + spacing) new (b ∷ l) h.1 n f)

-- later, without those that have aged
pub noted-later : (profile now then earliest : ℕ) (l : List Admission) → now ≤ then → AllNoted profile now earliest l
    → AllNoted profile then earliest (young then l)
unfolding young
noted-later profile now then earliest [] s h = tt
noted-later profile now then earliest (a ∷ l) s h =
    on_cond (AllNoted profile then earliest) (is_young then a)
    (λ e. (
      record { late = h.0.late; past = omega (arith, h.0.past); age = omega tested; ontime = h.0.ontime },
      noted-later profile now then (a.at + spacing) l s h.1,
    ))
    (λ e. noted_sooner profile then (a.at + spacing) earliest (young then l) (omega (arith, h.0.late))
    (noted-later profile now then (a.at + spacing) l s h.1))

-- the newest stays while it is young
newest_cons : (last : Last) (a : Admission) (l : List Admission) → newest_is last l ≡ true → newest_is last (a ∷ l) ≡ true
unfolding newest_is
newest_cons last a [] n = clash (cc)
newest_cons last a (b ∷ l) n = n

pub newest_young : (then : ℕ) (last : Last) (l : List Admission) → then < last.at + full_age → newest_is last l ≡ true
    → newest_is last (young then l) ≡ true
unfolding newest_is young
newest_young then last [] y n = n
newest_young then last (a ∷ []) y n =
    let same = both (eqb a.at last.at) (eqb a.ontime last.ontime) n in
    on_cond (λ (x : List Admission). newest_is last x ≡ true) (is_young then a) (λ e. n) (λ e. absurd (omega (tested, same.0)))
newest_young then last (a ∷ b ∷ l) y n =
    on_cond (λ (x : List Admission). newest_is last x ≡ true) (is_young then a)
    (λ e. newest_cons last a (young then (b ∷ l)) (newest_young then last (b ∷ l) y n))
    (λ e. newest_young then last (b ∷ l) y n)

pub newest_back : (last : Last) (new : Admission) (l : List Admission) → new.at ≡ last.at → new.ontime ≡ last.ontime
    → newest_is last (l ++ (new ∷ [])) ≡ true
unfolding newest_is
newest_back last new [] a o = rw (eq-eqb _ _ a, eq-eqb _ _ o)
newest_back last new (b ∷ []) a o = rw (eq-eqb _ _ a, eq-eqb _ _ o)
newest_back last new (b ∷ c ∷ l) a o = newest_back last new (c ∷ l) a o

-- from when the air allows a packet
module _ (ontime : ℕ) where
  from_later : (profile now earliest from : ℕ) (l : List Admission) → from ≤ earliest + full_age → AllNoted profile now earliest l
      → from ≤ allowed_from ontime from l
  unfolding allowed_from
  from_later profile now earliest from [] s h = omega arith
  from_later profile now earliest from (a ∷ l) s h =
      on_cond (λ n. from ≤ n) (air_allows ontime (a ∷ l)) (λ e. omega arith)
      (λ e. omega (arith, h.0.late, from_later profile now (a.at + spacing) (a.at + full_age) l (omega arith) h.1))

  pub allowed_from_lem : (profile now earliest from then : ℕ) (l : List Admission) → ontime ≤ most_air
      → AllNoted profile now earliest l
      → from ≤ then → air_allows ontime (young then l) ≡ leb (allowed_from ontime from l) then
  unfolding allowed_from young air_of
  allowed_from_lem profile now earliest from then [] o h f = le-leb (ontime + 0) most_air (omega arith) ∙ sym (le-leb from then f)
  allowed_from_lem profile now earliest from then (a ∷ l) o h f =
      on_test
      (λ u. air_allows ontime (cond u (a ∷ young then l) (young then l)) ≡ leb (allowed_from ontime from (a ∷ l)) then)
      (is_young then a)
      (λ e. rw (still_young profile now (a.at + spacing) then l (omega tested) h.1)
      (on_test (λ u. u ≡ leb (cond u from rest) then) (air_allows ontime (a ∷ l)) (λ k. sym (le-leb from then f))
      (λ k. sym (lt-leb rest then
      (omega (tested, from_later profile now (a.at + spacing) (a.at + full_age) l (omega arith) h.1))))))
      (λ e. on_test (λ u. air_allows ontime (young then l) ≡ leb (cond u from rest) then) (air_allows ontime (a ∷ l))
      (λ k. le-leb (ontime + air_of (young then l)) most_air (omega (tested, air_young then l)) ∙ sym (le-leb from then f))
      (λ k. allowed_from_lem profile now (a.at + spacing) (a.at + full_age) then l o h.1 (omega tested)))
    where
      rest : ℕ
      rest = allowed_from ontime (a.at + full_age) l
