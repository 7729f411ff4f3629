-- Stretches that follow one another add up, so n seconds have at most n times what one has, which is a claim of demand 3.
use Prim.Native.Nat.{ℕ, zero, suc, ◌+◌, ◌*◌, ◌≤◌}
use mathlib.Core.Path.{◌≡◌, refl}
use mathlib.Core.Bool.{cond, ◌&&◌}
use mathlib.Core.List.{List, [], ◌∷◌}
use native.Mathlib.Omega.{arith}
use lib.Dec.{leb, ltb}
use Rattle.rules.proofs.Cases.{on_test}
use Rattle.rules.proofs.Tests.{tested}
use Rattle.model.specs.declared.Admission.{Admission}
use Rattle.model.specs.Journal.{air_in}
use Rattle.model.proofs.Demand3.{demand3}
use Rattle.label.specs.Trailer.{Run, by_model, journal, Second}

-- an admission counts in one of two stretches that follow one another
abbrev counts : (from until : ℕ) → Admission → ℕ
counts from until a = cond (leb from a.at && ltb a.at until) a.ontime 0

one_by_one : (from middle until : ℕ) (a : Admission) → from ≤ middle → middle ≤ until
    → counts from until a ≡ counts from middle a + counts middle until a
one_by_one from middle until a f u =
    on_test (λ x. cond (x && ltb a.at until) o 0 ≡ cond (x && ltb a.at middle) o 0 + counts middle until a)
    (leb from a.at)
    (λ e. on_test (λ x. cond (ltb a.at until) o 0 ≡ cond x o 0 + counts middle until a) (ltb a.at middle)
    (λ g. on_test (λ x. cond (ltb a.at until) o 0 ≡ o + cond (x && ltb a.at until) o 0) (leb middle a.at)
    (λ h. absurd (omega tested))
    (λ h. on_test (λ x. cond x o 0 ≡ o + 0) (ltb a.at until) (λ k. omega arith) (λ k. absurd (omega tested))))
    (λ g. on_test (λ x. cond (ltb a.at until) o 0 ≡ 0 + cond (x && ltb a.at until) o 0) (leb middle a.at)
    (λ h. omega arith) (λ h. absurd (omega tested))))
    (λ e. on_test (λ x. 0 ≡ 0 + cond (x && ltb a.at until) o 0) (leb middle a.at) (λ h. absurd (omega tested))
    (λ h. omega arith))
  where
    o : ℕ
    o = a.ontime

-- one stretch and the next
adds : (from middle until : ℕ) (l : List Admission) → from ≤ middle → middle ≤ until
    → air_in from until l ≡ air_in from middle l + air_in middle until l
unfolding air_in
adds from middle until [] f u = refl
adds from middle until (a ∷ l) f u = omega (arith, one_by_one from middle until a f u, adds from middle until l f u)

none : (from until : ℕ) (l : List Admission) → until ≤ from → air_in from until l ≡ 0
unfolding air_in
none from until [] h = refl
none from until (a ∷ l) h =
    on_test (λ x. cond (x && ltb a.at until) a.ontime 0 + air_in from until l ≡ 0) (leb from a.at)
    (λ e. on_test (λ x. cond x a.ontime 0 + air_in from until l ≡ 0) (ltb a.at until) (λ g. absurd (omega tested))
    (λ g. omega (arith, none from until l h)))
    (λ e. omega (arith, none from until l h))

-- n seconds of a list that has no more than 30 ms in any
pub seconds : (l : List Admission) → ((from : ℕ) → air_in from (from + 1000000) l ≤ 30000)
    → (n from : ℕ) → air_in from (from + n * 1000000) l ≤ n * 30000
seconds l h zero from = omega (arith, none from (from + 0) l (omega arith))
seconds l h (suc n) from =
    let next = from + 1000000 in
    let e : from + suc n * 1000000 ≡ next + n * 1000000 = omega arith in
    rw e
    (omega (
      arith,
      h from,
      seconds l h n next,
      adds from next (next + n * 1000000) l (omega arith) (omega arith),
    ))

-- of a run
pub second-of : (r : Run) (from : ℕ) → air_in from (from + 1000000) (journal r).admissions ≤ 30000
second-of r from = (demand3 r.making r.calls r.ready).in_any_second from

in_seconds : (r : Run) (n from : ℕ) → air_in from (from + n * 1000000) (journal r).admissions ≤ n * 30000
in_seconds r = seconds (journal r).admissions (second-of r)

pub second : Second by_model
second =
    record {
      in_a_second = λ r from. omega (arith, second-of r from);
      in_a_minute = λ r from. omega (arith, in_seconds r 60 from);
      in_an_hour = λ r from. omega (arith, in_seconds r 3600 from);
      in_seconds = λ n r from. in_seconds r n from;
    }
