-- Air time admitted in a stretch: of two lists joined it adds up, of admissions moved along the clock it is that of the stretch
-- moved back, and an admission counts in every stretch that takes it in.
use Prim.Native.Nat.{ℕ, suc, ◌+◌, ◌-◌, ◌≤◌, ◌<◌}
use mathlib.Core.Path.{◌≡◌, refl}
use mathlib.Core.Bool.{Bool, true, false, cond, ◌&&◌}
use mathlib.Core.List.{List, [], ◌∷◌, ◌++◌, map}
use mathlib.Core.Logic.{inl, inr}
use native.Mathlib.Omega.{arith}
use lib.Dec.{leb, ltb}
use borrow.Author.Tests.{le-leb, lt-ltb}
use Rattle.rules.proofs.Cases.{split, both, clash, on_test}
use Rattle.rules.proofs.Tests.{tested}
use Rattle.control.specs.Owed.{second}
use Rattle.model.specs.declared.Admission.{Admission}
use Rattle.model.specs.Journal.{air_time, air_in}
use Rattle.model.specs.Claims.{All}
use Rattle.model.specs.Delivery.{Among}
use Rattle.model.proofs.DeliveryLines.{all_of, all_more}
use Rattle.label.specs.Restarts.{silence, later, Silent}

-- it counts where its test holds
if_le : (p q : Bool) (n : ℕ) → (p ≡ true → q ≡ true) → cond p n 0 ≤ cond q n 0
if_le true true n h = omega arith
if_le true false n h = clash (cc (h refl))
if_le false q n h = omega arith

pub inside : (from until at : ℕ) → from ≤ at → at < until → leb from at && ltb at until ≡ true
inside from until at f u = simp (le-leb from at f, lt-ltb at until u)

pub is_inside : (from until at : ℕ) → leb from at && ltb at until ≡ true → (from ≤ at) × (at < until)
is_inside from until at e = let w = both (leb from at) (ltb at until) e in (omega (tested, w.0), omega (tested, w.1))

pub joined : (from until : ℕ) (k l : List Admission) → air_in from until (k ++ l) ≡ air_in from until k + air_in from until l
unfolding air_in
joined from until [] l = omega arith
joined from until (a ∷ k) l = omega (arith, joined from until k l)

-- a wider stretch
pub wider : (from until since till : ℕ) (l : List Admission) → since ≤ from → until ≤ till
    → air_in from until l ≤ air_in since till l
unfolding air_in
wider from until since till [] f u = omega arith
wider from until since till (a ∷ l) f u =
    let one =
    if_le (leb from a.at && ltb a.at until) (leb since a.at && ltb a.at till) a.ontime
    (λ e. let w = is_inside from until a.at e in inside since till a.at (omega (arith, w.0)) (omega (arith, w.1))) in
    omega (arith, wider from until since till l f u)

-- both ends counted is one µs more
pub one_more : (from w : ℕ) (l : List Admission) → air_time from w l ≡ air_in from (suc (from + w)) l
unfolding air_time air_in
one_more from w [] = refl
one_more from w (a ∷ l) =
    on_test (λ x. cond (leb from a.at && x) a.ontime 0 + air_time from w l
    ≡ cond (leb from a.at && ltb a.at (suc (from + w))) a.ontime 0 + air_in from (suc (from + w)) l)
    (leb a.at (from + w))
    (λ e. on_test (λ x. cond (leb from a.at && true) a.ontime 0 + air_time from w l
    ≡ cond (leb from a.at && x) a.ontime 0 + air_in from (suc (from + w)) l)
    (ltb a.at (suc (from + w))) (λ f. omega (arith, one_more from w l)) (λ f. absurd (omega tested)))
    (λ e. on_test (λ x. cond (leb from a.at && false) a.ontime 0 + air_time from w l
    ≡ cond (leb from a.at && x) a.ontime 0 + air_in from (suc (from + w)) l)
    (ltb a.at (suc (from + w))) (λ f. absurd (omega tested)) (λ f. omega (arith, one_more from w l)))

-- moved along the clock
pub moved : (made from until till : ℕ) (l : List Admission) → until ≤ made + till
    → air_in from until (map (later made) l) ≤ air_in (from - made) till l
unfolding air_in
moved made from until till [] h = omega arith
moved made from until till (a ∷ l) h =
    let one =
    if_le (leb from (made + a.at) && ltb (made + a.at) until) (leb (from - made) a.at && ltb a.at till) a.ontime
    (λ e.
    let w = is_inside from until (made + a.at) e in
    inside (from - made) till a.at (omega (arith, w.0)) (omega (arith, w.1))) in
    omega (arith, moved made from until till l h)

-- nothing of a list is in a stretch that all of it comes behind
pub all_behind : (from until : ℕ) (l : List Admission) → All (λ (a : Admission). until ≤ a.at) l → air_in from until l ≡ 0
unfolding air_in
all_behind from until [] h = refl
all_behind from until (a ∷ l) h =
    on_test (λ x. cond x a.ontime 0 + air_in from until l ≡ 0) (leb from a.at && ltb a.at until)
    (λ e. absurd (omega (arith, (is_inside from until a.at e).1, h.0)))
    (λ e. omega (arith, all_behind from until l h.1))

-- either nothing of a list is in a stretch, or one of it came no earlier than the stretch
pub none_or : {P : Type 0} (from until : ℕ) (l : List Admission) → (air_in from until l ≡ 0 → P)
    → ((a : Admission) → Among a l → from ≤ a.at → P) → P
unfolding air_in
none_or from until [] f g = f refl
none_or from until (a ∷ l) f g =
    split (leb from a.at && ltb a.at until)
    (λ e. g a (inl refl) (is_inside from until a.at e).0)
    (λ e. none_or from until l
    (λ z. f (on_test (λ x. x ≡ false → cond x a.ontime 0 + air_in from until l ≡ 0) (leb from a.at && ltb a.at until)
    (λ t u. clash (cc)) (λ t u. omega (arith, z)) e))
    (λ b m. g b (inr m)))

-- "silent for a second": a stretch of a second has admissions of one of the two lists alone
pub one_of_two : (from most : ℕ) (after before : List Admission) → Silent after before
    → air_in from (from + second) after ≤ most → air_in from (from + second) before ≤ most
    → air_in from (from + second) (after ++ before) ≤ most
one_of_two from most after before s x y =
    none_or from (from + second) before (λ z. omega (arith, joined from (from + second) after before, z))
    (λ a m f.
    let late : All (λ (b : Admission). from + second ≤ b.at) after =
    all_more _ _ after (λ b h. omega (arith, all_of (λ (c : Admission). c.at + silence ≤ b.at) a before h m)) s in
    omega (arith, joined from (from + second) after before, all_behind from (from + second) after late))
