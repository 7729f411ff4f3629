-- A packet that is on air as a stretch begins is cut there, by d µs say; so the stretch that starts d earlier has it whole, and d
-- more than is heard. Of the ceiling those d cost 3 d and save 100 d. Of the second, the last d µs of the stretch are left out
-- again, and in them no more than d is heard, as packets don't overlap.
use Prim.Native.Nat.{ℕ, zero, suc, ◌+◌, ◌-◌, ◌*◌, ◌≤◌}
use mathlib.Core.Path.{◌≡◌, refl, ap, ◌∙◌}
use mathlib.Core.Bool.{cond, ◌&&◌}
use mathlib.Core.List.{List, [], ◌∷◌}
use native.Mathlib.Omega.{arith}
use lib.Dec.{leb, ltb}
use Rattle.rules.specs.Profiles.{most_ontime}
use Rattle.rules.proofs.Cases.{split, on_test, clash}
use Rattle.rules.proofs.Tests.{tested}
use Rattle.control.specs.Owed.{spare, second, least_gap}
use Rattle.model.specs.declared.Admission.{Admission}
use Rattle.model.specs.Journal.{air_in}
use Rattle.model.specs.Claims.{All, Apart, most_in_second}
use Rattle.model.proofs.Demand3.{demand3}
use Rattle.model.proofs.DeliveryLines.{all_more}
use Rattle.label.specs.Trailer.{Run, by_model, journal}
use Rattle.label.specs.Restarts.{Started, sent_in_all, Restarts, KeepsTheCeiling}
use Rattle.label.specs.OnAir.{heard, on_air, ReceiverHears}
use Rattle.label.proofs.Longest.{longest}
use Rattle.label.proofs.Windows.{inside, wider, one_more}
use Rattle.label.proofs.Rows.{Chain, SoFar, so_far, row}
use Rattle.label.proofs.Restarts.{restarts_keep}
use Rattle.label.proofs.Pace.{fit}

-- a packet ends before the next begins, and is no longer than the least gap
abbrev Ends : Admission → ℕ → Type 0
Ends a next = a.at + a.ontime ≤ next

abbrev Short : Admission → Type 0
Short a = a.ontime ≤ least_gap

-- no more is heard than the time that passes
before_next : (from until next : ℕ) (l : List Admission) → Chain Ends Short next l → on_air from until l ≤ next - from
unfolding on_air heard
before_next from until next [] c = omega arith
before_next from until next (a ∷ l) c = omega (arith, before_next from until a.at l c.2, c.0)

pub one_at_once : (from w : ℕ) (l : List Admission) → SoFar Ends Short l → on_air from (from + w) l ≤ w
unfolding on_air heard
one_at_once from w [] c = omega arith
one_at_once from w (a ∷ l) c =
    split (leb (from + w) a.at)
    (λ e. omega (tested, one_at_once from w l (so_far Ends Short a.at l c.1)))
    (λ e. omega (tested, before_next from (from + w) a.at l c.1))

-- a packet cut in its middle: y µs of it come before a stretch, c before the middle, z behind the stretch
cut_in_two : (n y c z : ℕ) → y ≤ c → c ≤ n → z ≤ n - c → n - y - z ≡ n - y - (n - c) + (n - c - z)
cut_in_two n y c z f g h = omega arith

-- one stretch and the next
heard_adds : (from middle until : ℕ) (a : Admission) → from ≤ middle → middle ≤ until
    → heard from until a ≡ heard from middle a + heard middle until a
unfolding heard
heard_adds from middle until a f u =
    split (leb middle a.at)
    (λ e.
    let x : from - a.at ≡ 0 = omega tested in
    let y : middle - a.at ≡ 0 = omega tested in
    let z : a.ontime - 0 - (a.at + a.ontime - middle) ≡ 0 = omega tested in
    rw (x, y) (rw z (omega arith)))
    (λ e. split (leb (a.at + a.ontime) middle)
    (λ g.
    let x : a.at + a.ontime - middle ≡ 0 = omega tested in
    let y : a.at + a.ontime - until ≡ 0 = omega tested in
    let z : a.ontime - (middle - a.at) - 0 ≡ 0 = omega tested in
    rw (x, y) (rw z (omega arith)))
    (λ g.
    let x : a.at + a.ontime - middle ≡ a.ontime - (middle - a.at) = omega tested in
    rw x
    (cut_in_two a.ontime (from - a.at) (middle - a.at) (a.at + a.ontime - until) (omega tested) (omega tested)
    (omega tested))))

adds : (from middle until : ℕ) (l : List Admission) → from ≤ middle → middle ≤ until
    → on_air from until l ≡ on_air from middle l + on_air middle until l
unfolding on_air
adds from middle until [] f u = refl
adds from middle until (a ∷ l) f u =
    omega (arith, heard_adds from middle until a f u, adds from middle until l f u)

-- so far the stretch reaches back
pub record Back (from : ℕ) (l : List Admission) : Type 0 where
  pub by : ℕ
  pub no_further : by ≤ from
  pub short : by ≤ least_gap
  pub whole : (until : ℕ) → from ≤ until → on_air from until l + by ≤ air_in (from - by) until l

back : (from : ℕ) (l : List Admission) → All Short l → Back from l
unfolding on_air heard air_in
back from [] h = record { by = 0; no_further = omega arith; short = omega arith; whole = λ until f. omega arith }
back from (a ∷ l) h =
    let b = back from l h.1 in
    split (leb (from - b.by) a.at)
    (λ e. record {
      by = b.by;
      no_further = b.no_further;
      short = b.short;
      whole =
          λ until f.
          on_test (λ x. heard from until a + on_air from until l + b.by ≤ cond x a.ontime 0 + air_in (from - b.by) until l)
          (leb (from - b.by) a.at && ltb a.at until)
          (λ i. omega (arith, b.whole until f))
          (λ o.
          split (ltb a.at until) (λ u. clash (cc (inside (from - b.by) until a.at (omega tested) (omega tested))))
          (λ u. omega (tested, b.whole until f)));
    })
    (λ e. split (leb (a.at + a.ontime) from)
    (λ g. record {
      by = b.by;
      no_further = b.no_further;
      short = b.short;
      whole = λ until f. omega (tested, b.whole until f);
    })
    (λ g. record {
      by = from - a.at;
      no_further = omega arith;
      short = omega (tested, h.0);
      whole =
          λ until f.
          let start : from - (from - a.at) ≡ a.at = omega tested in
          let first : air_in a.at until (a ∷ l) ≡ a.ontime + air_in a.at until l =
          rw (inside a.at until a.at (omega arith) (omega tested)) refl in
          let reached : air_in (from - (from - a.at)) until (a ∷ l) ≡ a.ontime + air_in a.at until l =
          ap (λ (x : ℕ). air_in x until (a ∷ l)) start ∙ first in
          omega (
            tested,
            b.whole until f,
            wider (from - b.by) until a.at until l (omega tested) (omega arith),
            reached,
          );
    }))

ceiling_heard : (l : List Admission) → All Short l → KeepsTheCeiling l
    → (from w : ℕ) → 100 * on_air from (from + w) l ≤ 3 * w + spare
ceiling_heard l h k from w =
    let b = back from l h in
    omega (
      arith,
      b.whole (from + w) (omega arith),
      b.no_further,
      k (from - b.by) (w + b.by),
      one_more (from - b.by) (w + b.by) l,
      wider (from - b.by) (from + w) (from - b.by) (suc (from - b.by + (w + b.by))) l (omega arith)
          (omega (arith, b.no_further)),
    )

-- what every stretch of a length admits at most, it is on air at most
heard_as_admitted : (l : List Admission) → All Short l → SoFar Ends Short l → (w most : ℕ) → least_gap ≤ w
    → ((from : ℕ) → air_in from (from + w) l ≤ most) → (from : ℕ) → on_air from (from + w) l ≤ most
heard_as_admitted l h c w most g k from =
    let b = back from l h in
    let cut = from + w - b.by in
    let same : from - b.by + w ≡ cut = omega (arith, b.no_further) in
    let end : cut + b.by ≡ from + w = omega (arith, b.short) in
    omega (
      arith,
      adds from cut (from + w) l (omega (arith, b.short)) (omega arith),
      b.whole cut (omega (arith, b.short)),
      rw same at (k (from - b.by)),
      rw end at (one_at_once cut b.by l c),
    )

-- a run's packets end before the next
longest_le : (profile : ℕ) → most_ontime profile ≤ least_gap
unfolding most_ontime
longest_le profile = (fit profile).short

ended : (next : ℕ) (a : Admission) (l : List Admission) → a.at + least_gap ≤ next → Apart (a ∷ l) → All Short (a ∷ l)
    → Chain Ends Short next (a ∷ l)
ended next a [] g p h = (omega (arith, h.0), h.0, tt)
ended next a (b ∷ l) g p h = (omega (arith, h.0), h.0, ended a.at b l p.0 p.1 h.1)

ended_so_far : (l : List Admission) → Apart l → All Short l → SoFar Ends Short l
ended_so_far [] p h = tt
ended_so_far (a ∷ []) p h = (h.0, tt)
ended_so_far (a ∷ b ∷ l) p h = (h.0, ended a.at b l p.0 p.1 h.1)

of_run : (r : Run) → SoFar Ends Short (journal r).admissions
of_run r =
    ended_so_far (journal r).admissions (demand3 r.making r.calls r.ready).apart
    (all_more _ _ (journal r).admissions (λ a h. omega (arith, longest_le r.making.profile)) (longest r))

of_runs : (ss : List Started) → All (λ (s : Started). SoFar Ends Short (journal s.run).admissions) ss
of_runs [] = tt
of_runs (s ∷ ss) = (of_run s.run, of_runs ss)

all_short : (next : ℕ) (l : List Admission) → Chain Ends Short next l → All Short l
all_short next [] c = tt
all_short next (a ∷ l) c = (c.1, all_short a.at l c.2)

shorts : (l : List Admission) → SoFar Ends Short l → All Short l
shorts [] c = tt
shorts (a ∷ l) c = (c.0, all_short a.at l c.1)

-- of runs one after the other
module _ (ss : List Started) (r : Restarts by_model ss) where
  whole : SoFar Ends Short (sent_in_all by_model ss)
  whole = row Ends Short (λ made a next h. omega arith) (λ made a h. h) (λ a next h s. omega arith) ss r (of_runs ss)

  as_admitted : (w most : ℕ) → least_gap ≤ w → ((from : ℕ) → air_in from (from + w) (sent_in_all by_model ss) ≤ most)
      → (from : ℕ) → on_air from (from + w) (sent_in_all by_model ss) ≤ most
  as_admitted = heard_as_admitted (sent_in_all by_model ss) (shorts (sent_in_all by_model ss) whole) whole

  in_one : (from : ℕ) → on_air from (from + second) (sent_in_all by_model ss) ≤ most_in_second
  in_one = as_admitted second most_in_second (omega arith) (restarts_keep ss r).in_any_second

  in_some : (n from : ℕ) → on_air from (from + n * second) (sent_in_all by_model ss) ≤ n * most_in_second
  in_some zero from = omega (arith, one_at_once from 0 (sent_in_all by_model ss) whole)
  in_some (suc n) from =
      let next = from + second in
      let e : from + suc n * second ≡ next + n * second = omega arith in
      rw e
      (omega (
        arith,
        in_one from,
        in_some n next,
        adds from next (next + n * second) (sent_in_all by_model ss) (omega arith) (omega arith),
      ))

pub receiver_hears : ReceiverHears by_model
receiver_hears ss r =
    record {
      as_admitted = as_admitted ss r;
      in_a_second = in_one ss r;
      in_seconds = in_some ss r;
      ceiling = λ c.
          ceiling_heard (sent_in_all by_model ss) (shorts (sent_in_all by_model ss) (whole ss r))
          ((restarts_keep ss r).ceiling c);
      one_at_once = λ from w. one_at_once from w (sent_in_all by_model ss) (whole ss r);
    }
