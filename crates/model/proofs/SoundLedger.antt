-- A ledger is sound exactly if these facts hold of it. Later, while the last admission is young it is still the newest, and once
-- it has aged all have; an admission that comes the gap after the last, and that the air allows, is the newest in its turn.
use Prim.Native.Nat.{ℕ, ◌+◌, ◌≤◌}
use mathlib.Core.Path.{◌≡◌, refl}
use mathlib.Core.Bool.{Bool, true, false, cond}
use mathlib.Core.List.{List, [], ◌∷◌, ◌++◌}
use native.Mathlib.Omega.{arith}
use lib.Dec.{eqb}
use lib.ListN.{length}
use borrow.Author.Tests.{le-leb, lt-ltb}
use Rattle.rules.specs.Tests.{all_of}
use Rattle.rules.specs.Profiles.{ontime_allowed}
use Rattle.rules.proofs.Cases.{split, on_cond, both}
use Rattle.rules.proofs.Tests.{tested, all_true}
use Rattle.model.specs.declared.Admission.{Admission}
use Rattle.model.specs.declared.Last.{Last}
use Rattle.model.specs.Ledger.{full_age, most_air, spacing, young_at, young, air_of, air_allows, admission_rules, spaced_out}
use Rattle.model.specs.Ledger.{is_recent, newest_is, ledger_rules}
use Rattle.model.proofs.Aging.{air_append, air_young, Noted, AllNoted, all-aged, noted_back, noted-later, newest_young}
use Rattle.model.proofs.Aging.{newest_back}

pub record SoundLedger (profile now : ℕ) (last : Last) (l : List Admission) : Type 0 where
  pub noted : AllNoted profile now 0 l
  pub sum : air_of l ≤ most_air
  pub newest : cond (is_recent now last) (newest_is last l) (eqb (length l) 0) ≡ true

-- the tests say these facts, and no more
test_noted : (profile now earliest : ℕ) (l : List Admission) → spaced_out profile now earliest l ≡ true
    → AllNoted profile now earliest l
unfolding spaced_out
test_noted profile now earliest [] e = tt
test_noted profile now earliest (a ∷ l) e =
    let h = both (all_of (admission_rules profile now earliest a)) (spaced_out profile now (a.at + spacing) l) e in
    let r = all_true (admission_rules profile now earliest a) h.0 in (
      record {
        late = omega (tested, r.0);
        past = omega (tested, r.1.0);
        age = omega (tested, r.1.1.0);
        ontime = r.1.1.1.0;
      },
      test_noted profile now (a.at + spacing) l h.1,
    )

noted_test : (profile now earliest : ℕ) (l : List Admission) → AllNoted profile now earliest l
    → spaced_out profile now earliest l ≡ true
unfolding spaced_out
noted_test profile now earliest [] h = refl
noted_test profile now earliest (a ∷ l) h =
    rw (
      le-leb _ _ h.0.late,
      le-leb _ _ h.0.past,
      lt-ltb _ _ h.0.age,
      h.0.ontime,
      noted_test profile now (a.at + spacing) l h.1,
    )

pub test_ledger : (profile now : ℕ) (last : Last) (l : List Admission) → all_of (ledger_rules profile now last l) ≡ true
    → SoundLedger profile now last l
test_ledger profile now last l e =
    let h = all_true (ledger_rules profile now last l) e in
    record { noted = test_noted profile now 0 l h.0; sum = omega (tested, h.1.0); newest = h.1.1.0 }

pub ledger_test : (profile now : ℕ) (last : Last) (l : List Admission) → SoundLedger profile now last l
    → all_of (ledger_rules profile now last l) ≡ true
ledger_test profile now last l h = rw (noted_test profile now 0 l h.noted, le-leb _ _ h.sum, h.newest)

-- later
pub aged-sound : (profile now then : ℕ) (last : Last) (l : List Admission) → now ≤ then → SoundLedger profile now last l
    → SoundLedger profile then last (young then l)
unfolding newest_is young
aged-sound profile now then last l s h =
    record {
      noted = noted-later profile now then 0 l s h.noted;
      sum = omega (arith, h.sum, air_young then l);
      newest = on_cond (λ (b : Bool). b ≡ true) (is_recent then last) recent old;
    }
  where
    was : is_recent then last ≡ true → newest_is last l ≡ true
    was e =
        let r = both (eqb last.admitted 1) (young_at then last.at) e in
        let now-recent : is_recent now last ≡ true = rw (r.0, lt-ltb now (last.at + full_age) (omega (tested, r.1))) in
        rw now-recent at h.newest

    recent : is_recent then last ≡ true → newest_is last (young then l) ≡ true
    recent e =
        let r = both (eqb last.admitted 1) (young_at then last.at) e in
        newest_young then last l (omega (tested, r.1)) (was e)

    none : (l : List Admission) → eqb (length l) 0 ≡ true → eqb (length (young then l)) 0 ≡ true
    none [] e = refl
    none (a ∷ l) e = absurd (omega tested)

    old : is_recent then last ≡ false → eqb (length (young then l)) 0 ≡ true
    old e =
        split (is_recent now last)
        (λ k.
        let r = both (eqb last.admitted 1) (young_at now last.at) k in
        let aged = rw r.0 at e in
        rw (all-aged profile now then last 0 l h.noted (rw k at h.newest) (omega tested)))
        (λ k. none l (rw k at h.newest))

-- one more
pub admitted_sound : (profile now ontime : ℕ) (last : Last) (l : List Admission)
    → (eqb last.admitted 1 ≡ true → last.at + spacing ≤ now) → ontime_allowed profile ontime ≡ true
    → air_allows ontime l ≡ true → SoundLedger profile now last l
    → SoundLedger profile now (record { at = now; ontime = ontime; admitted = 1 })
    (l ++ (record { at = now; ontime = ontime } ∷ []))
unfolding air_of
admitted_sound profile now ontime last l apart o f h =
    record {
      noted =
          split (is_recent now last)
          (λ k. noted_back profile now last 0 new l h.noted (rw k at h.newest)
          (noted (last.at + spacing) (apart (both (eqb last.admitted 1) (young_at now last.at) k).0)))
          (λ k. first l (rw k at h.newest));
      sum = omega (tested, air_append l (new ∷ []));
      newest =
          rw (
            lt-ltb now (now + full_age) (omega arith),
            newest_back (record { at = now; ontime = ontime; admitted = 1 }) new l refl refl,
          );
    }
  where
    new : Admission
    new = record { at = now; ontime = ontime }

    noted : (earliest : ℕ) → earliest ≤ now → Noted profile now earliest new
    noted earliest s = record { late = s; past = omega arith; age = omega arith; ontime = o }

    first : (l : List Admission) → eqb (length l) 0 ≡ true → AllNoted profile now 0 (l ++ (new ∷ []))
    first [] e = (noted 0 (omega arith), tt)
    first (a ∷ l) e = absurd (omega tested)
