-- Words in step are those of admissions that are spaced out, where the base has come: an age and the earliest time add up to the
-- base at most, so a word that is in step came where the base has time, and by now, and is young.
use Prim.Native.Nat.{ℕ, ◌+◌, ◌-◌, ◌≤◌, ◌<◌}
use mathlib.Core.Path.{◌≡◌, refl}
use mathlib.Core.Bool.{◌&&◌, and-false}
use mathlib.Core.List.{List, [], ◌∷◌}
use native.Mathlib.Omega.{arith}
use lib.Dec.{leb}
use borrow.Author.Tests.{leb-true, leb-false, ltb-true, le-leb, lt-leb, lt-ltb}
use Rattle.rules.specs.Profiles.{within, most_ontime, ontime_allowed}
use Rattle.rules.proofs.Cases.{split}
use Rattle.packing.specs.Packing.{all_are}
use Rattle.model.specs.declared.Admission.{Admission}
use Rattle.model.specs.Ledger.{full_age, spacing, is_young, spaced_out}
use Rattle.ledger.specs.Layout.{age_in, ontime_in, read_from, in_time, young_from, in_step}

-- an admission that is young is as early as that allows
pub spaced_young : (profile now : ℕ) (es : List Admission)
    → spaced_out profile now 0 es ≡ spaced_out profile now (young_from now) es
unfolding spaced_out
spaced_young profile now [] = refl
spaced_young profile now (a ∷ es) =
    split (is_young now a)
    (λ e. rw (
      le-leb (young_from now) a.at (omega (arith, ltb-true now (a.at + full_age) e)),
      le-leb 0 a.at (omega arith),
    ))
    (λ e. rw (e, and-false, and-false, and-false))

-- before is what an age and the spacing may add up to
pub step_spaced : (profile now base : ℕ) → base ≤ now → (earliest before : ℕ) (ws : List ℕ)
    → before + earliest ≡ base + spacing → now < earliest + full_age
    → (all_are (λ (w : ℕ). in_time base w) ws && spaced_out profile now earliest (read_from base ws))
    ≡ in_step before (most_ontime profile) ws
unfolding all_are spaced_out in_step ontime_allowed
step_spaced profile now base b earliest before [] e f = refl
step_spaced profile now base b earliest before (w ∷ ws) e f =
    split (leb (age_in w + spacing) before)
    (λ t.
    let a = leb-true (age_in w + spacing) before t in
    rw (
      t,
      le-leb (age_in w) base (omega (arith, a, e)),
      le-leb earliest (base - age_in w) (omega (arith, a, e)),
      le-leb (base - age_in w) now (omega (arith, b)),
      lt-ltb now (base - age_in w + full_age) (omega (arith, a, e, f)),
    )
    (split (within 1 (most_ontime profile) (ontime_in w))
    (λ o. rw o
    (step_spaced profile now base b (base - age_in w + spacing) (age_in w) ws (omega (arith, a, e)) (omega (arith, a, e, f))))
    (λ o. rw (o, and-false))))
    (λ t.
    let a = leb-false (age_in w + spacing) before t in
    split (leb (age_in w) base)
    (λ o. rw (t, o, lt-leb earliest (base - age_in w) (omega (arith, a, e, leb-true (age_in w) base o)), and-false))
    (λ o. rw (t, o)))
