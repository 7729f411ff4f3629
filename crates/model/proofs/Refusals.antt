-- A call is either refused, and then nothing is changed, or passes every check of its table, and then it is its effect.
-- No effect is a refusal, so the answer tells which.
use Prim.Native.Nat.{ℕ, ◌<◌}
use mathlib.Core.Path.{◌≡◌, refl, ◌∙◌}
use mathlib.Core.Bool.{true, false}
use mathlib.Core.List.{List}
use mathlib.Core.Logic.{⊎_elim}
use native.Mathlib.Omega.{arith}
use lib.Dec.{eqb}
use borrow.Author.Tests.{eqb-true, eqb-false}
use Rattle.rules.specs.Refusals.{Check, first_of, FirstHolds, NoneHolds}
use Rattle.rules.proofs.Cases.{on_cond, clash, both}
use Rattle.rules.proofs.Refusals.{Numbered, first_of_lem, of_first, first_numbered, of_none, exact}
use Rattle.model.specs.declared.Offer.{Offer}
use Rattle.model.specs.declared.Answer.TheVariants.{Ready, Refused}
use Rattle.model.specs.Calls.{is_refused, Call, words, count, offer, poll, Making}
use Rattle.model.specs.Effects.{Result, result, may_send, refreshed, polled, effect}
use Rattle.model.specs.Packets.{Holding, Chosen, nothing, chosen}
use Rattle.model.specs.State.{Status, fresh, not_live}
use Rattle.model.specs.Gate.{checks, unless_refused, make_checks, make_in, call, RefusalsChangeNothing, RefusalsAreExact}
use Rattle.model.specs.Gate.{MakeIsExact}

-- no effect is a refusal
abbrev Accepts : {h : Holding} → Result h → Type 0
Accepts o = is_refused o.answer ≡ false

polled_accepts : {h : Holding} (v : Status h) (c : Chosen h.Held) → Accepts (polled v c)
polled_accepts v nothing = refl
polled_accepts v (chosen p left) = on_cond Accepts (may_send v p) (λ e. refl) (λ e. refl)

pub effect_accepts : {h : Holding} (v : Status h) (c : Call) → is_refused (effect v c).answer ≡ false
unfolding effect
effect_accepts v (words stamp probes ws) = refl
effect_accepts v (count stamp busy probes) = refl
effect_accepts v (offer stamp o) = refl
effect_accepts {h} v (poll stamp) = polled_accepts (refreshed v stamp) (h.next (refreshed v stamp).waiting)

pub refusals-change_nothing : {h : Holding} → RefusalsChangeNothing h
unfolding call
refusals-change_nothing {h} v c =
    on_cond (λ (o : Result h). is_refused o.answer ≡ true → o.view ≡ v) (eqb (first_of (checks v c)) 0)
    (λ e r. clash (cc (effect_accepts v c)))
    (λ e r. cc)

-- no check has the number 0
pub checks_numbered : {h : Holding} (v : Status h) (c : Call) → Numbered (checks v c)
unfolding checks
checks_numbered v (words stamp probes ws) = omega arith
checks_numbered v (count stamp busy probes) = omega arith
checks_numbered v (offer stamp o) = omega arith
checks_numbered v (poll stamp) = omega arith

abbrev Exactly : {h : Holding} → List Check → ℕ → Result h → Type 0
Exactly table n o = (o.answer ≡ Refused n → FirstHolds n table) × (FirstHolds n table → o.answer ≡ Refused n)

positive : (n : ℕ) → (n ≡ 0 → ⊥) → 0 < n
positive n h = omega arith

-- what is done unless a table refuses it is refused with n exactly if n's row is the first that holds
unless_exact : {h : Holding} (table : List Check) → Numbered table → (given : Status h) (done : Result h)
    → is_refused done.answer ≡ false → (n : ℕ) → Exactly table n (unless_refused (first_of table) given done)
unless_exact table m given done accepts n =
    on_cond (Exactly table n) (eqb (first_of table) 0)
    (λ e. (
      λ r. clash (cc),
      λ h. absurd (omega (arith, eqb-true, first_of_lem n table h, first_numbered n table m h)),
    ))
    (λ e. (
      λ r. let same : first_of table ≡ n = cc in of_first n table (positive n (λ z. eqb-false _ _ e (same ∙ z))) same,
      λ h. cc (first_of_lem n table h),
    ))

pub refusals_are_exact : {h : Holding} → RefusalsAreExact h
unfolding call
refusals_are_exact v c = unless_exact (checks v c) (checks_numbered v c) v (effect v c) (effect_accepts v c)

make_numbered : (m : Making) → Numbered (make_checks m)
make_numbered m = omega arith

abbrev ReadySo : {h : Holding} → Making → Result h → Type 0
ReadySo m o = (o.answer ≡ Ready → NoneHolds (make_checks m)) × (NoneHolds (make_checks m) → o.answer ≡ Ready)

pub make_is_exact : {h : Holding} → MakeIsExact h
unfolding make_in
make_is_exact {h} m =
    let passed = (exact (make_checks m) (make_numbered m)).passed in
    record {
      refused = unless_exact (make_checks m) (make_numbered m) not_live (result {h = h} (fresh m) Ready) refl;
      ready =
          on_cond (ReadySo {h = h} m) (eqb (first_of (make_checks m)) 0)
          (λ e. (λ r. passed.0 (eqb-true _ _ e), λ none. refl))
          (λ e. (λ r. clash (cc), λ none. absurd (eqb-false _ _ e (passed.1 none))));
    }

-- what holds of the effect, where every check is passed, and of a refusal that changes nothing, holds of the call
pub on_call : {h : Holding} (P : Result h → Type 0) (v : Status h) (c : Call) → (NoneHolds (checks v c) → P (effect v c))
    → ((n : ℕ) → P (result v (Refused n))) → P (call v c)
unfolding call
on_call P v c f g =
    on_cond P (eqb (first_of (checks v c)) 0)
    (λ e. f (of_none (checks v c) (checks_numbered v c) (eqb-true _ _ e)))
    (λ e. g _)

-- 8 is the number of one row alone, which holds only in the old way
pub eight_is_old : {h : Holding} (v : Status h) (stamp : ℕ) (o : Offer)
    → (call v (offer stamp o)).answer ≡ Refused 8 → v.oldway ≡ 1
unfolding checks
eight_is_old v stamp o e =
    let rows = (refusals_are_exact v (offer stamp o) 8).0 e in
    ⊎_elim (λ r. absurd (omega (arith, r.1))) (λ r₉.
    ⊎_elim (λ r. absurd (omega (arith, r.1))) (λ r₂.
    ⊎_elim (λ r. absurd (omega (arith, r.1))) (λ r₃.
    ⊎_elim (λ r. absurd (omega (arith, r.1))) (λ r₅.
    ⊎_elim (λ r. absurd (omega (arith, r.1))) (λ r₆.
    ⊎_elim (λ r. absurd (omega (arith, r.1))) (λ r₇.
    ⊎_elim (λ r. eqb-true v.oldway 1 (both (eqb v.oldway 1) _ r.0).0) (λ r₈.
    ⊎_elim (λ r. absurd (omega (arith, r.1))) (λ r. absurd r.1) r₈.1) r₇.1) r₆.1) r₅.1) r₃.1) r₂.1)
    r₉.1) rows
