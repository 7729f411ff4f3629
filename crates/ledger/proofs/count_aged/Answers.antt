-- What the search finds is the first that is young; where there is none, all have aged.
use Rattle.std.proofs.Common.{ℕ, List, Option, None, Some, ◌≡◌, ◌∙◌, ◌-◌, ◌<◌, ◌≤◌, sym, refl, take, length, rules, arith}
use Rattle.std.proofs.Common.{true, false}
use Rattle.std.proofs.lemmas.List.{length-take-le}
use Rattle.std.proofs.lemmas.List.Recursion.{is_position_or_len}
use Rattle.std.proofs.lemmas.List.Sums.{position_or_len_is}
use Rattle.std.specs.Option.{MatchOption, unwrap_or}
use Rattle.std.specs.List.{AllWithin, HoldsAt}
use Rattle.model.specs.Ledger.{young_at}
use Rattle.ledger.specs.Layout.{age_in, aged_in}
use Rattle.ledger.proofs.count_aged.Goals as goal

module _ (now base : ℕ) (ws : List ℕ) where
  abbrev Young : (i : ℕ) → Type 0
  Young i = HoldsAt (λ (w : ℕ). young_at now (base - age_in w) ≡ true) ws i

  abbrev AgedBelow : (i : ℕ) → Type 0
  AgedBelow i = AllWithin (λ (w : ℕ). young_at now (base - age_in w) ≡ false) ws 0 i

  -- what the search gives
  abbrev Found : Option ℕ → Type 0
  Found r = MatchOption r (AgedBelow (length ws)) (λ (i : ℕ). (i < length ws) × Young i × AgedBelow i)

  first_young : (i : ℕ) → i ≤ length ws → AgedBelow i → (i < length ws → Young i) → aged_in now base ws ≡ i
  unfolding aged_in
  first_young i b aged young =
      is_position_or_len (aged_in now base) (λ (w : ℕ). young_at now (base - age_in w)) refl (λ w l. refl) ws
      ∙ position_or_len_is (λ (w : ℕ). young_at now (base - age_in w)) ws i 0 b (λ k h. aged k 0 (omega arith) h)
      (λ h. young h 0)

  counted : (r : Option ℕ) → Found r → unwrap_or r (length ws) ≡ aged_in now base ws
  counted None h = sym (first_young (length ws) (omega arith) h (λ l. absurd (omega arith)))
  counted (Some i) h = sym (first_young i (omega (arith, h.0)) h.2 (λ l. h.1))

pub returns : goal.returns
returns c =
    let found : Found c.args.time c.args.base (take c.args.n c.args.slots.now) c.position-young.result = search rules in
    let long : length (take c.args.n c.args.slots.now) ≡ c.args.n =
    length-take-le c.args.n c.args.slots.now (omega arith) in
    c.unwrap_or.ensures
    ∙ rw long at (counted c.args.time c.args.base (take c.args.n c.args.slots.now) c.position-young.result found)
