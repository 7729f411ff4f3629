-- The numbers that `a..=b` gives, one by one.
use Rattle.std.proofs.Common.{ℕ, zero, suc, ◌+◌, ◌-◌, ◌≡◌, refl, sym, ap, ap₂, ◌∙◌, Bool, true, false, List, [], ◌∷◌}
use Rattle.std.proofs.Common.{length, arith, None, Some}
use Rattle.std.specs.Range.{range_inclusive_len}
use Rattle.std.specs.declared.ops.RangeInclusive.{RangeInclusive}
use Rattle.std.proofs.iter.runs.Sources.{nat_range_inclusive_steps}
use Rattle.std.proofs.lemmas.Iterator.{YieldsList}
use Rattle.std.proofs.lemmas.Iterator.Consumers.{YieldsList-from_shown}

abbrev pub counting : (from many : ℕ) → List ℕ
counting from zero = []
counting from (suc n) = from ∷ counting (from + 1) n

abbrev span : RangeInclusive ℕ → ℕ
span s = range_inclusive_len (λ x y. y - x) s.start s.end s.exhausted

abbrev pub numbers : RangeInclusive ℕ → List ℕ
numbers s = counting s.start (span s)

pub given : (s : RangeInclusive ℕ) → YieldsList nat_range_inclusive_steps (λ x. x) s (numbers s)
given s = YieldsList-from_shown nat_range_inclusive_steps (λ x. x) numbers done more s
  where
    done : (s t : RangeInclusive ℕ) → nat_range_inclusive_steps s None t → length (numbers s) ≡ 0
    done s t h = ap (λ n. length (counting s.start n)) h.1.0

    -- past the end nothing is left, wherever it stands
    moved : (from to n : ℕ) (spent : Bool) → (spent ≡ false → to ≡ from) → (spent ≡ true → n ≡ 0)
        → counting from n ≡ counting to n
    moved from to n true e z = ap (counting from) (z refl) ∙ ap (counting to) (sym (z refl))
    moved from to n false e z = ap (λ k. counting k n) (sym (e refl))

    more : (s : RangeInclusive ℕ) (x : ℕ) (t : RangeInclusive ℕ) → nat_range_inclusive_steps s (Some x) t
        → numbers s ≡ x ∷ numbers t
    more s x t h =
        let long : span s ≡ suc (span t) = omega (arith, h.1.1) in
        ap (counting s.start) long
        ∙ ap₂ (λ y ys. y ∷ ys) (sym h.1.0)
        (moved (s.start + 1) t.start (span t) t.exhausted h.1.2
        (λ e. ap (range_inclusive_len (λ x y. y - x) t.start t.end) e))

pub unspent : (s : RangeInclusive ℕ) (a b : ℕ) → s.start ≡ a → s.end ≡ b → s.exhausted ≡ false
    → numbers s ≡ counting a ((b - a) + 1 - (a - b))
unspent s a b d e f = λ i. counting (d i) (range_inclusive_len (λ x y. y - x) (d i) (e i) (f i))
