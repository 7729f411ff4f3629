-- The fewest digits that hold a number are its decimal digits, and a number of 64 bits has at most 20 of them.
use Prim.Native.Nat.{ℕ, zero, suc, ◌+◌, ◌-◌, ◌/◌, ◌%◌, ◌^◌, ◌≤◌, ◌<◌}
use mathlib.Core.Path.{◌≡◌, refl, sym, ap, ap₂, ◌∙◌}
use mathlib.Core.List.{List, [], ◌∷◌, ◌++◌, append_assoc}
use native.Mathlib.Nat.{pow-suc, one-le-pow, pow-le-pow_right, lt_of_not-le, le_of_suc-le-suc}
use native.Mathlib.Omega.{arith}
use borrow.Author.Tests.{lt-ltb}
use lib.ListN.{length, length-append}
use Rattle.io.specs.Digits.{last_digits, hex_digit_ascii, IsDigitCount}
use Rattle.lines.specs.Lines.{leading, digits_in, decimal}

leading_le : (m k : ℕ) (ds : List ℕ) → length ds ≤ k → length (leading m ds) ≤ k
leading_le zero k ds h = omega arith
leading_le (suc m) k ds h = h

digits_le : (k n : ℕ) → length (digits_in k n) ≤ k + 1
unfolding digits_in
digits_le zero n = omega arith
digits_le (suc k) n =
    omega (
      arith,
      length-append (leading (n / 10) (digits_in k (n / 10))) ((48 + n % 10) ∷ []),
      leading_le (n / 10) (k + 1) (digits_in k (n / 10)) (digits_le k (n / 10)),
    )

pub decimal-le : (n : ℕ) → length (decimal n) ≤ 20
unfolding decimal
decimal-le n = digits_le 19 n

leading-all : (m : ℕ) (ds : List ℕ) → 0 < m → leading m ds ≡ ds
leading-all zero ds h = absurd (let z : ◌≡◌ {A = ℕ} 0 1 = omega arith in omega arith)
leading-all (suc m) ds h = refl

glyph_small : (d : ℕ) → d < 10 → hex_digit_ascii d ≡ 48 + d
glyph_small d h = simp (lt-ltb d 10 h)

-- the digits one by one, the last first
pub next_digit :
    (k n : ℕ) (text : List ℕ) → last_digits 10 (suc k) n ++ text ≡ last_digits 10 k (n / 10) ++ ((48 + n % 10) ∷ text)
next_digit k n text =
    append_assoc (last_digits 10 k (n / 10)) (hex_digit_ascii (n % 10) ∷ []) text
    ∙ ap (λ (g : ℕ). last_digits 10 k (n / 10) ++ (g ∷ text)) (glyph_small (n % 10) (omega arith))

pub length_digits : (k n : ℕ) → length (last_digits 10 k n) ≡ k
length_digits zero n = refl
length_digits (suc k) n =
    omega (arith, length-append (last_digits 10 k (n / 10)) (hex_digit_ascii (n % 10) ∷ []), length_digits k (n / 10))

fewest :
    (k r n : ℕ) → suc r ≤ suc k → n < 10 ^ suc r → (1 < suc r → 10 ^ r ≤ n) → last_digits 10 (suc r) n ≡ digits_in k n
unfolding digits_in
fewest zero zero n a b h = ap (λ (g : ℕ). g ∷ []) (glyph_small (n % 10) (omega arith))
fewest zero (suc r) n a b h = absurd (omega arith)
fewest (suc k) zero n a b h =
    let e : n / 10 ≡ 0 = omega arith in
    ap (λ (g : ℕ). g ∷ []) (glyph_small (n % 10) (omega arith))
    ∙ sym (ap (λ (m : ℕ). leading m (digits_in k (n / 10)) ++ ((48 + n % 10) ∷ [])) e)
fewest (suc k) (suc r) n a b h =
    let l : 10 ^ suc r ≤ n = h (omega arith) in
    let one : 1 ≤ 10 ^ r = one-le-pow r 10 (omega arith) in
    let ih : last_digits 10 (suc r) (n / 10) ≡ digits_in k (n / 10) =
    fewest k r (n / 10) (omega arith) (omega (arith, pow-suc 10 (suc r))) (λ _. omega (arith, pow-suc 10 r)) in
    ap₂ (λ (ds : List ℕ) (g : ℕ). ds ++ (g ∷ []))
    (ih ∙ sym (leading-all (n / 10) (digits_in k (n / 10)) (omega (arith, pow-suc 10 r))))
    (glyph_small (n % 10) (omega arith))

pub at_most_20 : (k n : ℕ) → IsDigitCount 10 1 n k → n < 2 ^ 64 → k ≤ 20
at_most_20 k n f h =
    le_of_suc-le-suc
    (lt_of_not-le
    (λ (g : 21 ≤ k).
    let a : 10 ^ (k - 1) ≤ n = f.2 (omega arith) in
    let b : 10 ^ 20 ≤ 10 ^ (k - 1) = pow-le-pow_right {n = 10} (omega arith) {i = 20} {j = k - 1} (omega arith) in
    omega arith))

pub decimal_is : (k n : ℕ) → IsDigitCount 10 1 n k → n < 2 ^ 64 → last_digits 10 k n ≡ decimal n
unfolding decimal
decimal_is zero n f h = absurd (let z : 1 ≤ 0 = f.0 in omega arith)
decimal_is (suc r) n f h =
    let e : suc r - 1 ≡ r = omega arith in
    fewest 19 r n (at_most_20 (suc r) n f h) f.1 (λ p. rw e at (f.2 p))
