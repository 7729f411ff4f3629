-- A text put behind another leaves what one put of both together leaves.
use Prim.Native.Nat.{ℕ, zero, suc, ◌+◌, ◌≤◌, ◌<◌}
use mathlib.Core.Path.{◌≡◌, sym, ap, ap₂, ◌∙◌}
use mathlib.Core.List.{List, [], ◌∷◌, ◌++◌, append_assoc}
use native.Mathlib.Nat.{add_assoc}
use native.Mathlib.Omega.{arith}
use lib.ListN.{length, set, take, drop, length-append}
use lib.Seq.{length-take-le, take_at, drop_at, drop-drop}
use Rattle.records.specs.Buffers.{written, Put}

written_then :
    (d : List ℕ) (at : ℕ) (s t : List ℕ) → at ≤ length d → written (written d at s) (at + length s) t ≡ written d at (s ++ t)
written_then d at s t h =
    let n = at + length s in
    let p = take at d ++ s in
    let q = drop n d in
    let lp : length p ≡ n = length-append (take at d) s ∙ ap (λ (k : ℕ). k + length s) (length-take-le at d h) in
    let e : drop (n + length t) (written d at s) ≡ drop (n + length t) d =
    sym (drop-drop (length t) n (p ++ q)) ∙ ap (drop (length t)) (drop_at p q n lp) ∙ drop-drop (length t) n d in
    ap₂ (λ (a b : List ℕ). a ++ t ++ b) (take_at p q n lp) e
    ∙ ap (λ (l : List ℕ). l ++ drop (n + length t) d) (append_assoc (take at d) s t)
    ∙ ap (λ (k : ℕ). take at d ++ (s ++ t) ++ drop k d)
    (add_assoc at (length s) (length t) ∙ ap (λ (k : ℕ). at + k) (sym (length-append s t)))

pub next :
    {d l l' : List ℕ} {at r r' : ℕ} {s t : List ℕ} → at ≤ length d → Put d at s r l → Put l r t r' l' → Put d at (s ++ t) r' l'
next {d} {at = at} {s = s} {t = t} h p q =
    record {
      place = omega (arith, p.place, q.place, length-append s t);
      bytes =
          q.bytes ∙ ap₂ (λ (x : List ℕ) (k : ℕ). written x k t) p.bytes p.place ∙ written_then d at s t h;
    }

-- a byte put in front of a text is the first of a longer one
pub before :
    (d : List ℕ) (at byte : ℕ) (t : List ℕ) → at < length d → set (written d (suc at) t) at byte ≡ written d at (byte ∷ t)
before [] at byte t h = absurd (omega arith)
before (x ∷ d) zero byte t h =
    let e : 1 + length t ≡ 0 + suc (length t) = omega arith in
    ap (λ (k : ℕ). (byte ∷ t) ++ drop k (x ∷ d)) e
before (x ∷ d) (suc at) byte t h =
    let e : suc (suc at) + length t ≡ suc (suc at + length t) = omega arith in
    let e' : suc at + suc (length t) ≡ suc (at + suc (length t)) = omega arith in
    ap (λ (k : ℕ). set (take (suc (suc at)) (x ∷ d) ++ t ++ drop k (x ∷ d)) (suc at) byte) e
    ∙ ap (λ (l : List ℕ). x ∷ l) (before d at byte t (omega arith))
    ∙ sym (ap (λ (k : ℕ). take (suc at) (x ∷ d) ++ (byte ∷ t) ++ drop k (x ∷ d)) e')
