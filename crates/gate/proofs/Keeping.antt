-- A head's numbers written one by one over a row of as many: what is read back is the head.
use Prim.Native.Nat.{ℕ, zero, suc, ◌<◌}
use mathlib.Core.Path.{◌≡◌, refl, ap, sym, ◌∙◌}
use mathlib.Core.Bool.{true}
use mathlib.Core.List.{List, [], ◌∷◌}
use native.Mathlib.Omega.{arith}
use lib.Dec.{ltb}
use lib.ListN.{length, take, get_or}
use lib.Seq.{sets, sets-eq, lt-length-sets}
use borrow.Author.Tests.{ltb-true}
use Rattle.gate.specs.declared.Head.{Head}
use Rattle.gate.specs.Kept.{wide_numbers, narrow_numbers, head_in}

-- its numbers in the order of the rows
abbrev pub wides : Head → List ℕ
wides h =
    h.clock.time
    ∷ h.last.at
    ∷ h.counts.accepted
    ∷ h.counts.sent
    ∷ h.counts.expired
    ∷ h.counts.displaced
    ∷ []

abbrev pub narrows : Head → List ℕ
narrows h =
    h.clock.stamp
    ∷ h.last.ontime
    ∷ h.last.admitted
    ∷ h.tuning.level
    ∷ h.tuning.duty
    ∷ h.tuning.smoothed
    ∷ h.tuning.kept
    ∷ h.tuning.pairing
    ∷ h.tuning.latest
    ∷ h.admissions
    ∷ h.loads
    ∷ h.profile
    ∷ h.oldway
    ∷ h.live
    ∷ h.levels
    ∷ h.calm
    ∷ []

-- a row with the first of them written has a place for the next
pub in_row : (row vs : List ℕ) (n k : ℕ) → length row ≡ n → ltb k n ≡ true → k < length (sets row 0 (take k vs))
in_row row vs n k e f = lt-length-sets row 0 (take k vs) (omega (arith, e, ltb-true k n f))

pub kept :
    (wide narrow : List ℕ) (h : Head) → length wide ≡ wide_numbers → length narrow ≡ narrow_numbers
    → head_in (sets wide 0 (wides h)) (sets narrow 0 (narrows h)) ≡ h
kept wide narrow h w n = rw (sets-eq (wides h) wide 0 (omega arith), sets-eq (narrows h) narrow 0 (omega arith))

-- a row, read number by number
abbrev from : List ℕ → (i n : ℕ) → List ℕ
from l i zero = []
from l i (suc n) = get_or l i 0 ∷ from l (suc i) n

shifted : (x : ℕ) (l : List ℕ) (i n : ℕ) → from (x ∷ l) (suc i) n ≡ from l i n
shifted x l i zero = refl
shifted x l i (suc n) = ap (λ (t : List ℕ). get_or l i 0 ∷ t) (shifted x l (suc i) n)

from_all : (l : List ℕ) → from l 0 (length l) ≡ l
from_all [] = refl
from_all (x ∷ l) = ap (λ (t : List ℕ). x ∷ t) (shifted x l 0 (length l) ∙ from_all l)

-- so the two rows are the head's numbers
pub wides_read : (wide narrow : List ℕ) → length wide ≡ wide_numbers → wides (head_in wide narrow) ≡ wide
wides_read wide narrow w = ap (λ (n : ℕ). from wide 0 n) (sym w) ∙ from_all wide

pub narrows_read : (wide narrow : List ℕ) → length narrow ≡ narrow_numbers → narrows (head_in wide narrow) ≡ narrow
narrows_read wide narrow n = ap (λ (k : ℕ). from narrow 0 k) (sym n) ∙ from_all narrow
