-- Words moved by a gap at each place in turn: the first i are moved, the others as they were.
use Prim.Native.Nat.{ℕ, zero, suc, ◌+◌, ◌*◌, ◌≤◌, ◌<◌}
use mathlib.Core.Path.{◌≡◌, refl, ap, ◌∙◌}
use mathlib.Core.List.{List, [], ◌∷◌, ◌++◌, append-nil}
use native.Mathlib.Numerals.{add-one}
use native.Mathlib.Omega.{arith}
use lib.ListN.{length, take, drop, get_or, set}
use Rattle.std.proofs.lemmas.List.{take_all, drop_all}
use Rattle.ledger.specs.Layout.{unit, moved_by, Movable}

abbrev pub moved : (gap i : ℕ) → List ℕ → List ℕ
moved gap i ws = moved_by gap (take i ws) ++ drop i ws

-- the next is as it was
next_still : (gap i : ℕ) (ws : List ℕ) → get_or (moved gap i ws) i 0 ≡ get_or ws i 0
next_still gap zero ws = refl
next_still gap (suc i) [] = refl
next_still gap (suc i) (w ∷ ws) = next_still gap i ws

store : (gap i : ℕ) (ws : List ℕ) → i < length ws
    → set (moved gap i ws) i (get_or ws i 0 + gap * unit) ≡ moved gap (suc i) ws
store gap i [] h = absurd (omega arith)
store gap zero (w ∷ ws) h = refl
store gap (suc i) (w ∷ ws) h = ap (λ (l : List ℕ). (w + gap * unit) ∷ l) (store gap i ws (omega arith))

pub move_next : (gap i : ℕ) (ws l : List ℕ) → i < length ws → l ≡ moved gap i ws
    → set l i (get_or l i 0 + gap * unit) ≡ moved gap (i + 1) ws
move_next gap i ws l h e =
    rw (e, next_still gap i ws, add-one i) (store gap i ws h)

-- each fits when it is moved
fits_at : (gap i : ℕ) (ws : List ℕ) → i < length ws → Movable gap ws → get_or ws i 0 + gap * unit ≤ 4294967295
fits_at gap i [] h m = absurd (omega arith)
fits_at gap zero (w ∷ ws) h m = m.0
fits_at gap (suc i) (w ∷ ws) h m = fits_at gap i ws (omega arith) m.1

pub next_fits : (gap i : ℕ) (ws l : List ℕ) → i < length ws → l ≡ moved gap i ws → Movable gap ws
    → get_or l i 0 + gap * unit ≤ 4294967295
next_fits gap i ws l h e m = rw (e, next_still gap i ws) (fits_at gap i ws h m)

-- at the end all are
pub all_moved : (gap i : ℕ) (ws l : List ℕ) → length ws ≤ i → l ≡ moved gap i ws → l ≡ moved_by gap ws
all_moved gap i ws l h e = e ∙ rw (take_all i ws h, drop_all i ws h) (append-nil (moved_by gap ws))
