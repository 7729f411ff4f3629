-- Behind a line stand only lines that came later, so a line with m behind it is at least m before the newest offer of its
-- priority. The top of five has four behind it, and the offer that displaces it is one more.
use Prim.Native.Nat.{ℕ, zero, suc, ◌+◌, ◌≤◌}
use mathlib.Core.Path.{◌≡◌, refl}
use mathlib.Core.Bool.{Bool}
use mathlib.Core.List.{List, [], ◌∷◌}
use native.Mathlib.Omega.{arith}
use lib.Dec.{leb}
use lib.ListN.{length, drop}
use Rattle.rules.proofs.Cases.{on_cond}
use Rattle.model.specs.declared.Packet.{Packet}
use Rattle.model.specs.Fours.{Four, each, column, change}
use Rattle.model.specs.Journal.{Entry, Departure, Journal, picked, displaced_top, room_for, at_foot}
use Rattle.model.specs.Claims.{ByTheFifth, NotDisplaced}
use Rattle.model.proofs.Fours.{Fours, fours_each}

abbrev pub DisplacedByTheFifth : Departure → Type 0
DisplacedByTheFifth d = ByTheFifth d.entry d.way

abbrev pub StaysUndisplaced : Departure → Type 0
StaysUndisplaced d = NotDisplaced d.way

-- n: the accepted offers of their priority
abbrev pub Behind : ℕ → List Entry → Type 0
Behind n [] = Unit {0}
Behind n (l ∷ ls) = (l.ordinal + length ls ≤ n) × Behind n ls

-- in each column
abbrev pub AllBehind : Four Packet → Four Entry → Type 0
AllBehind offers q = Fours (λ (n : ℕ) (ls : List Entry). Behind (length (column n offers)) ls) q

-- lines taken out
pub picked-length : (test : Entry → Bool) (ls : List Entry) → length (picked test ls) ≤ length ls
unfolding picked
picked-length test [] = omega arith
picked-length test (l ∷ ls) =
    on_cond (λ (k : List Entry). length k ≤ length (l ∷ ls)) (test l) (λ e. omega (arith, picked-length test ls))
    (λ e. omega (arith, picked-length test ls))

behind_picked : (test : Entry → Bool) (n : ℕ) (ls : List Entry) → Behind n ls → Behind n (picked test ls)
unfolding picked
behind_picked test n [] h = tt
behind_picked test n (l ∷ ls) h =
    on_cond (Behind n) (test l) (λ e. (omega (arith, h.0, picked-length test ls), behind_picked test n ls h.1))
    (λ e. behind_picked test n ls h.1)

pub all-picked : (test : Entry → Bool) (offers : Four Packet) (q : Four Entry) → AllBehind offers q
    → AllBehind offers (each (picked test) q)
all-picked test offers =
    fours_each (λ (n : ℕ) (ls : List Entry). Behind (length (column n offers)) ls)
    (λ (n : ℕ) (ls : List Entry). Behind (length (column n offers)) ls) (picked test)
    (λ n ls. behind_picked test (length (column n offers)) ls)

-- the top taken away
behind_drop : (n : ℕ) (ls : List Entry) → Behind n ls → Behind n (drop 1 ls)
behind_drop n [] h = tt
behind_drop n (l ∷ ls) h = h.1

pub all_drop : (n : ℕ) (offers : Four Packet) (q : Four Entry) → AllBehind offers q → AllBehind offers (change n (drop 1) q)
all_drop zero offers q h = (behind_drop _ q.c0 h.0, h.1, h.2, h.3)
all_drop (suc zero) offers q h = (h.0, behind_drop _ q.c1 h.1, h.2, h.3)
all_drop (suc (suc zero)) offers q h = (h.0, h.1, behind_drop _ q.c2 h.2, h.3)
all_drop (suc (suc (suc n))) offers q h = (h.0, h.1, h.2, behind_drop _ q.c3 h.3)

-- a line entered
behind_foot : (n : ℕ) (l : Entry) (ls : List Entry) → l.ordinal ≡ suc n → Behind n ls → Behind (suc n) (at_foot l ls)
behind_foot n l [] e h = (omega arith, tt)
behind_foot n l (x ∷ ls) e h = (omega (arith, h.0, foot_length l ls), behind_foot n l ls e h.1)
  where
    foot_length : (y : Entry) (k : List Entry) → length (at_foot y k) ≡ suc (length k)
    foot_length y [] = omega arith
    foot_length y (x ∷ k) = omega (arith, foot_length y k)

pub all_foot : (n : ℕ) (p : Packet) (l : Entry) (offers : Four Packet) (q : Four Entry)
    → l.ordinal ≡ suc (length (column n offers)) → AllBehind offers q
    → AllBehind (change n (λ (ps : List Packet). p ∷ ps) offers) (change n (at_foot l) q)
all_foot zero p l offers q e h = (behind_foot _ l q.c0 e h.0, h.1, h.2, h.3)
all_foot (suc zero) p l offers q e h = (h.0, behind_foot _ l q.c1 e h.1, h.2, h.3)
all_foot (suc (suc zero)) p l offers q e h = (h.0, h.1, behind_foot _ l q.c2 e h.2, h.3)
all_foot (suc (suc (suc n))) p l offers q e h = (h.0, h.1, h.2, behind_foot _ l q.c3 e h.3)

-- what holds of a journal, and of it without the top of a column, holds of it once room is made
pub on_room : (P : Journal → Type 0) (j : Journal) (n : ℕ) → P j
    → ((l : Entry) (ls : List Entry) → column n j.columns ≡ l ∷ ls → P (displaced_top j n (l ∷ ls))) → P (room_for j n)
on_room P j n f g = on_cond P (leb 5 (length (column n j.columns))) (λ u. by (column n j.columns) refl) (λ u. f)
  where
    by : (ls : List Entry) → column n j.columns ≡ ls → P (displaced_top j n ls)
    by [] e = f
    by (l ∷ ls) e = g l ls e

pub room_time : (j : Journal) (n : ℕ) → (room_for j n).time ≡ j.time
room_time j n = on_room (λ (k : Journal). k.time ≡ j.time) j n refl (λ l ls e. refl)

pub room_admissions : (j : Journal) (n : ℕ) → (room_for j n).admissions ≡ j.admissions
room_admissions j n = on_room (λ (k : Journal). k.admissions ≡ j.admissions) j n refl (λ l ls e. refl)
