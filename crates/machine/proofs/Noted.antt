-- A load noted: fewer than 50 get one more in the first free place; of 50 all but the oldest move to the front, and it gets the
-- last place. What was sound stays so, since no load is put in that is not allowed and the room is filled with zeros.
use Prim.Native.Nat.{ℕ, zero, suc, ◌+◌, ◌-◌, ◌≤◌, ◌<◌}
use mathlib.Core.Path.{◌≡◌, refl, ap, ap₂, sym, ◌∙◌}
use mathlib.Core.Bool.{Bool, true}
use mathlib.Core.List.{List, [], ◌∷◌, ◌++◌, append-nil}
use native.Mathlib.Omega.{arith}
use lib.Dec.{leb, eqb}
use lib.ListN.{length, take, drop, set, length-append, length-drop, drop_of_length-le}
use lib.Seq.{take_all, take_at, drop-append-le, set_split, length-take-le}
use borrow.Author.Tests.{eqb-true, leb-true}
use Rattle.std.specs.List.{copy_within}
use Rattle.rules.specs.Profiles.{full_load}
use Rattle.rules.proofs.Cases.{both, true-within}
use Rattle.packing.specs.Packing.{filled, all_are, padded, is_unused}
use Rattle.packing.proofs.Packing.{set-filled, list_filled, padded-filled, filled-padded}
use Rattle.machine.specs.declared.Loads.{Loads}
use Rattle.machine.specs.Loads.{most_loads, load_allowed, loads_of, loads, noted, packed, sound_loads, none_held}
use Rattle.machine.specs.Loads.{NotedStaySound, NoneHeldIsNone}

same : (m n : ℕ) (a b : List ℕ) → m ≡ n → a ≡ b → loads_of m a ≡ loads_of n b
same m n a b e f = λ i. loads_of (e i) (f i)

-- of fewer than 50 none goes
noted-all : (xs : List ℕ) (load : ℕ) → length xs < 50 → noted xs load ≡ xs ++ (load ∷ [])
noted-all xs load h =
    let e : length (xs ++ (load ∷ [])) - 50 ≡ 0 = omega (arith, length-append xs (load ∷ [])) in
    ap (λ (k : ℕ). drop k (xs ++ (load ∷ []))) e

pub notes_few : (n load : ℕ) (s : List ℕ) → length s ≡ 50 → n < 50
    → loads_of (n + 1) (set (filled (length s) 0 (take n s)) n load) ≡ packed (noted (take n s) load)
unfolding packed
notes_few n load s e h =
    let xs = take n s in
    let m : length xs ≡ n = length-take-le n s (omega arith) in
    let l : n + 1 ≡ length (xs ++ (load ∷ [])) = omega (arith, length-append xs (load ∷ [])) in
    rw (noted-all xs load (omega arith))
    (same _ _ _ _ l
    (ap₂ (λ (a b : ℕ). set (filled a 0 xs) b load) e (sym m) ∙ set-filled 50 0 xs load (omega arith)))

-- of 50 the oldest goes
noted_full : (s : List ℕ) (load : ℕ) → length s ≡ 50 → noted s load ≡ drop 1 s ++ (load ∷ [])
noted_full s load e =
    let d : length (s ++ (load ∷ [])) - 50 ≡ 1 = omega (arith, length-append s (load ∷ [])) in
    ap (λ (k : ℕ). drop k (s ++ (load ∷ []))) d ∙ drop-append-le 1 s (load ∷ []) (omega arith)

-- all but the oldest moved to the front, and the load in the last place
moved_front : (s : List ℕ) → length s ≡ 50 → take 49 (copy_within s 1 50 0) ≡ drop 1 s
moved_front s e =
    let l : length (drop 1 s) ≡ 49 = omega (arith, length-drop 1 s) in
    rw (take_all 49 (drop 1 s) (omega arith)) (take_at (drop 1 s) (drop 49 s) 49 l)

set_last : (l : List ℕ) (load : ℕ) → length l ≡ 50 → set l 49 load ≡ take 49 l ++ (load ∷ [])
set_last l load e =
    set_split l 49 load (omega arith)
    ∙ ap (λ (r : List ℕ). take 49 l ++ (load ∷ r)) (drop_of_length-le l {i = 50} (omega arith))

pub notes_full : (n load : ℕ) (s l : List ℕ) → length s ≡ 50 → 50 ≤ n → l ≡ copy_within s 1 50 0 → length l ≡ 50
    → loads_of 50 (set l 49 load) ≡ packed (noted (take n s) load)
unfolding packed filled
notes_full n load s l e h m k =
    let ys = drop 1 s ++ (load ∷ []) in
    let f : noted (take n s) load ≡ ys =
    ap (λ (xs : List ℕ). noted xs load) (take_all n s (omega arith)) ∙ noted_full s load e in
    let g : length ys ≡ 50 = omega (arith, length-append (drop 1 s) (load ∷ []), length-drop 1 s) in
    let u : take 49 l ≡ drop 1 s = ap (take 49) m ∙ moved_front s e in
    rw (f, g)
    (same _ _ _ _ refl
    (set_last l load k ∙ ap (λ (r : List ℕ). r ++ (load ∷ [])) u ∙ sym (append-nil ys)))

-- loads in their room are those loads
pub loads-packed : (xs : List ℕ) → loads (packed xs) ≡ xs
unfolding packed
loads-packed xs = list_filled most_loads 0 xs

-- all of a list are as some test asks: so those from some place on, and with one more that is
module _ (test : ℕ → Bool) where
  all_drop : (k : ℕ) (xs : List ℕ) → all_are test xs ≡ true → all_are test (drop k xs) ≡ true
  unfolding all_are
  all_drop zero xs e = e
  all_drop (suc k) [] e = refl
  all_drop (suc k) (x ∷ xs) e = all_drop k xs (both (test x) (all_are test xs) e).1

  all_back : (x : ℕ) (xs : List ℕ) → all_are test xs ≡ true → test x ≡ true → all_are test (xs ++ (x ∷ [])) ≡ true
  unfolding all_are
  all_back x [] e h = rw h
  all_back x (y ∷ xs) e h =
      let b = both (test y) (all_are test xs) e in
      rw (b.0, all_back x xs b.1 h)

packed-sound : (xs : List ℕ) → length xs ≤ 50 → all_are load_allowed xs ≡ true → sound_loads (packed xs) ≡ true
unfolding sound_loads packed
packed-sound xs h e =
    rw (filled-padded most_loads 0 is_unused refl xs h, list_filled most_loads 0 xs) e

noted_few : (xs : List ℕ) (load : ℕ) → length (noted xs load) ≤ 50
noted_few xs load = omega (arith, length-drop (length (xs ++ (load ∷ [])) - 50) (xs ++ (load ∷ [])))

pub noted-sound : NotedStaySound
unfolding sound_loads
noted-sound l load e h =
    let xs = loads l ++ (load ∷ []) in
    let lie = (both (padded is_unused most_loads l.len l.slots) (all_are load_allowed (loads l)) e).1 in
    packed-sound (noted (loads l) load) (noted_few (loads l) load)
    (all_drop load_allowed (length xs - 50) xs
    (all_back load_allowed load (loads l) lie (true-within 0 full_load load (omega arith) h)))

padded_few : (n : ℕ) (xs : List ℕ) → padded is_unused most_loads n xs ≡ true → n ≤ 50
unfolding padded
padded_few n xs e = leb-true n most_loads (both (leb n most_loads) (all_are is_unused (drop n xs)) e).0

-- sound loads with 50 places are what their loads say
pub sound-packed : (l : Loads) → length l.slots ≡ most_loads → sound_loads l ≡ true → l ≡ packed (loads l)
unfolding sound_loads packed
sound-packed l s e =
    let p = (both (padded is_unused most_loads l.len l.slots) (all_are load_allowed (loads l)) e).0 in
    let n : length (loads l) ≡ l.len = length-take-le l.len l.slots (omega (arith, padded_few l.len l.slots p)) in
    same _ _ _ _ (sym n) (padded-filled most_loads 0 is_unused (λ x h. eqb-true x 0 h) l.len l.slots s p)

-- room of which all is zero is the room of no loads
pub none-held : NoneHeldIsNone
unfolding none_held padded filled
none-held l s e =
    let b = both (eqb l.len 0) (all_are is_unused l.slots) e in
    same _ _ _ _ (eqb-true l.len 0 b.0)
    (padded-filled most_loads 0 is_unused (λ x h. eqb-true x 0 h) 0 l.slots s b.1)
