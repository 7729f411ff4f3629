-- A good list's levels are all read, so the room filled with them gives them back, with zeros behind; and the waits of a good
-- list keep the limits.
use Prim.Native.Nat.{ℕ, ◌≤◌, min}
use mathlib.Core.Path.{◌≡◌, refl, ap, ◌∙◌}
use mathlib.Core.Bool.{true}
use mathlib.Core.List.{List, [], ◌∷◌}
use native.Mathlib.Omega.{arith}
use lib.Dec.{leb, eqb}
use lib.ListN.{length, take, drop}
use borrow.Author.Tests.{le-leb, eqb-true, not-false}
use Rattle.rules.specs.Profiles.{within}
use Rattle.rules.proofs.Cases.{both}
use Rattle.rules.proofs.Tests.{all_true}
use Rattle.packing.specs.Packing.{filled, all_are, padded, is_unused}
use Rattle.packing.proofs.Packing.{length-filled, list_filled, padded-filled, filled-padded}
use Rattle.machine.specs.declared.Levels.{Levels}
use Rattle.machine.specs.Levels.{most_levels, wait_allowed, threshold_allowed, listed, waits, wait_at}
use Rattle.machine.specs.Levels.{rising, good_list, sound_list, tidied, none_listed, levels_of}
use Rattle.machine.specs.Levels.{GoodIsTidied, WaitsListed, NoneListedIsNone}
use Rattle.machine.proofs.Parts.{length-listed}
use Rattle.machine.proofs.Judged.{rules_of, there, wait_within, by_waits_lem}

-- the room filled with a list: as many of it as the list has, and what lies behind
in_room : (ys : List ℕ) (k : ℕ) → length ys ≤ 8 → k ≡ length ys
    → (take k (filled most_levels 0 ys) ≡ ys) × (all_are is_unused (drop k (filled most_levels 0 ys)) ≡ true)
    × (k ≤ length (filled most_levels 0 ys))
unfolding padded
in_room ys k h e =
    rw e (
      list_filled most_levels 0 ys,
      (both (leb (length ys) most_levels) (all_are is_unused (drop (length ys) (filled most_levels 0 ys)))
          (filled-padded most_levels 0 is_unused refl ys h)).1,
      omega (arith, length-filled most_levels 0 ys h),
    )

-- so too of those listed
module _ (n : ℕ) (xs : List ℕ) (h : n ≤ 8) (k : n ≤ length xs) where
  listed-room : listed (min n most_levels) (filled most_levels 0 (listed n xs)) ≡ listed n xs
  listed-room =
      (in_room (listed n xs) (min (min n most_levels) most_levels) (omega (arith, length-listed n xs))
      (omega (arith, length-listed n xs))).0

  zeros_behind : all_are is_unused (drop (min n most_levels) (filled most_levels 0 (listed n xs))) ≡ true
  zeros_behind =
      (in_room (listed n xs) (min n most_levels) (omega (arith, length-listed n xs)) (omega (arith, length-listed n xs))).1

  room_there : leb (min n most_levels) (length (filled most_levels 0 (listed n xs))) ≡ true
  room_there =
      le-leb (min n most_levels) (length (filled most_levels 0 (listed n xs)))
      (in_room (listed n xs) (min n most_levels) (omega (arith, length-listed n xs)) (omega (arith, length-listed n xs))).2

tidied_good : (l : Levels) → good_list l ≡ true → good_list (tidied l) ≡ true
unfolding tidied
tidied_good l e =
    let r = rules_of l e in
    let t = there l e in
    let n : min l.len most_levels ≡ l.len = omega arith in
    let a = listed-room l.len l.above t.0 t.1 in
    let w = listed-room l.len l.waits t.0 t.2 in
    by_waits_lem (tidied l)
    (record {
      size = ap (within 1 most_levels) n ∙ r.0.size;
      above_there = room_there l.len l.above t.0 t.1;
      waits_there = room_there l.len l.waits t.0 t.2;
      own = r.0.own;
      rise = ap (rising 0) a ∙ r.0.rise;
      most = ap (all_are threshold_allowed) a ∙ r.0.most;
    })
    ∙ ap (all_are wait_allowed) w ∙ r.1

pub good_is_tidied : GoodIsTidied
unfolding sound_list tidied
good_is_tidied l b =
    let e = not-false (good_list l) b in
    let t = there l e in
    record {
      sound = rw (
        tidied_good l e,
        zeros_behind l.len l.above t.0 t.1,
        zeros_behind l.len l.waits t.0 t.2,
      );
      same_thresholds = listed-room l.len l.above t.0 t.1;
      same_waits = λ level.
          ap (λ (ws : List ℕ). wait_at l.wait ws level) (listed-room l.len l.waits t.0 t.2);
    }

pub wait_listed : WaitsListed
wait_listed l level b =
    let r = rules_of l (not-false (good_list l) b) in
    wait_within l.wait (waits l) r.0.own r.1 level

-- room of which all is zero is the room of no list
pub none-listed : NoneListedIsNone
unfolding none_listed padded filled
none-listed l a w e =
    let h =
    all_true (eqb l.len 0 ∷ eqb l.wait 0 ∷ all_are is_unused l.above ∷ all_are is_unused l.waits ∷ []) e in
    let zeros = padded-filled most_levels 0 is_unused (λ x z. eqb-true x 0 z) 0 in
    λ i.
    levels_of (eqb-true l.len 0 h.0 i) (eqb-true l.wait 0 h.1.0 i) (zeros l.above a h.1.1.0 i)
    (zeros l.waits w h.1.1.1.0 i)
