-- A call's work on a ledger in order: the words of those that have aged come first, so dropping as many drops them; moving what
-- is left by the gap, and a store behind it, notes the admission. What is left is young, so its words fit 32 bits when moved.
use Prim.Native.Nat.{ℕ, ◌+◌, ◌-◌, ◌≤◌, ◌<◌}
use mathlib.Core.Path.{◌≡◌, refl, ap, sym, subst, subst⁻¹, ◌∙◌}
use mathlib.Core.Bool.{true}
use mathlib.Core.List.{List, [], ◌∷◌, ◌++◌}
use native.Mathlib.Omega.{arith}
use lib.Dec.{eqb}
use lib.ListN.{length, take, drop, length-drop, length-take}
use lib.Seq.{length-take-le}
use borrow.Author.Tests.{eqb-true}
use Rattle.rules.proofs.Cases.{split, on_cond}
use Rattle.packing.proofs.Packing.{length-filled}
use Rattle.model.specs.declared.Admission.{Admission}
use Rattle.model.specs.declared.Last.{Last}
use Rattle.model.specs.Claims.{All}
use Rattle.model.specs.Ledger.{full_age, places, young}
use Rattle.model.proofs.Aging.{AllNoted, noted-forty}
use Rattle.model.proofs.SoundLedger.{test_ledger}
use Rattle.ledger.specs.declared.Ledger.{Ledger}
use Rattle.ledger.specs.Layout.{admission, unit, items, ledger_of, packed, Packed, sound_ledger, aged_in, without_oldest}
use Rattle.ledger.specs.Layout.{put_newest, Movable, Forty, InOrder}
use Rattle.ledger.proofs.Sound.{InTime, in_good_time, same_ledger, sound_rules, sound-packed}
use Rattle.ledger.proofs.Meaning.{AllFitting, words_of, read_fitting, words_in_time, first_words, items-packed}
use Rattle.ledger.proofs.Meaning.{packed-forty, dropped, aged_dropped, aged-le, young-young, young_fitting}
use Rattle.ledger.proofs.Meaning.{noted_in, noted-packed, packed_movable}

-- a ledger that is what its admissions say, these being in order
pub record Ordered (base : ℕ) (l : Ledger) : Type 0 where
  pub tight : Packed base l
  pub profile : ℕ
  pub time : ℕ
  pub order : AllNoted profile time 0 (items base l)

pub sound_ordered : (profile now : ℕ) (last : Last) (l : Ledger) → Forty l.slots → sound_ledger profile now last l ≡ true
    → Ordered last.at l
sound_ordered profile now last l f e =
    record {
      tight = sound-packed profile now last l e f;
      profile = profile;
      time = now;
      order = (sound_rules profile now last l e).noted;
    }

pub list_length : (base : ℕ) (l : Ledger) → Packed base l → l.len ≡ length (items base l)
unfolding packed
list_length base l t = ap (λ (x : Ledger). x.len) t

-- its words, which are none older than the base has time
words : (base : ℕ) (l : Ledger) → Packed base l → take l.len l.slots ≡ words_of base (items base l)
unfolding packed
words base l t = ap (λ (x : Ledger). take x.len x.slots) t ∙ first_words base (items base l)

items_fitting : (base : ℕ) (l : Ledger) → AllFitting base (items base l)
items_fitting base l = read_fitting base (take l.len l.slots)

packed_in_time : (base : ℕ) (l : Ledger) → Packed base l → InTime base (take l.len l.slots)
packed_in_time base l t =
    subst⁻¹ (InTime base) (words base l t)
    (in_good_time base (words_of base (items base l)) (words_in_time base (items base l) (items_fitting base l)))

-- without the k oldest, and still of forty places
pub without-forty : (n k : ℕ) (ws : List ℕ) → Forty ws → Forty (without_oldest n k ws)
unfolding without_oldest
without-forty n k ws f =
    on_cond (λ (l : List ℕ). length l ≡ places) (eqb k 0) (λ e. f)
    (λ e. length-filled places 0 (drop k (take n ws)) (omega (arith, length-drop k (take n ws), length-take n ws)))

abbrev pub dropped_to : (k : ℕ) → Ledger → Ledger
dropped_to k l = ledger_of (l.len - k) (without_oldest l.len k l.slots)

module _ (base now : ℕ) (l : Ledger) (h : Ordered base l) where
  pub few : l.len ≤ places
  few = omega (arith, list_length base l h.tight, noted-forty h.profile h.time 0 (items base l) h.order)

  pub full : Forty l.slots
  full =
      ap (λ (x : Ledger). length x.slots) h.tight
      ∙ packed-forty base (items base l) (omega (arith, list_length base l h.tight, few))

  abbrev pub old : ℕ
  old = aged_in now base (take l.len l.slots)

  pub old_most : old ≤ l.len
  old_most =
      omega (
        arith,
        aged-le now base (take l.len l.slots),
        length-take-le l.len l.slots (omega (arith, few, full)),
      )

  young_dropped : young now (items base l) ≡ drop old (items base l)
  young_dropped = aged_dropped h.profile h.time now 0 base (take l.len l.slots) h.order

  pub old_dropped : dropped_to old l ≡ packed base (young now (items base l))
  unfolding without_oldest
  old_dropped =
      split (eqb old 0)
      (λ e. rw e (same_ledger _ l (omega (arith, eqb-true old 0 e)) refl
      ∙ h.tight
      ∙ ap (packed base) (sym (young_dropped ∙ ap (λ (k : ℕ). drop k (items base l)) (eqb-true old 0 e)))))
      (λ e. rw e (dropped base l.len old l.slots (omega (arith, few, full)) (packed_in_time base l h.tight)
      ∙ ap (packed base) (sym young_dropped)))

  -- the same, from what the calls leave
  pub drops_by : (k : ℕ) (slots : List ℕ) → k ≡ old → slots ≡ without_oldest l.len k l.slots
      → ledger_of (l.len - k) slots ≡ packed base (young now (items base l))
  drops_by k slots e f =
      same_ledger (ledger_of (l.len - k) slots) (dropped_to old l) (ap (λ (n : ℕ). l.len - n) e)
      (f ∙ ap (λ (n : ℕ). without_oldest l.len n l.slots) e)
      ∙ old_dropped

  left_fitting : AllFitting base (young now (items base l))
  left_fitting = young_fitting base now (items base l) (items_fitting base l)

  pub left_items : items base (dropped_to old l) ≡ young now (items base l)
  left_items = ap (items base) old_dropped ∙ items-packed base (young now (items base l)) left_fitting

  pub left_packed : Packed base (dropped_to old l)
  left_packed = old_dropped ∙ ap (packed base) (sym left_items)

  -- what is left can be moved
  pub left_movable : base ≤ now → Movable (now - base) (take (l.len - old) (without_oldest l.len old l.slots))
  left_movable b =
      subst⁻¹ (λ (x : Ledger). Movable (now - base) (take x.len x.slots)) old_dropped
      (packed_movable base now (young now (items base l)) b left_fitting (young-young now (items base l)))

-- one more, which is the base from then on
fitting_later : (base now : ℕ) (es : List Admission) → base ≤ now → AllFitting base es → AllFitting now es
fitting_later base now [] b h = tt
fitting_later base now (a ∷ es) b h = ((omega (arith, h.0.0), h.0.1), fitting_later base now es b h.1)

fitting_back : (base : ℕ) (es : List Admission) (a : Admission) → AllFitting base es → (a.at ≤ base) × (a.ontime < unit)
    → AllFitting base (es ++ (a ∷ []))
fitting_back base [] a h f = (f, tt)
fitting_back base (e ∷ es) a h f = (h.0, fitting_back base es a h.1 f)

module _ (base now : ℕ) (l : Ledger) (b : base ≤ now) (t : Packed base l) where
  -- the words fit
  pub movable : All (λ (a : Admission). now < a.at + full_age) (items base l)
      → Movable (now - base) (take l.len l.slots)
  movable y =
      subst⁻¹ (λ (x : Ledger). Movable (now - base) (take x.len x.slots)) t
      (packed_movable base now (items base l) b (items_fitting base l) y)

  module _ (ontime : ℕ) (h : l.len < places) where
    abbrev after : Ledger
    after = noted_in (now - base) ontime l

    abbrev more : List Admission
    more = items base l ++ (admission now ontime ∷ [])

    pub noted : after ≡ packed now more
    noted =
        ap (noted_in (now - base) ontime) t
        ∙ noted-packed base now ontime (items base l) b (items_fitting base l) (omega (arith, list_length base l t))

    more_fitting : ontime < unit → AllFitting now more
    more_fitting o =
        fitting_back now (items base l) (admission now ontime) (fitting_later base now (items base l) b (items_fitting base l))
        (omega arith, o)

    pub noted-items : ontime < unit → items now after ≡ more
    noted-items o = ap (items now) noted ∙ items-packed now more (more_fitting o)

    pub noted_tight : ontime < unit → Packed now after
    noted_tight o = noted ∙ ap (packed now) (sym (noted-items o))

-- a ledger that a sound state had
pub in_order_lem : (base : ℕ) (l : Ledger) → Packed base l → InOrder (items base l) → Ordered base l
in_order_lem base l t h =
    record {
      tight = t;
      profile = h.profile;
      time = h.now;
      order = (test_ledger h.profile h.now h.last (items base l) h.rules).noted;
    }

-- one more, where none has aged, from what the call leaves
module _ (base at : ℕ) (l : Ledger) (b : base ≤ at) (t : Packed base l) where
  pub moves : young at (items base l) ≡ items base l → Movable (at - base) (take l.len l.slots)
  moves y =
      movable base at l b t
      (subst (λ (es : List Admission). All (λ (a : Admission). at < a.at + full_age) es) y (young-young at (items base l)))

  pub notes : (ontime : ℕ) (slots : List ℕ) → l.len < places → slots ≡ put_newest 1 l.len (at - base) ontime l.slots
      → ledger_of (l.len + 1) slots ≡ packed at (items base l ++ (admission at ontime ∷ []))
  notes ontime slots h e = same_ledger (ledger_of (l.len + 1) slots) _ refl e ∙ noted base at l b t ontime h
