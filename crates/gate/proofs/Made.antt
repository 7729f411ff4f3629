-- What a make leaves in a head and in wiped rows, with the list that it keeps, is the model's state laid out.
use Prim.Native.Nat.{ℕ, zero, suc, ◌-◌, ◌≤◌}
use mathlib.Core.Path.{◌≡◌, refl, ap, sym, ◌∙◌}
use mathlib.Core.Bool.{true, false}
use mathlib.Core.List.{List, ◌++◌}
use native.Mathlib.Nat.{sub-zero, zero-sub, suc-sub-suc}
use native.Mathlib.Omega.{arith}
use lib.Dec.{eqb}
use lib.ListN.{length, take, drop, replicate}
use lib.Seq.{length-take-le}
use borrow.Author.Tests.{eq-eqb, ne_eqb}
use Rattle.rules.specs.Refusals.{first_of}
use Rattle.rules.proofs.Cases.{split}
use Rattle.packing.specs.Packing.{filled}
use Rattle.machine.specs.declared.Levels.{Levels}
use Rattle.machine.specs.Levels.{tidied}
use Rattle.control.specs.Control.{list_kept}
use Rattle.model.specs.declared.Answer.{Answer}
use Rattle.model.specs.declared.Answer.TheVariants.{Ready, Refused}
use Rattle.model.specs.Calls.{Making, making_of}
use Rattle.model.specs.State.{not_live}
use Rattle.model.specs.Gate.{make_checks, make_in}
use Rattle.ledger.specs.Layout as ledger
use Rattle.waiting.specs.Layout as waiting
use Rattle.gate.specs.declared.Head.{Head}
use Rattle.gate.specs.declared.State.{State}
use Rattle.gate.specs.Layout.{state_with, state_of, outcome, make_state}
use Rattle.gate.specs.Making.{fresh_head, no_head}

abbrev pub zeros : ℕ → List ℕ
zeros n = replicate n 0

all-zero : state_with no_head (zeros 64) (zeros 20) (zeros 40) (zeros 50) (zeros 8) (zeros 8) ≡ state_of not_live
unfolding waiting.rows_for waiting.laid waiting.packed waiting.words_of waiting.flat filled ledger.packed
all-zero = refl

pub zero_state : {head : Head} → head ≡ no_head
    → state_with head (zeros 64) (zeros 20) (zeros 40) (zeros 50) (zeros 8) (zeros 8) ≡ state_of not_live
zero_state h =
    ap (λ (x : Head). state_with x (zeros 64) (zeros 20) (zeros 40) (zeros 50) (zeros 8) (zeros 8)) h ∙ all-zero

drop_zeros : (k m : ℕ) → drop k (zeros m) ≡ zeros (m - k)
drop_zeros zero m = rw (sub-zero m)
drop_zeros (suc k) zero = rw (zero-sub (suc k))
drop_zeros (suc k) (suc m) = drop_zeros k m ∙ ap zeros (sym (suc-sub-suc m k))

-- a list's levels in a wiped row
pub kept_row : (k : ℕ) (xs : List ℕ) → k ≤ 8 → length xs ≡ 8 → take k xs ++ drop k (zeros 8) ≡ filled 8 0 (take k xs)
unfolding filled
kept_row k xs h l = rw (length-take-le k xs (omega (arith, h, l)), drop_zeros k 8)

-- the list that is kept is no longer than its room
pub kept_few : (profile : ℕ) (l : Levels) → (list_kept profile l).len ≤ 8
unfolding list_kept tidied
kept_few profile l = split (eqb profile 5) (λ e. rw e (omega arith)) (λ e. rw e (omega arith))

module _ (profile oldway stamp : ℕ) (list : Levels) where
  abbrev making : Making
  making = making_of profile oldway list stamp

  abbrev number : ℕ
  number = first_of (make_checks making)

  abbrev kept : Levels
  kept = list_kept profile list

  zeros_refused : eqb number 0 ≡ false
      → outcome (state_with no_head (zeros 64) (zeros 20) (zeros 40) (zeros 50) (zeros 8) (zeros 8)) (Refused number)
      ≡ make_state making
  unfolding make_state make_in
  zeros_refused e = rw e (ap (λ (s : State). outcome s (Refused number)) all-zero)

  zeros_made : eqb number 0 ≡ true
      → outcome
      (state_with (fresh_head profile oldway kept stamp) (zeros 64) (zeros 20) (zeros 40) (zeros 50) kept.above kept.waits) Ready
      ≡ make_state making
  unfolding make_state make_in waiting.rows_for waiting.laid waiting.packed waiting.words_of waiting.flat filled ledger.packed
  zeros_made e = rw e

  module _ {queues came air loads : List ℕ} (q : queues ≡ zeros 64) (c : came ≡ zeros 20) (a : air ≡ zeros 40)
      (l : loads ≡ zeros 50) {above waits : List ℕ} {head : Head} where
    -- what a make that is refused leaves
    pub refused : above ≡ zeros 8 → waits ≡ zeros 8 → head ≡ no_head → {answer : Answer} → (r : ℕ) → answer ≡ Refused r
        → r ≡ number → (r ≡ 0 → ⊥) → outcome (state_with head queues came air loads above waits) answer ≡ make_state making
    refused t w h r e n p =
        (λ i. outcome (state_with (h i) (q i) (c i) (a i) (l i) (t i) (w i)) ((e ∙ ap Refused n) i))
        ∙ zeros_refused (ne_eqb number 0 (λ z. p (n ∙ z)))

    -- and one that isn't
    pub made : (k : Levels) → k ≡ kept → above ≡ k.above → waits ≡ k.waits → head ≡ fresh_head profile oldway k stamp
        → number ≡ 0 → outcome (state_with head queues came air loads above waits) Ready ≡ make_state making
    made k e t w h z =
        (λ i. outcome (state_with (h i) (q i) (c i) (a i) (l i) (t i) (w i)) Ready)
        ∙ ap (λ (x : Levels).
        outcome
        (state_with (fresh_head profile oldway x stamp) (zeros 64) (zeros 20) (zeros 40) (zeros 50) x.above x.waits) Ready) e
        ∙ zeros_made (eq-eqb number 0 z)
