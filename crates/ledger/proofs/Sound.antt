-- A tidy ledger is packed: the zeros of its unused places are those of `packed`, and a word no older than the base has time is
-- that of its admission. What is known of a sound ledger.
use Prim.Native.Nat.{ℕ, ◌≤◌}
use mathlib.Core.Path.{◌≡◌, refl, ap, sym, ◌∙◌}
use mathlib.Core.Bool.{true}
use mathlib.Core.List.{List, [], ◌∷◌, map}
use native.Mathlib.Omega.{arith}
use lib.Dec.{leb}
use lib.ListN.{take, drop}
use borrow.Author.Tests.{eqb-true, leb-true}
use Rattle.rules.proofs.Cases.{both}
use Rattle.rules.specs.Tests.{all_of}
use Rattle.packing.specs.Packing.{all_are, padded, is_unused}
use Rattle.packing.proofs.Packing.{padded-filled}
use Rattle.model.specs.declared.Admission.{Admission}
use Rattle.model.specs.declared.Last.{Last}
use Rattle.model.specs.Claims.{All}
use Rattle.model.specs.Ledger.{places, ledger_rules}
use Rattle.model.proofs.SoundLedger.{SoundLedger, test_ledger}
use Rattle.ledger.specs.declared.Ledger.{Ledger}
use Rattle.ledger.specs.Layout.{age_in, word_of, read_from, items, in_places, packed, Packed, in_time, tidy, sound_ledger, Forty}
use Rattle.ledger.proofs.Word.{read_word, length_read}

-- words no older than the base has time are those of their admissions
abbrev pub InTime : (base : ℕ) → List ℕ → Type 0
InTime base ws = All (λ (w : ℕ). age_in w ≤ base) ws

pub in_good_time : (base : ℕ) (ws : List ℕ) → all_are (λ (w : ℕ). in_time base w) ws ≡ true → InTime base ws
unfolding all_are
in_good_time base [] h = tt
in_good_time base (w ∷ ws) h =
    let b = both (in_time base w) (all_are (λ (x : ℕ). in_time base x) ws) h in
    (leb-true (age_in w) base b.0, in_good_time base ws b.1)

pub words_of_lem : (base : ℕ) (ws : List ℕ) → InTime base ws → map (λ (a : Admission). word_of base a) (read_from base ws) ≡ ws
words_of_lem base [] h = refl
words_of_lem base (w ∷ ws) h = λ i. read_word base w h.0 i ∷ words_of_lem base ws h.1 i

pub same_ledger : (l r : Ledger) → l.len ≡ r.len → l.slots ≡ r.slots → l ≡ r
same_ledger l r e f = λ i. record { len = e i; slots = f i }

-- a tidy ledger: no longer than its room, and what its admissions say
module _ (base : ℕ) (l : Ledger) (h : tidy base l ≡ true) where
  parts : (padded is_unused places l.len l.slots ≡ true)
      × (all_are (λ (w : ℕ). in_time base w) (take l.len l.slots) ≡ true)
  unfolding tidy
  parts =
      both (padded is_unused places l.len l.slots) (all_are (λ (w : ℕ). in_time base w) (take l.len l.slots)) h

  pub tidy-length : l.len ≤ places
  unfolding padded
  tidy-length =
      leb-true l.len places (both (leb l.len places) (all_are is_unused (drop l.len l.slots)) parts.0).0

  pub tidy_in_time : InTime base (take l.len l.slots)
  tidy_in_time = in_good_time base (take l.len l.slots) parts.1

  pub tidy-packed : Forty l.slots → Packed base l
  unfolding packed
  tidy-packed f =
      let m = tidy-length in
      let unused : (n : ℕ) → is_unused n ≡ true → n ≡ 0 = λ n e. eqb-true n 0 e in
      same_ledger l _ (sym (length_read base l.len l.slots (omega arith)))
      (padded-filled places 0 is_unused unused l.len l.slots f parts.0
      ∙ ap in_places (sym (words_of_lem base (take l.len l.slots) tidy_in_time)))

-- a sound ledger is tidy, over the last admission, and the model's rules hold of its admissions
module _ (profile now : ℕ) (last : Last) (l : Ledger) (e : sound_ledger profile now last l ≡ true) where
  pub sound-tidy : tidy last.at l ≡ true
  unfolding sound_ledger
  sound-tidy = (both (tidy last.at l) (all_of (ledger_rules profile now last (items last.at l))) e).0

  pub sound_rules : SoundLedger profile now last (items last.at l)
  unfolding sound_ledger
  sound_rules =
      test_ledger profile now last (items last.at l)
      (both (tidy last.at l) (all_of (ledger_rules profile now last (items last.at l))) e).1

  pub sound-packed : Forty l.slots → Packed last.at l
  sound-packed f = tidy-packed last.at l sound-tidy f
