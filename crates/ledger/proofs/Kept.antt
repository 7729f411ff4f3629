-- A ledger that holds admissions is sound if the last admission is recent and has come, the newest word is its on-time, the words
-- are in step with it and the unused places are zero; one that holds none, if there is no recent admission.
use Prim.Native.Nat.{ℕ, ◌+◌, ◌-◌, ◌≤◌, ◌<◌}
use mathlib.Core.Path.{◌≡◌, refl, sym, ◌∙◌}
use mathlib.Core.Bool.{Bool, true, false, ◌&&◌, and-false, and-true}
use mathlib.Core.List.{List}
use native.Mathlib.Omega.{arith}
use lib.Dec.{ltb, eqb}
use lib.ListN.{length, take, drop, get_or}
use borrow.Author.Tests.{ltb-true, eqb-true, le-leb, lt-leb}
use Rattle.rules.specs.Profiles.{most_ontime}
use Rattle.rules.proofs.Cases.{split, both}
use Rattle.packing.specs.Packing.{all_are, padded, is_unused}
use Rattle.model.specs.declared.Admission.{Admission}
use Rattle.model.specs.declared.Last.{Last}
use Rattle.model.specs.Ledger.{full_age, spacing, places, air_of, spaced_out, is_recent, newest_is}
use Rattle.ledger.specs.Layout.{unit, read_from, ledger_of, in_time, tidy, sound_ledger, young_from, in_step, well_kept}
use Rattle.ledger.proofs.Word.{length_read}
use Rattle.ledger.proofs.Sound.{sound-tidy, sound_rules, tidy_in_time}
use Rattle.ledger.proofs.Newest.{newest_past, newest_word, word_newest}
use Rattle.ledger.proofs.InStep.{spaced_young, step_spaced}
use Rattle.ledger.proofs.Meaning.{air_added}

-- the last admission is recent and has come, and the newest word is its on-time
pub record Newest (now : ℕ) (last : Last) (n : ℕ) (slots : List ℕ) : Type 0 where
  pub recent : is_recent now last ≡ true
  pub past : last.at ≤ now
  pub word : get_or slots (n - 1) 0 ≡ last.ontime
  pub short : last.ontime < unit

pub newest_young : (now : ℕ) (last : Last) (n : ℕ) (slots : List ℕ) → Newest now last n slots → young_from now ≤ last.at
newest_young now last n slots h =
    let y = both (eqb last.admitted 1) (ltb now (last.at + full_age)) h.recent in
    omega (arith, ltb-true now (last.at + full_age) y.1)

module _ (profile now : ℕ) (last : Last) (slots : List ℕ) where
  pub too_long : (n : ℕ) → places < n → sound_ledger profile now last (ledger_of n slots) ≡ false
  unfolding sound_ledger tidy padded
  too_long n h = rw (lt-leb n places h)

  -- without admissions
  pub none-noted : is_recent now last ≡ true → sound_ledger profile now last (ledger_of 0 slots) ≡ false
  unfolding sound_ledger newest_is
  none-noted e = rw (e, and-false, and-false, and-false)

  pub none-held : is_recent now last ≡ false → sound_ledger profile now last (ledger_of 0 slots)
      ≡ all_are is_unused (drop 0 slots)
  unfolding sound_ledger tidy padded all_are spaced_out air_of
  none-held e = rw e (and-true (all_are is_unused slots && true) ∙ and-true (all_are is_unused slots))

  -- with some
  module _ (n : ℕ) (z : 0 < n) (k : n ≤ length slots) where
    abbrev words : List ℕ
    words = take n slots

    abbrev es : List Admission
    es = read_from last.at words

    newest : sound_ledger profile now last (ledger_of n slots) ≡ true → Newest now last n slots
    newest e =
        let r = sound_rules profile now last (ledger_of n slots) e in
        let t = tidy_in_time last.at (ledger_of n slots) (sound-tidy profile now last (ledger_of n slots) e) in
        split (is_recent now last)
        (λ y.
        let i : newest_is last es ≡ true = rw y at r.newest in
        let w = newest_word last slots n z k t i in
        record { recent = y; past = newest_past profile now 0 last es r.noted i; word = w.0; short = w.1 })
        (λ y.
        let i : eqb (length es) 0 ≡ true = rw y at r.newest in
        absurd (omega (arith, z, length_read last.at n slots k, eqb-true (length es) 0 i)))

    pub not_newest : (Newest now last n slots → ⊥) → sound_ledger profile now last (ledger_of n slots) ≡ false
    not_newest f = split (sound_ledger profile now last (ledger_of n slots)) (λ e. absurd (f (newest e))) (λ e. e)

    in_step_lem : Newest now last n slots
        → (all_are (λ (w : ℕ). in_time last.at w) words && spaced_out profile now 0 es)
        ≡ in_step (last.at - young_from now + spacing) (most_ontime profile) words
    in_step_lem h =
        rw (spaced_young profile now es)
        (step_spaced profile now last.at h.past (young_from now) (last.at - young_from now + spacing) words
        (omega (arith, newest_young now last n slots h)) (omega arith))

    pub by_steps : n ≤ places → Newest now last n slots
        → sound_ledger profile now last (ledger_of n slots)
        ≡ (well_kept (last.at - young_from now + spacing) (most_ontime profile) words && all_are is_unused (drop n slots))
    unfolding sound_ledger tidy padded well_kept
    by_steps p h =
        rw (
          le-leb n places p,
          h.recent,
          word_newest last slots n z k h.word h.short,
          ← in_step_lem h,
          air_added last.at words,
        )
        (regrouped (all_are is_unused (drop n slots)) _ _ _)
      where
        regrouped : (u t s a : Bool) → ((u && t) && (s && (a && true))) ≡ (((t && s) && a) && u)
        regrouped false t s a = sym (and-false ((t && s) && a))
        regrouped true false s a = refl
        regrouped true true false a = refl
        regrouped true true true true = refl
        regrouped true true true false = refl
