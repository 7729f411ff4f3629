-- Ledgers worked out by hand: a word, a ledger with its admissions, the rules broken one at a time, and what leaves it.
use mathlib.Core.Path.{◌≡◌, refl}
use mathlib.Core.Bool.{true, false}
use mathlib.Core.List.{[], ◌∷◌}
use native.Mathlib.Omega.{arith}
use lib.ListN.{take, set}
use Rattle.rules.specs.Profiles.{within, most_ontime, ontime_allowed}
use Rattle.packing.specs.Packing.{filled, all_are, padded}
use Rattle.model.specs.declared.Last.{Last}
use Rattle.model.specs.Ledger.{air_of, spaced_out, newest_is}
use Rattle.ledger.specs.declared.Ledger.{Ledger}
use Rattle.ledger.specs.Layout.{admission, admission_in, word_of, items, ledger_of, in_places, packed, tidy, sound_ledger}
use Rattle.ledger.specs.Layout.{Packed, aged_in, without_oldest, put_newest, Movable, Timely, Forty, InOrder}

-- 25,000 µs before the last admission, for 4,000 µs
word_written : word_of 1100000 (admission 1075000 4000) ≡ 102404000
word_written = refl

word_read : admission_in 1100000 102404000 ≡ admission 1075000 4000
word_read = refl

-- two admissions, the second the last one
abbrev two : Ledger
two = packed 1100000 (admission 1000000 3000 ∷ admission 1100000 4000 ∷ [])

abbrev second_was : Last
second_was = record { at = 1100000; ontime = 4000; admitted = 1 }

read_again_lem : items 1100000 two ≡ admission 1000000 3000 ∷ admission 1100000 4000 ∷ []
unfolding packed filled
read_again_lem = refl

unfoldable of_soundness : Type 0
unfolding packed filled all_are padded tidy sound_ledger spaced_out newest_is air_of within most_ontime ontime_allowed
of_soundness = Unit {0}

judged_sound : sound_ledger 3 1500000 second_was two ≡ true
unfolding of_soundness
judged_sound = refl

-- what the functions ask of a ledger: forty places, nothing but what it means, admissions that a sound state had, none after the
-- end of time, and words that still fit 100,000 µs later
two_fit :
    Forty two.slots
    × Packed 1100000 two
    × InOrder (items 1100000 two)
    × Timely (items 1100000 two)
    × Movable 100000 (take 2 two.slots)
unfolding of_soundness
two_fit = (
  refl,
  refl,
  record { profile = 3; now = 1500000; last = second_was; rules = refl },
  (omega arith, (omega arith, tt)),
  (omega arith, (omega arith, tt)),
)

-- "all younger than 1,000,000 µs": at 1,999,999 the first is, at 2,000,000 it isn't
not_yet_aged : sound_ledger 3 1999999 second_was two ≡ true
unfolding of_soundness
not_yet_aged = refl

aged : sound_ledger 3 2000000 second_was two ≡ false
unfolding of_soundness
aged = refl

-- "gaps at least 25,000 µs"
gap_of_25000 : sound_ledger 3 1500000 second_was (packed 1100000 (admission 1075000 3000 ∷ admission 1100000 4000 ∷ [])) ≡ true
unfolding of_soundness
gap_of_25000 = refl

gap_of_24999 : sound_ledger 3 1500000 second_was (packed 1100000 (admission 1075001 3000 ∷ admission 1100000 4000 ∷ [])) ≡ false
unfolding of_soundness
gap_of_24999 = refl

-- "its newest being the last admission whenever that is young enough, empty otherwise"
newest_missing : sound_ledger 3 1500000 second_was (packed 1100000 (admission 1000000 3000 ∷ [])) ≡ false
unfolding of_soundness
newest_missing = refl

empty_but_recent : sound_ledger 3 1500000 second_was (packed 0 []) ≡ false
unfolding of_soundness
empty_but_recent = refl

empty_and_not_recent : sound_ledger 3 2100000 second_was (packed 0 []) ≡ true
unfolding of_soundness
empty_and_not_recent = refl

-- "unused room zero", in the last place
stray : sound_ledger 3 1500000 second_was (ledger_of 2 (set two.slots 39 7)) ≡ false
unfolding of_soundness
stray = refl

-- an age of 100 µs where the last admission came at 100, and at 99
as_old_as_time : tidy 100 (ledger_of 1 (in_places (410100 ∷ []))) ≡ true
unfolding of_soundness
as_old_as_time = refl

older_than_time : tidy 99 (ledger_of 1 (in_places (410100 ∷ []))) ≡ false
unfolding of_soundness
older_than_time = refl

-- "drops admissions that have reached 1,000,000 µs of age"
none-aged : aged_in 1999999 1100000 (take 2 two.slots) ≡ 0
unfolding packed filled aged_in
none-aged = refl

one-aged : aged_in 2000000 1100000 (take 2 two.slots) ≡ 1
unfolding packed filled aged_in
one-aged = refl

one_left : ledger_of 1 (without_oldest 2 1 two.slots) ≡ packed 1100000 (admission 1100000 4000 ∷ [])
unfolding packed filled without_oldest
one_left = refl

-- a third, 100,000 µs later, is the base from then on
abbrev three : Ledger
three = packed 1200000 (admission 1000000 3000 ∷ admission 1100000 4000 ∷ admission 1200000 500 ∷ [])

words_of_three : three ≡ ledger_of 3 (in_places (819203000 ∷ 409604000 ∷ 500 ∷ []))
unfolding packed filled
words_of_three = refl

one_more : ledger_of 3 (put_newest 1 2 100000 500 two.slots) ≡ three
unfolding packed filled put_newest
one_more = refl
