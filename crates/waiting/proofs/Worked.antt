-- Queues worked out by hand: what rows mean, which of them are sound, where a queue lies, who leaves and who goes next.
use Prim.Native.Nat.{ℕ}
use mathlib.Core.Path.{◌≡◌, refl}
use mathlib.Core.Bool.{true, false}
use mathlib.Core.List.{List, [], ◌∷◌}
use lib.ListN.{drop, set, replicate}
use Rattle.rules.specs.Profiles.{within}
use Rattle.packing.specs.Packing.{filled, all_are, padded}
use Rattle.waiting.specs.declared.Cell.{Cell}
use Rattle.std.proofs.Common.{Some, None}
use Rattle.waiting.specs.Layout.{Rows, rows, Sized, cell, triples, words_of, items, packed, Packed, ZeroFrom, tidy_queue}
use Rattle.waiting.specs.Layout.{part, flat, laid, queues, changed, four_of, waiting_in, packet_in, tidy, alive, count_in}
use Rattle.waiting.specs.Layout.{cells_sound, sound_queue, Held, found_at, first_or, found_from}

-- on-time 1,000 for 50,000 µs, come at 200; and 500 for 60 s, come at 300
abbrev early : Cell
early = cell 7 1000 50000 200

abbrev late : Cell
late = cell 8 500 60000000 300

-- a queue of the two: its length, three words of each, zeros; and the two times
abbrev words_of_two : List ℕ
words_of_two = 2 ∷ 7 ∷ 1000 ∷ 50000 ∷ 8 ∷ 500 ∷ 60000000 ∷ 0 ∷ 0 ∷ 0 ∷ 0 ∷ 0 ∷ 0 ∷ 0 ∷ 0 ∷ 0 ∷ []

abbrev times_of_two : List ℕ
times_of_two = 200 ∷ 300 ∷ 0 ∷ 0 ∷ 0 ∷ []

abbrev two : Rows
two = rows words_of_two times_of_two

two_meant : items two ≡ early ∷ late ∷ []
unfolding triples
two_meant = refl

two-laid : packed (early ∷ late ∷ []) ≡ two
unfolding packed filled words_of
two-laid = refl

-- what the functions ask of a queue's rows: their size, nothing but what they mean, and zeros from the third place on
two_fit : Sized 1 two × Packed two × ZeroFrom 2 two
unfolding triples packed filled words_of
two_fit = (record { words = refl; came = refl }, refl, refl)

unfoldable of_soundness : Type 0
unfolding triples all_are padded cells_sound sound_queue within
of_soundness = Unit {0}

-- "every queue length at most 5, .. everything unused is zero"
two-tidy : tidy_queue two ≡ true
unfolding of_soundness
two-tidy = refl

length-of_six : tidy_queue (rows (set words_of_two 0 6) times_of_two) ≡ false
unfolding of_soundness
length-of_six = refl

dirty_place : tidy_queue (rows (set words_of_two 15 1) times_of_two) ≡ false
unfolding of_soundness
dirty_place = refl

dirty_time : tidy_queue (rows words_of_two (set times_of_two 2 1)) ≡ false
unfolding of_soundness
dirty_time = refl

dirty_empty : tidy_queue (rows (set words_of_two 0 0) times_of_two) ≡ false
unfolding of_soundness
dirty_empty = refl

-- "within its limits, .. arrived not after the running time, arrivals in a queue not decreasing"
sound_at_300 : sound_queue 1000 300 two ≡ true
unfolding of_soundness
sound_at_300 = refl

come_later : sound_queue 1000 299 two ≡ false
unfolding of_soundness
come_later = refl

ontime_too_long : sound_queue 999 300 two ≡ false
unfolding of_soundness
ontime_too_long = refl

lifetime_too_long : sound_queue 1000 300 (rows (set words_of_two 6 60000001) times_of_two) ≡ false
unfolding of_soundness
lifetime_too_long = refl

come_together : sound_queue 1000 300 (rows words_of_two (set times_of_two 0 300)) ≡ true
unfolding of_soundness
come_together = refl

out_of_order : sound_queue 1000 301 (rows words_of_two (set times_of_two 0 301)) ≡ false
unfolding of_soundness
out_of_order = refl

-- queue 3 lies in words 48 to 63 and times 15 to 19
last_queue : part 3 (rows (set (set (replicate 64 0) 48 1) 63 2) (set (set (replicate 20 0) 15 3) 19 4))
    ≡ rows (1 ∷ 0 ∷ 0 ∷ 0 ∷ 0 ∷ 0 ∷ 0 ∷ 0 ∷ 0 ∷ 0 ∷ 0 ∷ 0 ∷ 0 ∷ 0 ∷ 0 ∷ 2 ∷ []) (3 ∷ 0 ∷ 0 ∷ 0 ∷ 4 ∷ [])
last_queue = refl

not_the_last : part 3 (rows (set (replicate 64 0) 47 1) (set (replicate 20 0) 14 1)) ≡ rows (replicate 16 0) (replicate 5 0)
not_the_last = refl

-- four queues: nothing, the early one, nothing, both
abbrev four-queues : List (List Cell)
four-queues = [] ∷ (early ∷ []) ∷ [] ∷ (late ∷ early ∷ []) ∷ []

unfoldable of-rows : Type 0
unfolding triples words_of filled packed flat laid queues four_of tidy all_are padded
of-rows = Unit {0}

read_again_lem : queues (laid four-queues) ≡ four-queues
unfolding of-rows
read_again_lem = refl

-- and of all four
all_held : Held (laid four-queues)
unfolding of-rows
all_held = record { size = record { words = refl; came = refl }; tight = refl }

-- "four queues of up to 5 packets", one a priority
of_priority_three : (waiting_in (laid four-queues)).c3 ≡ packet_in 3 late ∷ packet_in 3 early ∷ []
unfolding of-rows
of_priority_three = refl

all-tidy : tidy (laid four-queues) ≡ true
unfolding of-rows
all-tidy = refl

last_word_dirty : tidy (rows (set (laid four-queues).words 63 1) (laid four-queues).came) ≡ false
unfolding of-rows
last_word_dirty = refl

last_time_dirty : tidy (rows (laid four-queues).words (set (laid four-queues).came 19 1)) ≡ false
unfolding of-rows
last_time_dirty = refl

three_wait : count_in four-queues ≡ 3
unfolding count_in
three_wait = refl

-- "A packet is expired when running time minus arrival is at least its lifetime."
all_live : alive 50199 (early ∷ late ∷ []) ≡ early ∷ late ∷ []
unfolding alive
all_live = refl

one-expired : alive 50200 (early ∷ late ∷ []) ≡ late ∷ []
unfolding alive
one-expired = refl

-- those that are left stay in their order
in_order_lem : alive 50200 (cell 1 1 50001 200 ∷ early ∷ late ∷ cell 9 1 1 400 ∷ cell 2 1 49000 1201 ∷ [])
    ≡ cell 1 1 50001 200 ∷ late ∷ cell 2 1 49000 1201 ∷ []
unfolding alive
in_order_lem = refl

-- "the front one leaves"
front_gone : changed 3 (drop 1) four-queues ≡ [] ∷ (early ∷ []) ∷ [] ∷ (early ∷ []) ∷ []
front_gone = refl

-- "the oldest of the lowest-numbered non-empty queue": at 50,199 it is that of queue 1; at 50,200 that one is expired
lowest_first : found_from 50199 0 four-queues ≡ Some (found_at 1 early)
unfolding found_from first_or alive
lowest_first = refl

next_queue : found_from 50200 0 four-queues ≡ Some (found_at 3 late)
unfolding found_from first_or alive
next_queue = refl

behind_an_expired : found_from 50200 0 ([] ∷ [] ∷ (early ∷ late ∷ []) ∷ (late ∷ []) ∷ []) ≡ Some (found_at 2 late)
unfolding found_from first_or alive
behind_an_expired = refl

none_live : found_from 50200 0 ((early ∷ []) ∷ [] ∷ (early ∷ early ∷ []) ∷ [] ∷ []) ≡ None
unfolding found_from first_or alive
none_live = refl
