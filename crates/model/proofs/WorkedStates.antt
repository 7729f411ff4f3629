-- Document 01's list of what makes a state sound, worked on one that is: each rule broken alone makes it unsound, and odd
-- states that no rule forbids are sound. Before it the states that make hands back. Each side computes to the other.
use Prim.Native.Nat.{ℕ, zero, suc}
use mathlib.Core.Path.{◌≡◌, refl}
use mathlib.Core.Bool.{Bool, true, false}
use mathlib.Core.List.{List, [], ◌∷◌, ◌++◌, map}
use lib.ListN.{length}
use Rattle.rules.specs.Profiles.{profiles}
use Rattle.control.specs.Control.{Control}
use Rattle.machine.specs.Levels.{no_levels}
use Rattle.model.specs.declared.Packet.{Packet}
use Rattle.model.specs.declared.Last.{Last}
use Rattle.model.specs.declared.Counts.{Counts}
use Rattle.model.specs.declared.Answer.TheVariants.{Ready, Taken, Sent, Idle, Closed, Refused}
use Rattle.model.specs.Fours.{Four}
use Rattle.model.specs.Calls.{Call, words, count, poll, reply_of, making_of}
use Rattle.model.specs.State.{View, with_clock, with_control, with_last, with_counts, with_waiting, sound}
use Rattle.model.specs.Effects.{result}
use Rattle.model.specs.Gate.{make, call}
use Rattle.model.proofs.Computing.{of_runs}
use Rattle.model.proofs.Worked.{clock_at, last_at, counted, with_displaced, steered, lately, packet, queues, state}
use Rattle.model.proofs.Worked.{with_way, up_to_date, making, making_old, offering, crowded}

-- "A fresh state: live, last stamp as given to make, running time 0, level 0, duty 600,000, smoothed load 0, no sample kept,
-- nothing admitted, queues empty.", and nothing counted (W-201)
abbrev fresh_state : (profile : ℕ) → View
fresh_state n = state (clock_at 0 4294967295) (steered n 0 600000 0 0 0) (last_at 0 0 0) (counted 0 0 0) (queues [] [] [] [])

fresh_states :
    map (λ (n : ℕ). make (making n 4294967295)) profiles ≡ map (λ (n : ℕ). result (fresh_state n) Ready) profiles
unfolding of_runs
fresh_states = refl

-- "a yes-or-no fixed at making and held in the state" (W-205)
fresh_in_the_old_way :
    map (λ (n : ℕ). make (making_old n 4294967295)) profiles
    ≡ map (λ (n : ℕ). result (with_way 1 (fresh_state n)) Ready) profiles
unfolding of_runs
fresh_in_the_old_way = refl

-- "Make's refusal hands back the all-zero, not live state."
abbrev all_zero : View
all_zero =
    record {
      live = 0;
      oldway = 0;
      clock = clock_at 0 0;
      control = steered 0 0 0 0 0 0;
      last = last_at 0 0 0;
      ledger = [];
      counts = counted 0 0 0;
      waiting = queues [] [] [] [];
    }

not_live_lem :
    map make (making 0 5 ∷ making 6 5 ∷ making_old 0 5 ∷ making_of 1 2 no_levels 5 ∷ making_of 5 0 no_levels 5 ∷ [])
    ≡ map (λ (n : ℕ). result all_zero (Refused n)) (1 ∷ 1 ∷ 1 ∷ 1 ∷ 15 ∷ [])
unfolding of_runs
not_live_lem = refl

-- a state of profile 3 at 100 that has a sample kept, something admitted, one displaced and packets in two queues; whether a
-- state is sound, and whether this one is with one part in place of its own
abbrev one_displaced : (accepted sent expired : ℕ) → Counts
one_displaced accepted sent expired = with_displaced 1 (counted accepted sent expired)

abbrev good : View
good =
    state (clock_at 100 7) (steered 3 2 700000 5 400000 1) (last_at 90 4000 1) (one_displaced 5 1 1)
    (queues [] (packet 7 1 4000 60000000 95 ∷ []) [] (packet 8 3 1 1 100 ∷ []))

is_sound : View → Bool
unfolding of_runs
is_sound v = sound v

of_live : (live : ℕ) → Bool
unfolding is_sound
of_live live =
    is_sound
    (record {
      live = live;
      oldway = good.oldway;
      clock = good.clock;
      control = good.control;
      last = good.last;
      ledger = good.ledger;
      counts = good.counts;
      waiting = good.waiting;
    })

of_time : (time : ℕ) → Bool
unfolding is_sound
of_time time = is_sound (up_to_date (with_clock good (clock_at time 7)))

of_control : Control → Bool
unfolding is_sound
of_control k = is_sound (with_control good k)

of_last : Last → Bool
unfolding is_sound
of_last l = is_sound (up_to_date (with_last good l))

of_counts : Counts → Bool
unfolding is_sound
of_counts c = is_sound (with_counts good c)

-- these in queue 1 and none elsewhere, with counts that add up
of_queue : List Packet → Bool
unfolding is_sound
of_queue ps = is_sound (with_counts (with_waiting good (queues [] ps [] [])) (counted (length ps) 0 0))

-- "A state is sound if: live; profile 1 to 3; level at most 4;"; "a sound state may have profile 4" (W-209)
sound_live : map of_live (0 ∷ 1 ∷ 2 ∷ []) ≡ false ∷ true ∷ false ∷ []
unfolding of_live
sound_live = refl

-- the way is a "yes-or-no" (W-205)
sound_way : map (λ (n : ℕ). is_sound (with_way n good)) (0 ∷ 1 ∷ 2 ∷ []) ≡ true ∷ true ∷ false ∷ []
unfolding is_sound
sound_way = refl

sound_profile :
    map (λ (n : ℕ). is_sound (with_control crowded (steered n 1 700000 5 0 0))) (0 ∷ profiles ++ 6 ∷ [])
    ≡ false ∷ true ∷ true ∷ true ∷ true ∷ true ∷ false ∷ []
unfolding is_sound
sound_profile = refl

sound_level : map (λ (n : ℕ). of_control (steered 3 n 700000 5 400000 1)) (4 ∷ 5 ∷ []) ≡ true ∷ false ∷ []
unfolding of_control
sound_level = refl

-- "duty 600,000 to 30,000,000; loads at most 1,000,000;"
sound_duty :
    map (λ (n : ℕ). of_control (steered 3 2 n 5 400000 1)) (599999 ∷ 600000 ∷ 30000000 ∷ 30000001 ∷ [])
    ≡ false ∷ true ∷ true ∷ false ∷ []
unfolding of_control
sound_duty = refl

sound_smoothed : map (λ (n : ℕ). of_control (steered 3 2 700000 n 400000 1)) (1000000 ∷ 1000001 ∷ []) ≡ true ∷ false ∷ []
unfolding of_control
sound_smoothed = refl

sound_kept : map (λ (n : ℕ). of_control (steered 3 2 700000 5 n 1)) (1000000 ∷ 1000001 ∷ []) ≡ true ∷ false ∷ []
unfolding of_control
sound_kept = refl

-- "a sample kept only in profile 3;", and zero "the kept sample when none is kept"
sound_pairing : map (λ (n : ℕ). of_control (steered 3 2 700000 5 0 n)) (0 ∷ 1 ∷ 2 ∷ []) ≡ true ∷ true ∷ false ∷ []
unfolding of_control
sound_pairing = refl

none_kept : map (λ (n : ℕ). of_control (steered 3 2 700000 5 n 0)) (0 ∷ 1 ∷ []) ≡ true ∷ false ∷ []
unfolding of_control
none_kept = refl

-- in each profile a sound one, and the same with a sample kept
kept_only_in_3 :
    map (λ (n : ℕ). map (λ (pairing : ℕ). is_sound (with_control crowded (steered n 0 600000 0 0 pairing))) (0 ∷ 1 ∷ [])) profiles
    ≡ (true ∷ false ∷ []) ∷ (true ∷ false ∷ []) ∷ (true ∷ true ∷ []) ∷ (true ∷ false ∷ []) ∷ (true ∷ false ∷ []) ∷ []
unfolding is_sound
kept_only_in_3 = refl

-- the latest load "is kept in profile 4 alone and zero elsewhere" (W-209)
latest_only_in_4 :
    map
    (λ (n : ℕ). map (λ (load : ℕ). is_sound (with_control crowded (lately n 0 600000 0 load))) (0 ∷ 1 ∷ 1000000 ∷ 1000001 ∷ []))
    profiles
    ≡ (true ∷ false ∷ false ∷ false ∷ [])
    ∷ (true ∷ false ∷ false ∷ false ∷ [])
    ∷ (true ∷ false ∷ false ∷ false ∷ [])
    ∷ (true ∷ true ∷ true ∷ false ∷ [])
    ∷ (true ∷ false ∷ false ∷ false ∷ [])
    ∷ []
unfolding is_sound
latest_only_in_4 = refl

-- "running time at most 10^15;"
sound_time : map of_time (1000000000000000 ∷ 1000000000000001 ∷ []) ≡ true ∷ false ∷ []
unfolding of_time
sound_time = refl

-- "the admission not after it and its on-time allowed;", and zero "admission fields before the first"
sound-admission : map (λ (n : ℕ). of_last (last_at n 4000 1)) (100 ∷ 101 ∷ []) ≡ true ∷ false ∷ []
unfolding of_last
sound-admission = refl

sound_last_ontime :
    map (λ (n : ℕ). of_last (last_at 90 n 1)) (0 ∷ 1 ∷ 4000 ∷ 4001 ∷ []) ≡ false ∷ true ∷ true ∷ false ∷ []
unfolding of_last
sound_last_ontime = refl

shorter_in_1 : map (λ (n : ℕ). is_sound (up_to_date (with_last crowded (last_at 15 n 1)))) (1000 ∷ 1001 ∷ []) ≡ true ∷ false ∷ []
unfolding is_sound
shorter_in_1 = refl

sound_admitted : map (λ (n : ℕ). of_last (last_at 0 0 n)) (0 ∷ 2 ∷ []) ≡ true ∷ false ∷ []
unfolding of_last
sound_admitted = refl

before_the_first : map of_last (last_at 1 0 0 ∷ last_at 0 1 0 ∷ []) ≡ false ∷ false ∷ []
unfolding of_last
before_the_first = refl

-- "every queue length at most 5, every waiting packet within its limits,"
many : ℕ → List Packet
many zero = []
many (suc n) = packet 7 1 1 1 9 ∷ many n

sound-length : map (λ (n : ℕ). of_queue (many n)) (5 ∷ 6 ∷ []) ≡ true ∷ false ∷ []
unfolding of_queue many
sound-length = refl

sound_ontime :
    map (λ (n : ℕ). of_queue (packet 7 1 n 9 9 ∷ [])) (0 ∷ 1 ∷ 4000 ∷ 4001 ∷ []) ≡ false ∷ true ∷ true ∷ false ∷ []
unfolding of_queue
sound_ontime = refl

sound_lifetime :
    map (λ (n : ℕ). of_queue (packet 7 1 9 n 9 ∷ [])) (0 ∷ 1 ∷ 60000000 ∷ 60000001 ∷ []) ≡ false ∷ true ∷ true ∷ false ∷ []
unfolding of_queue
sound_lifetime = refl

-- "in its own priority's queue, arrived not after the running time, arrivals in a queue not decreasing;"
sound_priority : map (λ (n : ℕ). of_queue (packet 7 n 9 9 9 ∷ [])) (0 ∷ 1 ∷ 2 ∷ []) ≡ false ∷ true ∷ false ∷ []
unfolding of_queue
sound_priority = refl

sound_arrival : map (λ (n : ℕ). of_queue (packet 7 1 9 9 n ∷ [])) (0 ∷ 100 ∷ 101 ∷ []) ≡ true ∷ true ∷ false ∷ []
unfolding of_queue
sound_arrival = refl

sound_arrivals :
    map (λ (n : ℕ). of_queue (packet 7 1 9 9 50 ∷ packet 7 1 9 9 60 ∷ packet 7 1 9 9 n ∷ [])) (59 ∷ 60 ∷ []) ≡ false ∷ true ∷ []
unfolding of_queue
sound_arrivals = refl

-- "an identifier (any 32-bit number, repeats allowed)"
sound_identifiers : map (λ (n : ℕ). of_queue (packet n 1 9 9 9 ∷ packet n 1 9 9 9 ∷ [])) (0 ∷ 4294967295 ∷ []) ≡ true ∷ true ∷ []
unfolding of_queue
sound_identifiers = refl

-- "four queues": each is judged by its own number, the state's profile and its time. A packet alone, in a state of profile 1 at
-- 100
judged : (Packet → Four Packet) → (own other : ℕ) → List Bool
unfolding is_sound
judged put own other =
    map (λ (p : Packet). is_sound (state (clock_at 100 7) (steered 1 0 600000 0 0 0) (last_at 0 0 0) (counted 1 0 0) (put p)))
    (packet 7 own 1000 9 100 ∷ packet 7 other 1000 9 100 ∷ packet 7 own 1001 9 100 ∷ packet 7 own 1000 9 101 ∷ [])

each_queue_judged :
    judged (λ p. queues (p ∷ []) [] [] []) 0 1
    ∷ judged (λ p. queues [] (p ∷ []) [] []) 1 2
    ∷ judged (λ p. queues [] [] (p ∷ []) []) 2 3
    ∷ judged (λ p. queues [] [] [] (p ∷ [])) 3 0
    ∷ []
    ≡ map (λ (n : ℕ). true ∷ false ∷ false ∷ false ∷ []) (0 ∷ 1 ∷ 2 ∷ 3 ∷ [])
unfolding judged
each_queue_judged = refl

-- "A state whose counts don't add up, or with accepted above 10^15, isn't sound." (W-201); "W-201's sum gains a fourth count,
-- displaced" (W-205): two wait; "a sum that holds only modulo 2^64 is none" (R17)
sound_counts :
    map of_counts
    (one_displaced 5 1 1
    ∷ one_displaced 6 1 1
    ∷ one_displaced 4 1 1
    ∷ one_displaced 5 0 1
    ∷ one_displaced 5 2 1
    ∷ one_displaced 5 1 0
    ∷ one_displaced 5 1 2
    ∷ [])
    ≡ true ∷ false ∷ false ∷ false ∷ false ∷ false ∷ false ∷ []
unfolding of_counts
sound_counts = refl

sound-displaced : map (λ (n : ℕ). of_counts (with_displaced n (counted 5 1 1))) (0 ∷ 1 ∷ 2 ∷ []) ≡ false ∷ true ∷ false ∷ []
unfolding of_counts
sound-displaced = refl

most-accepted :
    map of_counts (one_displaced 1000000000000000 999999999999990 7 ∷ one_displaced 1000000000000001 999999999999991 7 ∷ [])
    ≡ true ∷ false ∷ []
unfolding of_counts
most-accepted = refl

not_modulo :
    map of_counts (one_displaced 0 18446744073709551612 1 ∷ with_displaced 18446744073709551613 (counted 0 1 0) ∷ [])
    ≡ false ∷ false ∷ []
unfolding of_counts
not_modulo = refl

-- "Some states are odd and still sound: profiles 1 and 2 with any duty in range and any smoothed load up to 1,000,000; profile
-- 3 with level 1 to 4; packets that wait though they have expired" (R3); "Sent above 0 with nothing admitted" (R17); a gate made
-- in the old way that has displaced some, as no rule forbids it
odd_but_sound :
    map is_sound
    (with_control crowded (steered 1 4 30000000 1000000 0 0)
    ∷ with_control crowded (steered 2 1 600001 1 0 0)
    ∷ with_control good (steered 3 4 600000 0 0 0)
    ∷ up_to_date (with_clock crowded (clock_at 60000100 3))
    ∷ up_to_date (with_last crowded (last_at 0 0 0))
    ∷ with_way 1 crowded
    ∷ [])
    ≡ true ∷ true ∷ true ∷ true ∷ true ∷ true ∷ []
unfolding is_sound
odd_but_sound = refl

-- "Any other state is refused with 9.", and handed back
abbrev unsound : View
unsound = with_control good (steered 3 5 700000 5 400000 1)

refused_with_9 :
    map (λ (c : Call). call unsound c) (words 7 1000 [] ∷ count 7 0 1000 ∷ offering 7 7 0 1 1 ∷ poll 7 ∷ [])
    ≡ map (λ (n : ℕ). result unsound (Refused n)) (9 ∷ 9 ∷ 9 ∷ 9 ∷ [])
unfolding of_runs
refused_with_9 = refl

-- "Where an answer is an enum, a definition gives this paper's number and values for each of its cases.": kind, number, packet
replies :
    map reply_of (Ready ∷ Taken ∷ Sent (packet 1 2 3 4 5) ∷ Idle ∷ Closed 6 ∷ Refused 7 ∷ [])
    ≡ record { packet = packet 0 0 0 0 0; number = 0; kind = 0 }
    ∷ record { packet = packet 0 0 0 0 0; number = 0; kind = 1 }
    ∷ record { packet = packet 1 2 3 4 5; number = 0; kind = 2 }
    ∷ record { packet = packet 0 0 0 0 0; number = 0; kind = 3 }
    ∷ record { packet = packet 0 0 0 0 0; number = 6; kind = 4 }
    ∷ record { packet = packet 0 0 0 0 0; number = 7; kind = 5 }
    ∷ []
replies = refl
