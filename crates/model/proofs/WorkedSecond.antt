-- Thirty milliseconds in any second, worked on small states: each side computes to the other.
use Prim.Native.Nat.{ℕ, zero, suc, ◌+◌, ◌-◌, ◌*◌, ◌%◌}
use mathlib.Core.Path.{◌≡◌, refl}
use mathlib.Core.Bool.{Bool, true, false}
use mathlib.Core.List.{List, [], ◌∷◌, ◌++◌, map}
use lib.ListN.{length, drop}
use Rattle.rules.specs.Profiles.{profiles, by_profile}
use Rattle.model.specs.declared.Packet.{Packet}
use Rattle.model.specs.declared.Admission.{Admission}
use Rattle.model.specs.declared.Last.{Last}
use Rattle.model.specs.declared.Answer.{Answer}
use Rattle.model.specs.declared.Answer.TheVariants.{Taken, Sent, Idle, Closed, Refused}
use Rattle.model.specs.Calls.{Call, count, poll}
use Rattle.model.specs.Ledger.{air_of}
use Rattle.model.specs.State.{View, with_control, with_ledger, sound}
use Rattle.model.specs.Gate.{make, call}
use Rattle.model.specs.Journal.{air_in, last_second}
use Rattle.model.proofs.Computing.{of_runs}
use Rattle.model.proofs.Worked.{clock_at, last_at, counted, steered, packet, queues, state, making, offering}
use Rattle.model.proofs.Worked.{answers_of, after}

abbrev admission : (at ontime : ℕ) → Admission
admission at ontime = record { at = at; ontime = ontime }

-- a gate of profile 3 that waits 133,334 µs after a packet of 4,000 µs, its greatest duty, and has admitted nothing
abbrev widest : View
widest = state (clock_at 0 0) (steered 3 0 30000000 0 0 0) (last_at 0 0 0) (counted 0 0 0) (queues [] [] [] [])

-- "Eight packets of 4,000 µs at 133,334 µs spacing are 32 ms in a second.": a packet offered and a poll, at each of them
at : (n : ℕ) → List Call
at n = offering (133334 * n) n 0 4000 60000000 ∷ poll (133334 * n) ∷ []

goes : (n : ℕ) → List Answer
goes n = Taken ∷ Sent (packet n 0 4000 60000000 (133334 * n)) ∷ []

seven : List Call
unfolding at
seven = at 0 ++ at 1 ++ at 2 ++ at 3 ++ at 4 ++ at 5 ++ at 6

seven_go : answers_of widest seven ≡ goes 0 ++ goes 1 ++ goes 2 ++ goes 3 ++ goes 4 ++ goes 5 ++ goes 6
unfolding answers_of seven goes
seven_go = refl

-- the eighth waits until the first is 1,000,000 µs old: 66,662 µs, at 999,999 one more, at 1,000,000 none
the_eighth_waits :
    answers_of (after widest seven) (at 7 ++ poll 999999 ∷ poll 1000000 ∷ poll 1000000 ∷ [])
    ≡ Taken ∷ Closed 66662 ∷ Closed 1 ∷ Sent (packet 7 0 4000 60000000 933338) ∷ Idle ∷ []
unfolding answers_of after seven
the_eighth_waits = refl

-- "a ledger in order of time": what that run leaves in it
its_ledger :
    (after (after widest seven) (at 7 ++ poll 1000000 ∷ [])).ledger
    ≡ admission 133334 4000
    ∷ admission 266668 4000
    ∷ admission 400002 4000
    ∷ admission 533336 4000
    ∷ admission 666670 4000
    ∷ admission 800004 4000
    ∷ admission 1000000 4000
    ∷ []
unfolding after seven
its_ledger = refl

-- so many admissions of an on-time from a time on, 25,000 µs apart
row : (n from ontime : ℕ) → List Admission
row zero from ontime = []
row (suc n) from ontime = admission from ontime ∷ row n (from + 25000) ontime

-- a state of profile 3 at a time with those in its ledger, where its last admission came, and what waits
abbrev holding : (time : ℕ) → Last → List Admission → List Packet → View
holding time last l ps =
    with_ledger
    (state (clock_at time 0) (steered 3 0 30000000 0 0 0) last (counted (length ps) 0 0) (queues ps [] [] []))
    l

-- "gaps of at least 25,000 µs mean that 40 are enough": forty of 750 µs fill 30,000 exactly
full : (time ontime : ℕ) → View
unfolding row
full time ontime =
    holding time (last_at 975000 750 1) (row 40 0 750) (packet 1 0 ontime 60000000 999999 ∷ [])

forty_fill : air_of (row 40 0 750) ≡ 30000
unfolding of_runs row
forty_fill = refl

forty_are_sound : sound (full 999999 750) ≡ true
unfolding of_runs full
forty_are_sound = refl

-- a µs later one has aged, and its room is used again: 750 µs go, 751 wait until the next has aged
forty-and-one_more : answers_of (full 999999 750) (poll 0 ∷ poll 1 ∷ []) ≡ Closed 1 ∷ Sent (packet 1 0 750 60000000 999999) ∷ []
unfolding answers_of full
forty-and-one_more = refl

one-over : answers_of (full 999999 751) (poll 0 ∷ poll 1 ∷ []) ≡ Closed 25001 ∷ Closed 25000 ∷ []
unfolding answers_of full
one-over = refl

-- two that must age, not one: 30,000 are held, the two oldest of them with 1,000 each
held : List Admission
unfolding row
held = admission 100000 1000 ∷ admission 200000 1000 ∷ row 7 300000 4000

waiting : (time ontime : ℕ) → View
unfolding held
waiting time ontime = holding time (last_at 450000 4000 1) held (packet 1 0 ontime 60000000 450000 ∷ [])

answer_at : (time ontime : ℕ) → Answer
unfolding of_runs waiting
answer_at time ontime = (call (waiting time ontime) (poll 0)).answer

one_must_age : map (answer_at 600000) (1 ∷ 1000 ∷ []) ≡ Closed 500000 ∷ Closed 500000 ∷ []
unfolding answer_at
one_must_age = refl

two_must_age : map (answer_at 600000) (1001 ∷ 2000 ∷ []) ≡ Closed 600000 ∷ Closed 600000 ∷ []
unfolding answer_at
two_must_age = refl

three_must_age : answer_at 600000 2001 ≡ Closed 700000
unfolding answer_at
three_must_age = refl

-- "CLOSED reports the smallest further wait": the greater of the two, not their sum. What is left of the wait is 133,334 at
-- 450,000, and 850,000 at 600,000 where the duty is at its least
the_air_is_longer : answer_at 450000 1 ≡ Closed 650000
unfolding answer_at
the_air_is_longer = refl

the_wait_is_longer : (call (with_control (waiting 600000 1) (steered 3 0 600000 0 0 0)) (poll 0)).answer ≡ Closed 850000
unfolding of_runs waiting
the_wait_is_longer = refl

-- "Ask again so many µs later, and the packet goes; ask a µs sooner, and it doesn't" (the label): what a second poll says, d µs
-- behind one at stamp 0. Here the air is the longer, then the wait; at an end the clock goes back, at the other it ends
abbrev asked : (v : View) (stamp : ℕ) → List ℕ → List (List Answer)
asked v stamp ds = map (λ (d : ℕ). answers_of v (poll stamp ∷ poll ((stamp + d) % 4294967296) ∷ [])) ds

asked_for_the_air :
    asked (waiting 450000 1) 0 (0 ∷ 1 ∷ 649999 ∷ 650000 ∷ 59999999 ∷ [])
    ≡ (Closed 650000 ∷ Closed 650000 ∷ [])
    ∷ (Closed 650000 ∷ Closed 649999 ∷ [])
    ∷ (Closed 650000 ∷ Closed 1 ∷ [])
    ∷ (Closed 650000 ∷ Sent (packet 1 0 1 60000000 450000) ∷ [])
    ∷ (Closed 650000 ∷ Sent (packet 1 0 1 60000000 450000) ∷ [])
    ∷ []
unfolding answers_of waiting
asked_for_the_air = refl

asked_for_the_wait :
    asked (with_control (waiting 600000 1) (steered 3 0 600000 0 0 0)) 0 (849999 ∷ 850000 ∷ [])
    ≡ (Closed 850000 ∷ Closed 1 ∷ []) ∷ (Closed 850000 ∷ Sent (packet 1 0 1 60000000 450000) ∷ []) ∷ []
unfolding answers_of waiting
asked_for_the_wait = refl

-- in every profile: a packet of 500 µs has gone, one more is offered, and the stamps pass 2^32 between the two polls
tells : (profile : ℕ) → ℕ
tells profile = by_profile profile 100500 50500 833334 25500 60500

closed_once : (profile : ℕ) → View
unfolding of_runs
closed_once profile =
    after (make (making profile 4294967200)).view
    (offering 4294967200 1 0 500 60000000 ∷ poll 4294967200 ∷ offering 4294967200 2 0 500 60000000 ∷ [])

asked_in_all :
    map (λ (n : ℕ). asked (closed_once n) 4294967200 ((tells n - 1) ∷ tells n ∷ [])) profiles
    ≡ map (λ (n : ℕ).
    (Closed (tells n) ∷ Closed 1 ∷ []) ∷ (Closed (tells n) ∷ Sent (packet 2 0 500 60000000 0) ∷ []) ∷ []) profiles
unfolding answers_of after closed_once tells
asked_in_all = refl

-- what is not meant: the packet has expired by then, and another is the next, if there is one; the clock goes back; it has ended
dying : (time : ℕ) → List Packet → View
dying time behind =
    state (clock_at time 0) (steered 1 0 600000 0 0 0) (last_at time 1000 1) (counted (1 + length behind) 0 0)
    (queues (packet 1 0 1 50000 time ∷ []) behind [] [])

asked_too_late :
    asked (dying 0 []) 0 (49999 ∷ 50000 ∷ 101000 ∷ 2147483648 ∷ [])
    ++ asked (dying 0 (packet 2 1 1 60000000 0 ∷ [])) 0 (50000 ∷ 101000 ∷ [])
    ++ asked (dying 999999999990000 []) 0 (10000 ∷ 10001 ∷ [])
    ≡ (Closed 101000 ∷ Closed 51001 ∷ [])
    ∷ (Closed 101000 ∷ Idle ∷ [])
    ∷ (Closed 101000 ∷ Idle ∷ [])
    ∷ (Closed 101000 ∷ Refused 2 ∷ [])
    ∷ (Closed 101000 ∷ Closed 51000 ∷ [])
    ∷ (Closed 101000 ∷ Sent (packet 2 1 1 60000000 0) ∷ [])
    ∷ (Closed 101000 ∷ Closed 91000 ∷ [])
    ∷ (Closed 101000 ∷ Refused 3 ∷ [])
    ∷ []
unfolding answers_of dying
asked_too_late = refl

-- "the oldest of the lowest-numbered": where that does not fit, a shorter one behind it does not go, though by itself it would
behind : List Packet → View
unfolding held
behind ps = holding 600000 (last_at 450000 4000 1) (drop 1 held) ps

shorter_waits :
    map (λ (ps : List Packet). (call (behind ps) (poll 0)).answer)
    ((packet 1 0 4000 60000000 500000 ∷ packet 2 0 500 60000000 500000 ∷ []) ∷ (packet 2 0 500 60000000 500000 ∷ []) ∷ [])
    ≡ Closed 700000 ∷ Sent (packet 2 0 500 60000000 500000) ∷ []
unfolding of_runs behind
shorter_waits = refl

-- "Every accepted call, samples too, drops admissions that have reached 1,000,000 µs of age.": a sample at 1,100,000, not one at
-- 1,099,999; and a call that is refused drops nothing
old : View
unfolding waiting
old = waiting 1099999 1

left_by : List Call → ℕ
unfolding of_runs old
left_by cs = length (after old cs).ledger

dropped_by_samples :
    map left_by ((count 0 5 1000 ∷ []) ∷ (count 1 5 1000 ∷ []) ∷ (count 1 1001 1000 ∷ []) ∷ (count 100001 5 1000 ∷ []) ∷ [])
    ≡ 9 ∷ 8 ∷ 9 ∷ 7 ∷ []
unfolding left_by after
dropped_by_samples = refl

-- "The last admission stays beside it": the gate of profile 1 is closed for 1,001,000 µs, and by then the ledger is empty
lone : (time : ℕ) → View
lone time =
    state (clock_at time 0) (steered 1 4 600000 0 0 0) (last_at 0 1000 1) (counted 1 0 0)
    (queues (packet 1 0 1 60000000 0 ∷ []) [] [] [])

longer_than_a_second : answers_of (lone 999999) (poll 0 ∷ poll 1 ∷ poll 1001 ∷ [])
    ≡ Closed 1001 ∷ Closed 1000 ∷ Sent (packet 1 0 1 60000000 0) ∷ []
unfolding answers_of lone
longer_than_a_second = refl

its_ledger_is_empty : map (λ (t : ℕ). length (lone t).ledger) (999999 ∷ 1000000 ∷ []) ≡ 1 ∷ 0 ∷ []
unfolding lone
its_ledger_is_empty = refl

-- "Sound states hold a ledger in order of time, gaps at least 25,000 µs, on-times allowed, all younger than 1,000,000 µs, sum at
-- most 30,000, its newest being the last admission whenever that is young enough, empty otherwise"
sound_with : (time : ℕ) → Last → List Admission → Bool
unfolding of_runs
sound_with time last l = sound (holding time last l [])

abbrev two_at : (first second : ℕ) → List Admission
two_at first second = admission first 3000 ∷ admission second 4000 ∷ []

sound_ages :
    map (λ (t : ℕ). sound_with t (last_at 1100000 4000 1) (two_at 1000000 1100000)) (1999999 ∷ 2000000 ∷ [])
    ≡ true ∷ false ∷ []
unfolding sound_with
sound_ages = refl

sound_gaps :
    map (λ (t : ℕ). sound_with 1500000 (last_at 1100000 4000 1) (two_at t 1100000)) (1075000 ∷ 1075001 ∷ 1100000 ∷ 1200000 ∷ [])
    ≡ true ∷ false ∷ false ∷ false ∷ []
unfolding sound_with
sound_gaps = refl

sound_ontimes :
    map (λ (o : ℕ). sound_with 1500000 (last_at 1100000 4000 1) (admission 1000000 o ∷ admission 1100000 4000 ∷ []))
    (0 ∷ 1 ∷ 4000 ∷ 4001 ∷ [])
    ≡ false ∷ true ∷ true ∷ false ∷ []
unfolding sound_with
sound_ontimes = refl

sound_sums :
    map (λ (o : ℕ). sound_with 500000 (last_at 175000 o 1) (row 7 0 4000 ++ (admission 175000 o ∷ []))) (2000 ∷ 2001 ∷ [])
    ≡ true ∷ false ∷ []
unfolding sound_with row
sound_sums = refl

sound_newest :
    map (sound_with 1500000 (last_at 1100000 4000 1))
    (two_at 1000000 1100000
    ∷ (admission 1100000 4000 ∷ [])
    ∷ (admission 1000000 3000 ∷ [])
    ∷ (admission 1100000 3999 ∷ [])
    ∷ []
    ∷ [])
    ≡ true ∷ true ∷ false ∷ false ∷ false ∷ []
unfolding sound_with
sound_newest = refl

sound_empty :
    map (λ (l : List Admission). sound_with 2100000 (last_at 1100000 4000 1) l) ([] ∷ (admission 1200000 4000 ∷ []) ∷ [])
    ≡ true ∷ false ∷ []
unfolding sound_with
sound_empty = refl

none-before_the_first :
    map (λ (l : List Admission). sound_with 500 (last_at 0 0 0) l) ([] ∷ (admission 0 4000 ∷ []) ∷ []) ≡ true ∷ false ∷ []
unfolding sound_with
none-before_the_first = refl

-- the journal's sums: "half-open" has its beginning and not its end; "an admission exactly 1,000,000 µs old left out"
half_open :
    map (λ (from : ℕ). air_in from (from + 1000000) (admission 1000000 4 ∷ admission 500000 2 ∷ admission 0 1 ∷ []))
    (0 ∷ 1 ∷ 500000 ∷ 500001 ∷ 1000000 ∷ 1000001 ∷ [])
    ≡ 3 ∷ 6 ∷ 6 ∷ 4 ∷ 4 ∷ 0 ∷ []
unfolding of_runs
half_open = refl

last_second_lem :
    map (λ (now : ℕ). last_second now (admission 500000 2 ∷ admission 0 1 ∷ [])) (999999 ∷ 1000000 ∷ 1500000 ∷ [])
    ≡ (admission 0 1 ∷ admission 500000 2 ∷ []) ∷ (admission 500000 2 ∷ []) ∷ [] ∷ []
unfolding of_runs
last_second_lem = refl
