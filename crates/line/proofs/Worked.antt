-- Document 01's sample log and W-207's example of document 02 on the list, and what W-212's sentences come to: the definitions
-- run, and each side computes to the other.
use Prim.Native.Nat.{ℕ, zero, suc, ◌+◌, ◌*◌}
use mathlib.Core.Path.{◌≡◌, refl}
use mathlib.Core.Bool.{true, false}
use mathlib.Core.List.{List, [], ◌∷◌, ◌++◌, map}
use lib.ListN.{length, replicate}
use Rattle.rules.specs.Tests.{all_of}
use Rattle.machine.specs.declared.Levels.{Levels}
use Rattle.machine.specs.Levels.{levels_of}
use Rattle.model.specs.declared.Packet.{Packet}
use Rattle.model.specs.declared.Answer.{Answer}
use Rattle.model.specs.declared.Answer.TheVariants.{Ready, Taken, Sent, Idle, Closed, Refused}
use Rattle.model.specs.Packets.{chosen}
use Rattle.model.specs.Queues.{queue_rules}
use Rattle.model.specs.Calls.{Call, count, poll, Making, making_of}
use Rattle.model.specs.State.{status_from}
use Rattle.model.specs.Gate.{make_in}
use Rattle.model.specs.Claims.{view_after, events}
use Rattle.model.proofs.Computing.{of_runs}
use Rattle.model.proofs.Worked.{clock_at, last_at, counted, steered, packet, making, making_old, offering}
use Rattle.line.specs.Line.{count_of, best, without, picked, list_rules, in_list, Listed}
use Rattle.line.specs.Same.{of, parted, in_parts}
use Rattle.line.proofs.Agree.{sound_lists_agree}

-- all that an example opens
unfoldable on_lists : Type 0
unfolding of_runs count_of best without picked
on_lists = Unit {0}

-- what make gives, the state after calls, and the answers to calls
made : Making → Listed
unfolding on_lists
made m = (make_in in_list m).view

after : Listed → List Call → Listed
unfolding on_lists
after v cs = view_after v cs

answers_of : Listed → List Call → List Answer
unfolding on_lists
answers_of v cs = map (λ (e : Call × Answer). e.1) (events v cs)

-- document 01's sample log: TAKEN, TAKEN, SENT 8, CLOSED 49600, CLOSED 400, REFUSED 2, CLOSED 400 (as W-202 has it)
sample_make_lem : (make_in in_list (making 2 4294967000)).answer ≡ Ready
unfolding on_lists
sample_make_lem = refl

sample_log_lem :
    answers_of (made (making 2 4294967000))
    (offering 4294967100 7 2 400 1000000
    ∷ offering 4294967100 8 1 400 60000
    ∷ poll 4294967200
    ∷ poll 704
    ∷ poll 49904
    ∷ poll 49903
    ∷ poll 49904
    ∷ [])
    ≡ Taken ∷ Taken ∷ Sent (packet 8 1 400 60000 100) ∷ Closed 49600 ∷ Closed 400 ∷ Refused 2 ∷ Closed 400 ∷ []
unfolding answers_of made
sample_log_lem = refl

-- a gate of profile 3 that waits 133,334 µs after a packet of 4,000 µs, and has admitted nothing
abbrev widest : Listed
widest = status_from 1 0 (clock_at 0 0) (steered 3 0 30000000 0 0 0) (last_at 0 0 0) [] (counted 0 0 0) []

-- "Eight packets of 4,000 µs at 133,334 µs spacing are 32 ms in a second." (document 02, W-207): a packet offered and a poll, at
-- each of them
at : (n : ℕ) → List Call
at n = offering (133334 * n) n 0 4000 60000000 ∷ poll (133334 * n) ∷ []

goes : (n : ℕ) → List Answer
goes n = Taken ∷ Sent (packet n 0 4000 60000000 (133334 * n)) ∷ []

seven : List Call
unfolding at
seven = at 0 ++ at 1 ++ at 2 ++ at 3 ++ at 4 ++ at 5 ++ at 6

seven_go : answers_of widest seven ≡ goes 0 ++ goes 1 ++ goes 2 ++ goes 3 ++ goes 4 ++ goes 5 ++ goes 6
unfolding answers_of seven goes
seven_go = refl

-- the eighth waits until the first is 1,000,000 µs old
the_eighth_waits :
    answers_of (after widest seven) (at 7 ++ poll 999999 ∷ poll 1000000 ∷ poll 1000000 ∷ [])
    ≡ Taken ∷ Closed 66662 ∷ Closed 1 ∷ Sent (packet 7 0 4000 60000000 933338) ∷ Idle ∷ []
unfolding answers_of after seven
the_eighth_waits = refl

-- "for the lowest priority number, first come first": packets 11 and 13 have the lowest, 11 came first
waiting : List Packet
waiting = packet 10 2 400 60000 5 ∷ packet 11 1 400 60000 6 ∷ packet 12 3 400 60000 6 ∷ packet 13 1 400 60000 6 ∷ []

first_of_the_lowest :
    picked waiting
    ≡ chosen (packet 11 1 400 60000 6) (packet 10 2 400 60000 5 ∷ packet 12 3 400 60000 6 ∷ packet 13 1 400 60000 6 ∷ [])
unfolding on_lists waiting
first_of_the_lowest = refl

-- "arrivals not decreasing over the whole of it": each part of this list is a sound queue, the list is not sound
crossed : List Packet
crossed = packet 1 0 400 60000 6 ∷ packet 2 1 400 60000 5 ∷ []

sound_only_in_parts : (all_of (list_rules 1 9 crossed) ≡ false) × (all_of (queue_rules 1 9 (parted crossed)) ≡ true)
unfolding on_lists crossed of
sound_only_in_parts = (refl, refl)

-- "packets that came at the same time stand in the order of coming": either order is sound
together : List Packet
together = packet 1 3 400 60000 6 ∷ packet 2 0 400 60000 6 ∷ []

together_sound : all_of (list_rules 1 6 together) ≡ true
unfolding on_lists together
together_sound = refl

-- five offers of a priority, from an identifier on
five : (id priority : ℕ) → List Call
five id priority =
    offering 0 id priority 400 60000
    ∷ offering 0 (id + 1) priority 400 60000
    ∷ offering 0 (id + 2) priority 400 60000
    ∷ offering 0 (id + 3) priority 400 60000
    ∷ offering 0 (id + 4) priority 400 60000
    ∷ []

-- "up to 20 waiting packets", "five to a priority": twenty wait; in the new way one more of priority 2 displaces the first of
-- that priority, in the old way it is refused with 8
twenty : List Call
unfolding five
twenty = five 10 3 ++ five 20 2 ++ five 30 1 ++ five 40 0

abbrev counts : Listed → List ℕ
counts v = length v.waiting ∷ v.counts.accepted ∷ v.counts.displaced ∷ []

twenty_wait : counts (after (made (making 1 0)) twenty) ≡ 20 ∷ 20 ∷ 0 ∷ []
unfolding after made twenty
twenty_wait = refl

-- from there on, which is sound, the list and its parts answer alike
alike : (calls : List Call)
    → events (after (made (making 1 0)) twenty) calls ≡ events (in_parts (after (made (making 1 0)) twenty)) calls
unfolding after made twenty of
alike calls = (sound_lists_agree (after (made (making 1 0)) twenty) calls refl).answers

one-displaced : counts (after (made (making 1 0)) (twenty ++ offering 0 99 2 400 60000 ∷ [])) ≡ 20 ∷ 21 ∷ 1 ∷ []
unfolding after made twenty
one-displaced = refl

one_refused : answers_of (after (made (making_old 1 0)) twenty) (offering 0 99 2 400 60000 ∷ []) ≡ Refused 8 ∷ []
unfolding answers_of after made twenty
one_refused = refl

-- profile 5 (document 02, W-213): "W-212's engine takes the profile too". Eight levels, the top one reached at 80 %, with a wait
-- of 60 ms at level 0 and of 400 ms at the top
eight : Levels
eight =
    levels_of 8 60000 (100000 ∷ 200000 ∷ 300000 ∷ 400000 ∷ 500000 ∷ 600000 ∷ 700000 ∷ 800000 ∷ [])
    (replicate 7 100000 ++ 400000 ∷ [])

listed : Listed
unfolding made eight
listed = made (making_of 5 0 eight 0)

-- so many samples in which every probe was busy
full : ℕ → List Call
full zero = []
full (suc n) = count 0 1000 1000 ∷ full n

-- nine leave level 0, the tenth gives the top at once
tenth_lifts : map (λ (n : ℕ). (after listed (full n)).control.tuning.level) (0 ∷ 9 ∷ 10 ∷ []) ≡ 0 ∷ 0 ∷ 8 ∷ []
unfolding after listed full
tenth_lifts = refl

-- and the wait is the level's, from the end of the packet that went
two_wait : List Call
two_wait = offering 0 1 0 400 60000 ∷ offering 0 2 0 400 60000 ∷ poll 0 ∷ []

closed_by_the_list :
    map (λ (n : ℕ). answers_of (after listed (full n ++ two_wait)) (poll 1 ∷ [])) (9 ∷ 10 ∷ [])
    ≡ (Closed 60399 ∷ []) ∷ (Closed 400399 ∷ []) ∷ []
unfolding answers_of after listed full two_wait
closed_by_the_list = refl
