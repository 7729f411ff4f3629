-- Sentences of documents 01 and 02 and of docs/DECISIONS.md about calls that no theorem fixes, worked on small states: each side
-- computes to the other, so a definition that is read otherwise fails here.
use Prim.Native.Nat.{ℕ, ◌+◌}
use mathlib.Core.Path.{◌≡◌, refl}
use mathlib.Core.Bool.{cond}
use mathlib.Core.List.{List, [], ◌∷◌, ◌++◌, map}
use lib.Dec.{eqb}
use lib.ListN.{replicate}
use Rattle.rules.specs.Profiles.{profiles, by_profile}
use Rattle.rules.specs.Refusals.{Check}
use Rattle.machine.specs.declared.Levels.{Levels}
use Rattle.machine.specs.Levels.{levels_of, no_levels}
use Rattle.machine.specs.Loads.{no_loads}
use Rattle.control.specs.Control.{Control, control_of}
use Rattle.model.specs.declared.Packet.{Packet}
use Rattle.model.specs.declared.Clock.{Clock}
use Rattle.model.specs.declared.Last.{Last}
use Rattle.model.specs.declared.Admission.{Admission}
use Rattle.model.specs.declared.Counts.{Counts}
use Rattle.model.specs.declared.Offer.{Offer}
use Rattle.model.specs.declared.Answer.{Answer}
use Rattle.model.specs.declared.Answer.TheVariants.{Ready, Taken, Sent, Idle, Closed, Refused}
use Rattle.model.specs.Packets.{Holding}
use Rattle.model.specs.Fours.{Four}
use Rattle.model.specs.Calls.{Call, words, count, offer, poll, Making, making_of}
use Rattle.model.specs.Ledger.{is_recent}
use Rattle.model.specs.State.{Status, View, with_clock, with_control, with_last, with_ledger, with_counts}
use Rattle.model.specs.Effects.{result}
use Rattle.model.specs.Gate.{make_checks, make, checks, call}
use Rattle.model.specs.Claims.{view_after, events}
use Rattle.model.proofs.Computing.{of_runs}

-- parts of a state, a packet and an offer, from their numbers
abbrev pub clock_at : (time stamp : ℕ) → Clock
clock_at time stamp = record { time = time; stamp = stamp }

abbrev pub last_at : (at ontime admitted : ℕ) → Last
last_at at ontime admitted = record { at = at; ontime = ontime; admitted = admitted }

-- none displaced
abbrev pub counted : (accepted sent expired : ℕ) → Counts
counted accepted sent expired = record { accepted = accepted; sent = sent; expired = expired; displaced = 0 }

abbrev pub with_displaced : (displaced : ℕ) → Counts → Counts
with_displaced displaced c =
    record { accepted = c.accepted; sent = c.sent; expired = c.expired; displaced = displaced }

-- a list of one level, reached at 30 %, with waits of 60 ms and 1 s; what a sound state of a profile has of it
abbrev pub one_level : Levels
one_level = levels_of 1 60000 (300000 ∷ replicate 7 0) (1000000 ∷ replicate 7 0)

abbrev list_of : (profile : ℕ) → Levels
list_of profile = cond (eqb profile 5) one_level no_levels

-- without a latest load
abbrev pub steered : (profile level duty smoothed kept pairing : ℕ) → Control
steered profile level duty smoothed kept pairing =
    control_of profile
    (record { level = level; duty = duty; smoothed = smoothed; kept = kept; pairing = pairing; latest = 0 }) (list_of profile)
    no_loads

-- with one, and no sample kept
abbrev pub lately : (profile level duty smoothed latest : ℕ) → Control
lately profile level duty smoothed latest =
    control_of profile
    (record { level = level; duty = duty; smoothed = smoothed; kept = 0; pairing = 0; latest = latest }) (list_of profile)
    no_loads

abbrev pub packet : (id priority ontime lifetime arrival : ℕ) → Packet
packet id priority ontime lifetime arrival =
    record { id = id; priority = priority; ontime = ontime; lifetime = lifetime; arrival = arrival }

abbrev pub queues : {A : Type 0} → List A → List A → List A → List A → Four A
queues a b c d = record { c0 = a; c1 = b; c2 = c; c3 = d }

-- a ledger with the last admission alone, where that is young enough
abbrev pub alone : (now : ℕ) → Last → List Admission
alone now last = cond (is_recent now last) (record { at = last.at; ontime = last.ontime } ∷ []) []

-- a state that is live, of a gate made in the new way, which admitted nothing in the last second but its last admission; one with
-- another number for its way
abbrev pub state : Clock → Control → Last → Counts → Four Packet → View
state clock control last counts waiting =
    record {
      live = 1;
      oldway = 0;
      clock = clock;
      control = control;
      last = last;
      ledger = alone clock.time last;
      counts = counts;
      waiting = waiting;
    }

-- a state's ledger brought up to its clock and last admission
abbrev pub up_to_date : View → View
up_to_date v = with_ledger v (alone v.clock.time v.last)

abbrev pub with_way : (oldway : ℕ) → View → View
with_way oldway v =
    record {
      live = v.live;
      oldway = oldway;
      clock = v.clock;
      control = v.control;
      last = v.last;
      ledger = v.ledger;
      counts = v.counts;
      waiting = v.waiting;
    }

-- in the new way, and in the old one; with a list, which profile 5 alone looks at
abbrev pub making : (profile stamp : ℕ) → Making
making profile stamp = making_of profile 0 one_level stamp

abbrev pub making_old : (profile stamp : ℕ) → Making
making_old profile stamp = making_of profile 1 one_level stamp

abbrev pub offering : (stamp id priority ontime lifetime : ℕ) → Call
offering stamp id priority ontime lifetime =
    offer stamp (record { id = id; priority = priority; ontime = ontime; lifetime = lifetime })

-- a gate made at stamp 0, in the new way and in the old one; the state after calls, and their answers; the answers of calls each
-- on one state
unfoldable pub made : (profile : ℕ) → View
unfolding of_runs
made profile = (make (making profile 0)).view

unfoldable pub made_old : (profile : ℕ) → View
unfolding of_runs
made_old profile = (make (making_old profile 0)).view

unfoldable pub after : View → List Call → View
unfolding of_runs
after v cs = view_after v cs

unfoldable pub answers_of : View → List Call → List Answer
unfolding of_runs
answers_of v cs = map (λ (e : Call × Answer). e.1) (events v cs)

each_of : View → List Call → List Answer
unfolding of_runs
each_of v cs = map (λ (c : Call). (call v c).answer) cs

-- "Checks run 9, 2, 3, then 4, 5, 6, 7, 8 as they apply"; "11, SPENT, checked after 8" (W-201): whatever the state, and however
-- packets wait in it
numbers_of : List Check → List ℕ
unfolding checks
numbers_of cs = map (λ (c : Check). c.number) cs

order_of_make : (m : Making) → numbers_of (make_checks m) ≡ 1 ∷ 1 ∷ 15 ∷ []
unfolding numbers_of
order_of_make m = refl

order_of_words : {h : Holding} (v : Status h) (stamp probes : ℕ) (ws : List ℕ)
    → numbers_of (checks v (words stamp probes ws)) ≡ 9 ∷ 2 ∷ 3 ∷ 4 ∷ []
unfolding numbers_of
order_of_words v stamp probes ws = refl

order_of_count : {h : Holding} (v : Status h) (stamp busy probes : ℕ)
    → numbers_of (checks v (count stamp busy probes)) ≡ 9 ∷ 2 ∷ 3 ∷ 4 ∷ []
unfolding numbers_of
order_of_count v stamp busy probes = refl

order_of_offer : {h : Holding} (v : Status h) (stamp : ℕ) (o : Offer)
    → numbers_of (checks v (offer stamp o)) ≡ 9 ∷ 2 ∷ 3 ∷ 5 ∷ 6 ∷ 7 ∷ 8 ∷ 11 ∷ []
unfolding numbers_of
order_of_offer v stamp o = refl

order_of_poll : {h : Holding} (v : Status h) (stamp : ℕ) → numbers_of (checks v (poll stamp)) ≡ 9 ∷ 2 ∷ 3 ∷ []
unfolding numbers_of
order_of_poll v stamp = refl

-- sixteen words with 66 busy probes and those of the last; a call of each kind, and what each answers where none is refused; a
-- gate of profile 1 at a running time
sixteen : (last : ℕ) → List ℕ
sixteen last = 18446744073709551615 ∷ 0 ∷ 0 ∷ 0 ∷ 0 ∷ 0 ∷ 0 ∷ 0 ∷ 0 ∷ 0 ∷ 0 ∷ 0 ∷ 0 ∷ 0 ∷ 5 ∷ last ∷ []

all_at : (stamp : ℕ) → List Call
unfolding sixteen
all_at stamp = words stamp 1000 (sixteen 0) ∷ count stamp 1000 1000 ∷ offering stamp 7 0 1 1 ∷ poll stamp ∷ []

abbrev accepted : List Answer
accepted = Taken ∷ Taken ∷ Taken ∷ Idle ∷ []

abbrev all_refused : (number : ℕ) → List Answer
all_refused n = Refused n ∷ Refused n ∷ Refused n ∷ Refused n ∷ []

timed : (time : ℕ) → View
unfolding made
timed time = with_clock (made 1) (clock_at time 0)

-- 1 "at making a profile outside 1 to 5 gets number 1" (W-213); 15 "A list that breaks a rule is refused at making with 15,
-- BAD-LIST, after 1; it is judged for profile 5 alone": a good one here, and an empty one
made_profiles :
    map (λ (n : ℕ). (make (making n 5)).answer ∷ (make (making_of n 0 no_levels 5)).answer ∷ []) (0 ∷ profiles ++ 6 ∷ [])
    ≡ (Refused 1 ∷ Refused 1 ∷ [])
    ∷ (Ready ∷ Ready ∷ [])
    ∷ (Ready ∷ Ready ∷ [])
    ∷ (Ready ∷ Ready ∷ [])
    ∷ (Ready ∷ Ready ∷ [])
    ∷ (Ready ∷ Refused 15 ∷ [])
    ∷ (Refused 1 ∷ Refused 1 ∷ [])
    ∷ []
unfolding of_runs
made_profiles = refl

-- a good list, one whose threshold is 0, and a way that is neither 0 nor 1: 1 comes before 15
lists :
    map (λ (m : Making). (make m).answer)
    (making_of 5 0 one_level 5
    ∷ making_of 5 0 (levels_of 1 60000 (replicate 8 0) (1000000 ∷ replicate 7 0)) 5
    ∷ making_of 5 2 no_levels 5
    ∷ making_of 1 0 (levels_of 9 0 [] []) 5
    ∷ [])
    ≡ Ready ∷ Refused 15 ∷ Refused 1 ∷ Ready ∷ []
unfolding of_runs
lists = refl

-- "a bad list with profile 1 is READY, and the state's list is zero" (reading 22); a refused make's too
lists_in_the_state :
    map (λ (m : Making). (make m).view.control.levels) (making 5 5 ∷ making 1 5 ∷ making_of 5 0 no_levels 5 ∷ [])
    ≡ one_level ∷ no_levels ∷ no_levels ∷ []
unfolding of_runs
lists_in_the_state = refl

-- "1 asks for the old way, 0 for the new, any other number is refused with 1" (W-205), in each profile
ways :
    map
    (λ (profile : ℕ). map (λ (n : ℕ). (make (making_of profile n one_level 5)).answer)
    (0 ∷ 1 ∷ 2 ∷ 4294967295 ∷ []))
    profiles
    ≡ replicate 5 (Ready ∷ Ready ∷ Refused 1 ∷ Refused 1 ∷ [])
unfolding of_runs
ways = refl

-- 2 "A step of 2,147,483,648 or more is the clock going back and is refused; a step of 0 is good."
half_a_turn : each_of (made 1) (all_at 2147483648) ≡ all_refused 2
unfolding each_of made all_at
half_a_turn = refl

less_than_half : each_of (made 1) (all_at 2147483647) ≡ accepted
unfolding each_of made all_at
less_than_half = refl

-- 3 "running time would pass 10^15": "Exactly 10^15 is good. There, steps of 0 go on." (R2)
to_the_end : each_of (timed 999999999999990) (all_at 10) ≡ accepted
unfolding each_of timed all_at
to_the_end = refl

past_the_end : each_of (timed 999999999999990) (all_at 11) ≡ all_refused 3
unfolding each_of timed all_at
past_the_end = refl

at_the_end : each_of (timed 1000000000000000) (all_at 0) ≡ accepted
unfolding each_of timed all_at
at_the_end = refl

-- 4 "not 16 words, or a bit above bit 39 set in the last, or busy count above 1,000"
zeros : List ℕ
zeros = 0 ∷ 0 ∷ 0 ∷ 0 ∷ 0 ∷ 0 ∷ 0 ∷ 0 ∷ 0 ∷ 0 ∷ 0 ∷ 0 ∷ 0 ∷ 0 ∷ 0 ∷ []

words_15_16_17 :
    each_of (made 1) (words 0 1000 zeros ∷ words 0 1000 (0 ∷ zeros) ∷ words 0 1000 (0 ∷ 0 ∷ zeros) ∷ [])
    ≡ Refused 4 ∷ Taken ∷ Refused 4 ∷ []
unfolding each_of made zeros
words_15_16_17 = refl

stray_bit :
    each_of (made 1) (words 0 1000 (sixteen 1099511627775) ∷ words 0 1000 (sixteen 1099511627776) ∷ []) ≡ Taken ∷ Refused 4 ∷ []
unfolding each_of made sixteen
stray_bit = refl

busy_counts : each_of (made 1) (count 0 0 1000 ∷ count 0 1000 1000 ∷ count 0 1001 1000 ∷ []) ≡ Taken ∷ Taken ∷ Refused 4 ∷ []
unfolding each_of made
busy_counts = refl

-- "probe count outside 1 to 12,500, a wrong number of words, a stray bit, or busy above probes" (W-208): 0 means 1,000 in
-- records only
probe_counts :
    each_of (made 1) (count 0 0 0 ∷ count 0 0 1 ∷ count 0 12500 12500 ∷ count 0 12501 12500 ∷ count 0 0 12501 ∷ [])
    ≡ Refused 4 ∷ Taken ∷ Taken ∷ Refused 4 ∷ Refused 4 ∷ []
unfolding each_of made
probe_counts = refl

words_of_probes :
    each_of (made 1)
    (words 0 0 (0 ∷ zeros)
    ∷ words 0 1 (1 ∷ [])
    ∷ words 0 1 (2 ∷ [])
    ∷ words 0 64 (18446744073709551615 ∷ [])
    ∷ words 0 64 (1 ∷ 0 ∷ [])
    ∷ words 0 65 (1 ∷ [])
    ∷ words 0 65 (1 ∷ 1 ∷ [])
    ∷ words 0 999 (0 ∷ zeros)
    ∷ [])
    ≡ Refused 4 ∷ Taken ∷ Refused 4 ∷ Taken ∷ Refused 4 ∷ Refused 4 ∷ Taken ∷ Taken ∷ []
unfolding each_of made zeros
words_of_probes = refl

-- 5 "priority above 3"
priorities : each_of (made 1) (map (λ (n : ℕ). offering 0 7 n 1 1) (0 ∷ 3 ∷ 4 ∷ [])) ≡ Taken ∷ Taken ∷ Refused 5 ∷ []
unfolding each_of made
priorities = refl

-- 6 "on-time not allowed by the profile": "1 to 1,000", "1 to 500", "1 to 4,000", "on-time 1 to 4,000" in profile 4 (W-209) and
-- "On-time is 1 to 1,000" in profile 5 (W-213)
ontimes_of : (profile most : ℕ) → List Answer
unfolding each_of made
ontimes_of profile most =
    each_of (made profile) (map (λ (n : ℕ). offering 0 7 0 n 1) (0 ∷ 1 ∷ most ∷ (most + 1) ∷ []))

ontimes :
    map (λ (n : ℕ). ontimes_of n (by_profile n 1000 500 4000 4000 1000)) profiles
    ≡ replicate 5 (Refused 6 ∷ Taken ∷ Taken ∷ Refused 6 ∷ [])
unfolding ontimes_of
ontimes = refl

-- 7 "lifetime 0 or above 60,000,000"
lifetimes :
    each_of (made 1) (map (λ (n : ℕ). offering 0 7 0 1 n) (0 ∷ 1 ∷ 60000000 ∷ 60000001 ∷ []))
    ≡ Refused 7 ∷ Taken ∷ Taken ∷ Refused 7 ∷ []
unfolding each_of made
lifetimes = refl

-- 8 "5 unexpired packets wait in that queue at the new time": five of a priority, which expire at 10, and one more. "Number 8 is
-- given only by a gate made in the old way" (W-205)
abbrev five_of : (priority : ℕ) → List Call
five_of priority = map (λ (id : ℕ). offering 0 id priority 1 10) (1 ∷ 2 ∷ 3 ∷ 4 ∷ 5 ∷ [])

five : (priority : ℕ) → View
unfolding after made
five priority = after (made 1) (five_of priority)

five_old : (priority : ℕ) → View
unfolding after made_old
five_old priority = after (made_old 1) (five_of priority)

five_fit :
    answers_of (made 1) (five_of 2) ∷ answers_of (made_old 1) (five_of 2) ∷ []
    ≡ map (λ (n : ℕ). Taken ∷ Taken ∷ Taken ∷ Taken ∷ Taken ∷ []) (0 ∷ 1 ∷ [])
unfolding answers_of made made_old
five_fit = refl

full_until_10 :
    map (λ (n : ℕ). each_of (five_old n) (offering 9 6 n 1 10 ∷ offering 10 6 n 1 10 ∷ [])) (0 ∷ 1 ∷ 2 ∷ 3 ∷ [])
    ≡ map (λ (n : ℕ). Refused 8 ∷ Taken ∷ []) (0 ∷ 1 ∷ 2 ∷ 3 ∷ [])
unfolding each_of five_old
full_until_10 = refl

full_by_itself :
    each_of (five_old 1) (map (λ (n : ℕ). offering 9 6 n 1 10) (0 ∷ 1 ∷ 2 ∷ 3 ∷ [])) ≡ Taken ∷ Refused 8 ∷ Taken ∷ Taken ∷ []
unfolding each_of five_old
full_by_itself = refl

taken_in_the_new_way :
    map (λ (n : ℕ). each_of (five n) (offering 9 6 n 1 10 ∷ offering 10 6 n 1 10 ∷ [])) (0 ∷ 1 ∷ 2 ∷ 3 ∷ [])
    ≡ map (λ (n : ℕ). Taken ∷ Taken ∷ []) (0 ∷ 1 ∷ 2 ∷ 3 ∷ [])
unfolding each_of five
taken_in_the_new_way = refl

-- 9 "the state isn't sound"
not_made : each_of (make (making 0 5)).view (all_at 0) ≡ all_refused 9
unfolding each_of all_at
not_made = refl

-- 11 "An offer when accepted is 10^15" (W-201); the other calls go on
spent : (accepted : ℕ) → View
unfolding made
spent accepted = with_counts (made 1) (counted accepted accepted 0)

last_offer : answers_of (spent 999999999999999) (offering 0 7 0 1 1 ∷ offering 0 8 1 1 1 ∷ []) ≡ Taken ∷ Refused 11 ∷ []
unfolding answers_of spent
last_offer = refl

spent_goes_on : each_of (spent 1000000000000000) (all_at 0) ≡ Taken ∷ Taken ∷ Refused 11 ∷ Idle ∷ []
unfolding each_of spent all_at
spent_goes_on = refl

-- a state at 20 in which five of priority 0 wait, one of 1, one of 2 and two of 3; those expire at 22, 23, 119 and 24. Three were
-- sent, the last at 15, one expired, and two were displaced
abbrev five0 : List Packet
five0 =
    packet 1 0 11 100 10 ∷ packet 2 0 12 100 10 ∷ packet 3 0 13 100 12 ∷ packet 4 0 14 100 13 ∷ packet 5 0 15 100 14 ∷ []

abbrev one1 : List Packet
one1 = packet 6 1 16 5 17 ∷ []

abbrev one2 : List Packet
one2 = packet 7 2 17 5 18 ∷ []

abbrev two3 : List Packet
two3 = packet 8 3 18 100 19 ∷ packet 9 3 19 5 19 ∷ []

abbrev two_displaced : (accepted sent expired : ℕ) → Counts
two_displaced accepted sent expired = with_displaced 2 (counted accepted sent expired)

abbrev pub crowded : View
crowded =
    state (clock_at 20 3) (steered 1 0 600000 0 0 0) (last_at 15 400 1) (two_displaced 15 3 1) (queues five0 one1 one2 two3)

-- "the first that holds is the answer": of neighbours in the order that both hold
nine_before_two : each_of (make (making 0 5)).view (all_at 2147483648) ≡ all_refused 9
unfolding each_of all_at
nine_before_two = refl

two-before_three : each_of (timed 1000000000000000) (all_at 2147483648) ≡ all_refused 2
unfolding each_of timed all_at
two-before_three = refl

three_before_four_and_five :
    each_of (timed 1000000000000000) (words 1 1000 [] ∷ count 1 1001 1000 ∷ offering 1 7 4 1 1 ∷ [])
    ≡ Refused 3 ∷ Refused 3 ∷ Refused 3 ∷ []
unfolding each_of timed
three_before_four_and_five = refl

five_six_seven_eight :
    each_of (with_way 1 crowded) (offering 13 9 4 0 1 ∷ offering 13 9 1 0 0 ∷ offering 13 9 0 1 0 ∷ [])
    ≡ Refused 5 ∷ Refused 6 ∷ Refused 7 ∷ []
unfolding each_of
five_six_seven_eight = refl

-- in the old way; in the new way it is 11 where five wait, and nothing is displaced, expired or moved
abbrev crowded_and_spent : View
crowded_and_spent = with_counts crowded (two_displaced 1000000000000000 999999999999988 1)

eight_before_eleven :
    each_of (with_way 1 crowded_and_spent) (offering 13 9 0 1 1 ∷ offering 13 9 1 1 1 ∷ []) ≡ Refused 8 ∷ Refused 11 ∷ []
unfolding each_of
eight_before_eleven = refl

eleven_displaces_nothing : call crowded_and_spent (offering 13 9 0 1 1) ≡ result crowded_and_spent (Refused 11)
unfolding of_runs
eleven_displaces_nothing = refl

-- "A refusal hands back the given state unchanged, clock included."; it "removes nothing from any queue" (R1)
unchanged :
    map (λ (c : Call). call (with_way 1 crowded) c)
    (poll 2
    ∷ words 13 1000 []
    ∷ count 13 1001 1000
    ∷ offering 13 9 4 1 1
    ∷ offering 13 9 1 0 1
    ∷ offering 13 9 1 1 0
    ∷ offering 13 9 0 1 1
    ∷ [])
    ≡ map (λ (n : ℕ). result (with_way 1 crowded) (Refused n)) (2 ∷ 4 ∷ 4 ∷ 5 ∷ 6 ∷ 7 ∷ 8 ∷ [])
unfolding of_runs
unchanged = refl

-- "A sample expires nothing.": it removes and counts none, though all have expired at 130
sampled_only :
    call crowded (count 113 1000 1000)
    ≡ result
    (state (clock_at 130 113) (steered 1 1 600000 0 0 0) (last_at 15 400 1) (two_displaced 15 3 1) (queues five0 one1 one2 two3))
    Taken
unfolding of_runs
sampled_only = refl

-- "An accepted offer or poll first moves the clock, then removes every expired packet. An offer then joins the back of its
-- priority's queue and answers TAKEN."; "an expiry counts at its removal" (W-201). At 23 those of priorities 1 and 2 have
-- expired.
offered :
    call crowded (offering 6 10 3 1000 60000000)
    ≡ result
    (state (clock_at 23 6) (steered 1 0 600000 0 0 0) (last_at 15 400 1) (two_displaced 16 3 3)
    (queues five0 [] [] (packet 8 3 18 100 19 ∷ packet 9 3 19 5 19 ∷ packet 10 3 1000 60000000 23 ∷ [])))
    Taken
unfolding of_runs
offered = refl

-- "where five unexpired packets wait, the front one leaves and the new one joins, and the answer is TAKEN"; "a fourth count,
-- displaced" (W-205): here those of priorities 1 and 2 have expired, too
displaced_front :
    call crowded (offering 6 10 0 1000 60000000)
    ≡ result
    (state (clock_at 23 6) (steered 1 0 600000 0 0 0) (last_at 15 400 1) (with_displaced 3 (counted 16 3 3))
    (queues
    (packet 2 0 12 100 10
    ∷ packet 3 0 13 100 12
    ∷ packet 4 0 14 100 13
    ∷ packet 5 0 15 100 14
    ∷ packet 10 0 1000 60000000 23
    ∷ [])
    [] [] two3))
    Taken
unfolding of_runs
displaced_front = refl

-- "wait" at the new time: where one of the five has expired by then, at the front or not, nothing is displaced
abbrev five_with : (first third : ℕ) → List Packet
five_with first third =
    packet 1 3 1 first 10 ∷ packet 2 3 1 99 10 ∷ packet 3 3 1 third 10 ∷ packet 4 3 1 99 10 ∷ packet 5 3 1 99 10 ∷ []

abbrev with_five : Counts → List Packet → View
with_five counts waiting =
    state (clock_at 20 20) (steered 1 0 600000 0 0 0) (last_at 0 0 0) counts (queues [] [] [] waiting)

abbrev six_of_priority3 : Packet
six_of_priority3 = packet 6 3 1 9 20

expired_makes_room :
    map (λ (waiting : List Packet). (call (with_five (counted 5 0 0) waiting) (offering 20 6 3 1 9)).view)
    (five_with 11 11 ∷ five_with 10 99 ∷ five_with 99 10 ∷ five_with 10 10 ∷ [])
    ≡ with_five (with_displaced 1 (counted 6 0 0))
    (packet 2 3 1 99 10 ∷ packet 3 3 1 11 10 ∷ packet 4 3 1 99 10 ∷ packet 5 3 1 99 10 ∷ six_of_priority3 ∷ [])
    ∷ with_five (counted 6 0 1)
    (packet 2 3 1 99 10 ∷ packet 3 3 1 99 10 ∷ packet 4 3 1 99 10 ∷ packet 5 3 1 99 10 ∷ six_of_priority3 ∷ [])
    ∷ with_five (counted 6 0 1)
    (packet 1 3 1 99 10 ∷ packet 2 3 1 99 10 ∷ packet 4 3 1 99 10 ∷ packet 5 3 1 99 10 ∷ six_of_priority3 ∷ [])
    ∷ with_five (counted 6 0 2)
    (packet 2 3 1 99 10 ∷ packet 4 3 1 99 10 ∷ packet 5 3 1 99 10 ∷ six_of_priority3 ∷ [])
    ∷ []
unfolding of_runs
expired_makes_room = refl

-- another priority's queue is left as it is: all four are full, and one more of each priority comes
abbrev before : (priority : ℕ) → List Packet
before priority = map (λ (id : ℕ). packet id priority 1 10 0) (1 ∷ 2 ∷ 3 ∷ 4 ∷ 5 ∷ [])

abbrev spilled : (priority : ℕ) → List Packet
spilled priority = map (λ (id : ℕ). packet id priority 1 10 0) (2 ∷ 3 ∷ 4 ∷ 5 ∷ 6 ∷ [])

all_full : View
unfolding after made
all_full = after (made 1) (five_of 0 ++ five_of 1 ++ five_of 2 ++ five_of 3)

displaced-of-its_own :
    map (λ (n : ℕ). (after all_full (offering 0 6 n 1 10 ∷ [])).waiting) (0 ∷ 1 ∷ 2 ∷ 3 ∷ [])
    ≡ queues (spilled 0) (before 1) (before 2) (before 3)
    ∷ queues (before 0) (spilled 1) (before 2) (before 3)
    ∷ queues (before 0) (before 1) (spilled 2) (before 3)
    ∷ queues (before 0) (before 1) (before 2) (spilled 3)
    ∷ []
unfolding after all_full
displaced-of-its_own = refl

-- one is displaced by each offer that comes to a full queue, from the front on; the fifth offer displaces none
displaced_in_turn :
    map (λ (cs : List Call). (after (made 1) cs).counts)
    (five_of 2 ∷ (five_of 2 ++ offering 0 6 2 1 10 ∷ []) ∷ (five_of 2 ++ offering 0 6 2 1 10 ∷ offering 0 7 2 1 10 ∷ []) ∷ [])
    ≡ counted 5 0 0 ∷ with_displaced 1 (counted 6 0 0) ∷ with_displaced 2 (counted 7 0 0) ∷ []
unfolding after made
displaced_in_turn = refl

third_goes_first :
    answers_of (five 2) (offering 0 6 2 1 10 ∷ offering 0 7 2 1 10 ∷ poll 0 ∷ []) ≡ Taken ∷ Taken ∷ Sent (packet 3 2 1 10 0) ∷ []
unfolding answers_of five
third_goes_first = refl

-- "a yes-or-no fixed at making and held in the state": no call changes it
same_way :
    map
    (λ (v : View). map (λ (c : Call). (call v c).view.oldway)
    (count 6 1000 1000 ∷ offering 6 10 3 1 1 ∷ offering 6 10 0 1 1 ∷ poll 6 ∷ poll 200000 ∷ []))
    (crowded ∷ with_way 1 crowded ∷ [])
    ≡ (0 ∷ 0 ∷ 0 ∷ 0 ∷ 0 ∷ []) ∷ (1 ∷ 1 ∷ 1 ∷ 1 ∷ 1 ∷ []) ∷ []
unfolding of_runs
same_way = refl

-- the old way where a queue has room: nothing else differs
offered_in_the_old_way :
    call (with_way 1 crowded) (offering 6 10 3 1000 60000000)
    ≡ result (with_way 1 (call crowded (offering 6 10 3 1000 60000000)).view) Taken
unfolding of_runs
offered_in_the_old_way = refl

-- "else CLOSED with the µs left": "Such a poll has moved the clock and removed the expired packets of all four queues." (R5)
closed_poll :
    call crowded (poll 13)
    ≡ result
    (state (clock_at 30 13) (steered 1 0 600000 0 0 0) (last_at 15 400 1) (two_displaced 15 3 4)
    (queues five0 [] [] (packet 8 3 18 100 19 ∷ [])))
    (Closed 100385)
unfolding of_runs
closed_poll = refl

-- "IDLE if nothing waits", though less than the wait has passed
idle_poll :
    call crowded (poll 113)
    ≡ result
    (state (clock_at 130 113) (steered 1 0 600000 0 0 0) (last_at 15 400 1) (two_displaced 15 3 10) (queues [] [] [] [])) Idle
unfolding of_runs
idle_poll = refl

-- "else SENT with the whole packet, which leaves its queue and is recorded as the last admission": it is CLOSED only "if
-- something was admitted"
sent_poll :
    call (up_to_date (with_last crowded (last_at 0 0 0))) (poll 5)
    ≡ result
    (state (clock_at 22 5) (steered 1 0 600000 0 0 0) (last_at 22 11 1) (two_displaced 15 4 2)
    (queues (packet 2 0 12 100 10 ∷ packet 3 0 13 100 12 ∷ packet 4 0 14 100 13 ∷ packet 5 0 15 100 14 ∷ []) [] one2 two3))
    (Sent (packet 1 0 11 100 10))
unfolding of_runs
sent_poll = refl

-- "The packet is the oldest of the lowest-numbered non-empty queue.": polls at which the gate is open
order_of_sending :
    answers_of (made 1)
    (offering 1 5 3 9 60000000
    ∷ offering 2 4 2 9 60000000
    ∷ offering 3 2 1 9 60000000
    ∷ offering 4 3 1 9 60000000
    ∷ offering 5 1 0 9 60000000
    ∷ map poll (100000 ∷ 300000 ∷ 500000 ∷ 700000 ∷ 900000 ∷ 1100000 ∷ []))
    ≡ Taken ∷ Taken ∷ Taken ∷ Taken ∷ Taken
    ∷ Sent (packet 1 0 9 60000000 5)
    ∷ Sent (packet 2 1 9 60000000 3)
    ∷ Sent (packet 3 1 9 60000000 4)
    ∷ Sent (packet 4 2 9 60000000 2)
    ∷ Sent (packet 5 3 9 60000000 1)
    ∷ Idle
    ∷ []
unfolding answers_of made
order_of_sending = refl

-- "accepted equals sent plus expired plus the packets waiting" (W-201): of three offers one is sent, one expires, one waits
short_run :
    after (made 1) (offering 1 7 2 9 99 ∷ offering 1 8 1 9 10 ∷ offering 1 9 0 8 99 ∷ poll 2 ∷ poll 11 ∷ [])
    ≡ state (clock_at 11 11) (steered 1 0 600000 0 0 0) (last_at 2 8 1) (counted 3 1 1)
    (queues [] [] (packet 7 2 9 99 1 ∷ []) [])
unfolding after made
short_run = refl

-- "less than the wait has passed since that admission", by the "on-time of the last admitted packet", not of the one to go, which
-- is 1. "In profiles 1 and 2 the wait now runs from admission plus that packet's on-time." (W-202)
first_sent : (profile ontime : ℕ) → View
unfolding after made
first_sent profile ontime =
    after (made profile) (offering 0 7 0 ontime 60000000 ∷ offering 0 8 0 1 60000000 ∷ poll 0 ∷ [])

abbrev second_sent : Answer
second_sent = Sent (packet 8 0 1 60000000 0)

closed_in_1 :
    answers_of (first_sent 1 1000) (poll 0 ∷ poll 1 ∷ poll 100999 ∷ poll 101000 ∷ [])
    ≡ Closed 101000 ∷ Closed 100999 ∷ Closed 1 ∷ second_sent ∷ []
unfolding answers_of first_sent
closed_in_1 = refl

closed_in_2 :
    answers_of (first_sent 2 500) (poll 0 ∷ poll 1 ∷ poll 50499 ∷ poll 50500 ∷ [])
    ≡ Closed 50500 ∷ Closed 50499 ∷ Closed 1 ∷ second_sent ∷ []
unfolding answers_of first_sent
closed_in_2 = refl

-- "Profile 3 stays as it is" (W-202)
closed_in_3 :
    answers_of (first_sent 3 599) (poll 0 ∷ poll 1 ∷ poll 998333 ∷ poll 998334 ∷ [])
    ≡ Closed 998334 ∷ Closed 998333 ∷ Closed 1 ∷ second_sent ∷ []
unfolding answers_of first_sent
closed_in_3 = refl

-- "It is taken afresh at each poll.": "It goes by the level or duty of now" (R6), which samples between two polls change
abbrev loud : Call
loud = count 0 1000 1000

abbrev silent : Call
silent = count 0 0 1000

afresh_by_level :
    answers_of (first_sent 1 1000) (loud ∷ poll 0 ∷ loud ∷ poll 0 ∷ loud ∷ poll 0 ∷ loud ∷ poll 0 ∷ silent ∷ poll 0 ∷ [])
    ≡ Taken ∷ Closed 201000
    ∷ Taken ∷ Closed 401000
    ∷ Taken ∷ Closed 501000
    ∷ Taken ∷ Closed 1001000
    ∷ Taken ∷ Closed 501000
    ∷ []
unfolding answers_of first_sent
afresh_by_level = refl

afresh_by_duty :
    answers_of (first_sent 3 599) (silent ∷ poll 0 ∷ silent ∷ poll 0 ∷ poll 549340 ∷ [])
    ≡ Taken ∷ Closed 998334 ∷ Taken ∷ Closed 549340 ∷ second_sent ∷ []
unfolding answers_of first_sent
afresh_by_duty = refl

-- "Running time grows by each step of a call that isn't refused.", also where the stamp wraps
clocks :
    map (λ (c : Call). (call (timed 100) c).view.clock) (all_at 9)
    ≡ map (λ (n : ℕ). clock_at n 9) (109 ∷ 109 ∷ 109 ∷ 109 ∷ [])
unfolding timed all_at
clocks = refl

wrapped : (after (make (making 1 4294967295)).view (poll 0 ∷ count 4 0 1000 ∷ [])).clock ≡ clock_at 5 4
unfolding after
wrapped = refl

-- "Each sample moves the level by at most one towards the wanted one", by its profile's table. "Profiles 1 and 2 keep no sample
-- and never change duty or smoothed load"
steered_after : Control → List Call → Control
unfolding after made
steered_after k cs = (after (with_control (made 1) k) cs).control

up_by_one : steered_after (steered 1 1 700000 5 0 0) (loud ∷ []) ≡ steered 1 2 700000 5 0 0
unfolding steered_after
up_by_one = refl

down_by_one : steered_after (steered 2 4 700000 5 0 0) (silent ∷ []) ≡ steered 2 3 700000 5 0 0
unfolding steered_after
down_by_one = refl

own_table :
    map (λ (n : ℕ). steered_after (steered n 3 600000 0 0 0) (count 0 620 1000 ∷ [])) (1 ∷ 2 ∷ [])
    ≡ steered 1 4 600000 0 0 0 ∷ steered 2 3 600000 0 0 0 ∷ []
unfolding steered_after
own_table = refl

-- "Profile 3: the 1st, 3rd, 5th sample is kept. Each even one, with the kept one, updates and clears the kept"; it "never changes
-- level". "A refused sample is not the 1st, 2nd or 3rd of anything." (R7)
first_kept : steered_after (steered 3 2 600000 0 0 0) (count 0 400 1000 ∷ []) ≡ steered 3 2 600000 0 400000 1
unfolding steered_after
first_kept = refl

second_updates :
    steered_after (steered 3 2 600000 0 0 0) (count 0 400 1000 ∷ count 0 1001 1000 ∷ count 0 801 1000 ∷ [])
    ≡ steered 3 2 1046100 300250 0 0
unfolding steered_after
second_updates = refl

third_and_fourth :
    steered_after (steered 3 2 1046100 300250 0 0) (count 0 1000 1000 ∷ count 0 900 1000 ∷ []) ≡ steered 3 2 1095212 625125 0 0
unfolding steered_after
third_and_fourth = refl

-- "the number of busy probes is the count of one bits; load is 1,000 times that": a sample by words is one by its count
by_words :
    map (λ (c : Call). call (made 3) c) (words 9 1000 (sixteen 1099511627775) ∷ count 9 106 1000 ∷ [])
    ≡ map
    (λ (n : ℕ). result
    (state (clock_at 9 9) (steered 3 0 600000 0 n 1) (last_at 0 0 0) (counted 0 0 0) (queues [] [] [] [])) Taken)
    (106000 ∷ 106000 ∷ [])
unfolding made sixteen
by_words = refl

-- "floor(1,000,000 × busy / probes)" (W-208): 7,751 of 12,500, by its count; one of three, by words and by its count
by_probes :
    map (λ (c : Call). (call (made 3) c).view.control.tuning.kept) (count 9 7751 12500 ∷ words 9 3 (4 ∷ []) ∷ count 9 1 3 ∷ [])
    ≡ 620080 ∷ 333333 ∷ 333333 ∷ []
unfolding made
by_probes = refl

-- Profile 4 (W-209): "let c be the latest load in per mille, rounded up (0 before any sample)"; 4,000 µs go at 10, and the wait
-- "runs from the end of transmission". Calm, 700 per mille (held at 1,000,000), 620 per mille, 620,080 parts per million (621 per
-- mille: 6 x 4,000 is held at 25,000), each as the latest load at the next poll
harmonised_run :
    answers_of (made 4)
    (offering 0 1 0 4000 60000000
    ∷ offering 0 2 0 4000 60000000
    ∷ poll 10
    ∷ poll 10
    ∷ count 20 700 1000
    ∷ poll 1010
    ∷ count 1020 620 1000
    ∷ poll 1030
    ∷ count 1040 7751 12500
    ∷ poll 29009
    ∷ poll 29010
    ∷ [])
    ≡ Taken
    ∷ Taken
    ∷ Sent (packet 1 0 4000 60000000 0)
    ∷ Closed 29000
    ∷ Taken
    ∷ Closed 1003000
    ∷ Taken
    ∷ Closed 27980
    ∷ Taken
    ∷ Closed 1
    ∷ Sent (packet 2 0 4000 60000000 0)
    ∷ []
unfolding answers_of made
harmonised_run = refl

-- the sample changes the latest load alone, which is parts per million, rounded down
harmonised_sample :
    map (λ (c : Call). (call (made 4) c).view.control) (count 9 7751 12500 ∷ words 9 3 (4 ∷ []) ∷ count 9 0 1 ∷ [])
    ≡ lately 4 0 600000 0 620080 ∷ lately 4 0 600000 0 333333 ∷ lately 4 0 600000 0 0 ∷ []
unfolding of_runs made
harmonised_sample = refl

-- "W-207's 30,000 is" claimed of profile 4: in a calm channel the eighth packet of 4,000 µs waits for the first to age
harmonised_second :
    answers_of (made 4)
    (offering 0 1 0 4000 60000000
    ∷ offering 0 2 0 4000 60000000
    ∷ offering 0 3 0 4000 60000000
    ∷ offering 0 4 0 4000 60000000
    ∷ offering 0 5 1 4000 60000000
    ∷ offering 0 6 1 4000 60000000
    ∷ offering 0 7 1 4000 60000000
    ∷ offering 0 8 1 4000 60000000
    ∷ poll 0
    ∷ poll 29000
    ∷ poll 58000
    ∷ poll 87000
    ∷ poll 116000
    ∷ poll 145000
    ∷ poll 174000
    ∷ poll 203000
    ∷ [])
    ≡ Taken
    ∷ Taken
    ∷ Taken
    ∷ Taken
    ∷ Taken
    ∷ Taken
    ∷ Taken
    ∷ Taken
    ∷ Sent (packet 1 0 4000 60000000 0)
    ∷ Sent (packet 2 0 4000 60000000 0)
    ∷ Sent (packet 3 0 4000 60000000 0)
    ∷ Sent (packet 4 0 4000 60000000 0)
    ∷ Sent (packet 5 1 4000 60000000 0)
    ∷ Sent (packet 6 1 4000 60000000 0)
    ∷ Sent (packet 7 1 4000 60000000 0)
    ∷ Closed 797000
    ∷ []
unfolding answers_of made
harmonised_second = refl
