-- Worked examples of states in rows, each computed from the definitions.
use Prim.Native.Nat.{ℕ, zero, suc, ◌+◌, ◌*◌}
use mathlib.Core.Path.{◌≡◌, refl}
use mathlib.Core.Bool.{true, cond}
use mathlib.Core.List.{List, [], ◌∷◌, ◌++◌, map}
use lib.Dec.{eqb}
use lib.ListN.{set, replicate}
use Rattle.rules.specs.Profiles.{profiles}
use Rattle.machine.specs.declared.Levels.{Levels}
use Rattle.machine.specs.declared.Loads.{Loads}
use Rattle.machine.specs.Levels.{levels_of, no_levels}
use Rattle.machine.specs.Loads as loads
use Rattle.machine.specs.Loads.{no_loads}
use Rattle.machine.specs.Moves.{reaches}
use Rattle.control.specs.declared.Tuning.{Tuning}
use Rattle.model.specs.declared.Clock.{Clock}
use Rattle.model.specs.declared.Last.{Last}
use Rattle.model.specs.declared.Counts.{Counts}
use Rattle.model.specs.declared.Packet.{Packet}
use Rattle.model.specs.declared.Admission.{Admission}
use Rattle.model.specs.declared.Answer.TheVariants.{Ready, Taken, Sent, Idle, Closed, Refused}
use Rattle.model.specs.Calls.{Call, Making, count, offer, poll, making_of}
use Rattle.model.proofs.Computing.{of_runs}
use Rattle.ledger.specs.Layout as ledger
use Rattle.waiting.specs.Layout as waiting
use Rattle.gate.specs.declared.Head.{Head}
use Rattle.gate.specs.declared.State.{State}
use Rattle.gate.specs.Layout.{state_with, levels_in, view_of, sound_state, outcome, call_on, make_state}
use Rattle.gate.specs.Runs.{state_after}

of-rows : Type 0
unfolding waiting.triples waiting.words_of waiting.packed waiting.flat waiting.queues waiting.laid waiting.four_of
    waiting.rows_for
    waiting.tidy
of-rows = Unit {0}

of_states : Type 0
unfolding of_runs of-rows reaches ledger.packed ledger.tidy sound_state call_on make_state
of_states = Unit {0}

abbrev zeros : ℕ → List ℕ
zeros n = replicate n 0

-- the same number for each of the five profiles
abbrev five : {A : Type 0} → A → List A
five x = replicate 5 x

-- a list of two levels, reached at 20 % and 50 %, with waits of 60, 100 and 400 ms, which profile 5 alone looks at
abbrev two : Levels
two = levels_of 2 60000 (200000 ∷ 500000 ∷ zeros 6) (100000 ∷ 400000 ∷ zeros 6)

-- a fresh state of each profile: rows of zeros but for profile 5's list
abbrev fresh : (profile : ℕ) → State
fresh profile = (make_state (making_of profile 0 two 7)).state

fresh-rows :
    (map (λ (p : ℕ). (make_state (making_of p 0 two 7)).answer) profiles ≡ five Ready)
    × (map (λ (p : ℕ). (fresh p).queues) profiles ≡ five (zeros 64))
    × (map (λ (p : ℕ). (fresh p).came) profiles ≡ five (zeros 20))
    × (map (λ (p : ℕ). (fresh p).air) profiles ≡ five (zeros 40))
    × (map (λ (p : ℕ). (fresh p).loads) profiles ≡ five (zeros 50))
    × (map (λ (p : ℕ). levels_in (fresh p)) profiles ≡ no_levels ∷ no_levels ∷ no_levels ∷ no_levels ∷ two ∷ [])
    × (map (λ (p : ℕ). sound_state (fresh p)) profiles ≡ five true)
unfolding of_states
fresh-rows = (refl, refl, refl, refl, refl, refl, refl)

-- an offer at 20 µs to queue 2 is laid out behind the 32 words of queues 0 and 1 and their ten arrivals: its length, its
-- identifier, on-time and lifetime, the places past it zero
abbrev offered : Call
offered = offer 27 (record { id = 9; priority = 2; ontime = 400; lifetime = 1000 })

offer_laid_out :
    (map (λ (p : ℕ). (call_on (fresh p) offered).answer) profiles ≡ five Taken)
    × (map (λ (p : ℕ). (call_on (fresh p) offered).state.queues) profiles
    ≡ five (zeros 32 ++ (1 ∷ 9 ∷ 400 ∷ 1000 ∷ zeros 28)))
    × (map (λ (p : ℕ). (call_on (fresh p) offered).state.came) profiles ≡ five (zeros 10 ++ (20 ∷ zeros 9)))
    × (map (λ (p : ℕ). sound_state (call_on (fresh p) offered).state) profiles ≡ five true)
unfolding of_states
offer_laid_out = (refl, refl, refl, refl)

-- a head, its numbers in order
abbrev head : Clock → Last → Counts → Tuning → (profile oldway live admissions loads levels calm : ℕ) → Head
head clock last counts tuning profile oldway live admissions loads levels calm =
    record {
      clock = clock;
      last = last;
      counts = counts;
      tuning = tuning;
      profile = profile;
      oldway = oldway;
      live = live;
      admissions = admissions;
      loads = loads;
      levels = levels;
      calm = calm;
    }

-- rows read: two packets of queue 1 and one of queue 3, all their numbers different
abbrev read : State
read =
    let s = fresh 1 in
    state_with
    (head (record { time = 90; stamp = 7 }) s.head.last
    (record { accepted = 3; sent = 0; expired = 0; displaced = 0 }) s.head.tuning 1 0 1 0 0 0 0)
    (zeros 16 ++ (2 ∷ 11 ∷ 301 ∷ 5001 ∷ 12 ∷ 302 ∷ 5002 ∷ zeros 9) ++ zeros 16 ++ (1 ∷ 13 ∷ 303 ∷ 5003 ∷ zeros 12))
    (zeros 5 ++ (21 ∷ 22 ∷ zeros 3) ++ zeros 5 ++ (23 ∷ zeros 4)) s.air s.loads s.above s.waits

abbrev packet : (id priority ontime lifetime arrival : ℕ) → Packet
packet id priority ontime lifetime arrival =
    record { id = id; priority = priority; ontime = ontime; lifetime = lifetime; arrival = arrival }

rows_read :
    ((view_of read).waiting.c0 ≡ [])
    × ((view_of read).waiting.c1 ≡ packet 11 1 301 5001 21 ∷ packet 12 1 302 5002 22 ∷ [])
    × ((view_of read).waiting.c2 ≡ [])
    × ((view_of read).waiting.c3 ≡ packet 13 3 303 5003 23 ∷ [])
    × (sound_state read ≡ true)
    × ((call_on read (poll 7)).answer ≡ Sent (packet 11 1 301 5001 21))
    × ((call_on read (poll 7)).state.queues
    ≡ zeros 16 ++ (1 ∷ 12 ∷ 302 ∷ 5002 ∷ zeros 12) ++ zeros 16 ++ (1 ∷ 13 ∷ 303 ∷ 5003 ∷ zeros 12))
    × ((call_on read (poll 7)).state.came ≡ zeros 5 ++ (22 ∷ zeros 4) ++ zeros 5 ++ (23 ∷ zeros 4))
unfolding of_states
rows_read = (refl, refl, refl, refl, refl, refl, refl, refl)

-- a fresh state with one row changed
abbrev with_rows : State → (queues came air loads above waits : List ℕ → List ℕ) → State
with_rows s queues came air loads above waits =
    state_with s.head (queues s.queues) (came s.came) (air s.air) (loads s.loads) (above s.above)
    (waits s.waits)

abbrev same : List ℕ → List ℕ
same row = row

abbrev stray : (at : ℕ) → List ℕ → List ℕ
stray at row = set row at 1

-- "everything unused is zero": the last identifier of queue 3, its last arrival, the last word of the ledger, the last load, the
-- last threshold and the last wait; "every queue length at most 5": five packets, and a length of 6
abbrev six_long : List ℕ
six_long = 6 ∷ (9 ∷ 400 ∷ 1000 ∷ 9 ∷ 400 ∷ 1000 ∷ 9 ∷ 400 ∷ 1000 ∷ 9 ∷ 400 ∷ 1000 ∷ 9 ∷ 400 ∷ 1000 ∷ zeros 48)

abbrev spoiled : State → List State
spoiled s =
    with_rows s (stray 61) same same same same same
    ∷ with_rows s same (stray 19) same same same same
    ∷ with_rows s (λ row. six_long) same same same same same
    ∷ with_rows s same same (stray 39) same same same
    ∷ with_rows s same same same (stray 49) same same
    ∷ with_rows s same same same same (stray 7) same
    ∷ with_rows s same same same same same (stray 7)
    ∷ []

unsound_rows :
    (map (λ (p : ℕ). (call_on (fresh p) (poll 8)).answer) profiles ≡ five Idle)
    × (map (λ (p : ℕ). map (λ (s : State). (call_on s (poll 8)).answer) (spoiled (fresh p))) profiles
    ≡ five (replicate 7 (Refused 9)))
unfolding of_states
unsound_rows = (refl, refl)

-- "A refusal hands back the given state unchanged"
left_as_it_was : call_on (with_rows (fresh 2) (stray 13) same same same same same) (poll 8)
    ≡ outcome (with_rows (fresh 2) (stray 13) same same same same same) (Refused 9)
unfolding of_states
left_as_it_was = refl

-- "where five unexpired packets wait, the front one leaves and the new one joins" (document 02, W-205): the places move up by one
abbrev offers : List ℕ → List Call
offers ids = map (λ (id : ℕ). offer 7 (record { id = id; priority = 0; ontime = 400; lifetime = 1000 })) ids

abbrev six : (profile : ℕ) → State
six profile = state_after (fresh profile) (offers (1 ∷ 2 ∷ 3 ∷ 4 ∷ 5 ∷ 6 ∷ []))

displaced_front :
    (map (λ (p : ℕ). (six p).queues) profiles
    ≡ five (5 ∷ 2 ∷ 400 ∷ 1000 ∷ 3 ∷ 400 ∷ 1000 ∷ 4 ∷ 400 ∷ 1000 ∷ 5 ∷ 400 ∷ 1000 ∷ 6 ∷ 400 ∷ 1000 ∷ zeros 48))
    × (map (λ (p : ℕ). (six p).head.counts) profiles ≡ five (record { accepted = 6; sent = 0; expired = 0; displaced = 1 }))
    × (map (λ (p : ℕ). sound_state (six p)) profiles ≡ five true)
unfolding of_states state_after
displaced_front = (refl, refl, refl)

-- "Number 8 is given only by a gate made in the old way"
abbrev old_five : (profile : ℕ) → State
old_five profile = state_after (make_state (making_of profile 1 two 7)).state (offers (1 ∷ 2 ∷ 3 ∷ 4 ∷ 5 ∷ []))

refused_in_the_old_way :
    map (λ (p : ℕ). map (λ (c : Call). (call_on (old_five p) c).answer) (offers (6 ∷ []))) profiles ≡ five (Refused 8 ∷ [])
unfolding of_states state_after
refused_in_the_old_way = refl

-- "Keep the admissions of the last second in the state" (document 02, W-207): what goes is noted, and every call that is not
-- refused, a sample too, drops what has reached 1,000,000 µs of age
abbrev sent_at_0 : (profile : ℕ) → State
sent_at_0 profile = state_after (fresh profile) (offers (1 ∷ []) ++ (poll 7 ∷ []))

noted_behind :
    (map (λ (p : ℕ). (sent_at_0 p).head.admissions) profiles ≡ five 1)
    × (map (λ (p : ℕ). (sent_at_0 p).air) profiles ≡ five (400 ∷ zeros 39))
    × (map (λ (p : ℕ). sound_state (sent_at_0 p)) profiles ≡ five true)
unfolding of_states state_after
noted_behind = (refl, refl, refl)

dropped_at_a_second :
    map (λ (p : ℕ). map (λ (c : Call). (call_on (sent_at_0 p) c).state.head.admissions)
    (count 1000006 5 1000 ∷ count 1000007 5 1000 ∷ count 1000007 1001 1000 ∷ [])) profiles
    ≡ five (1 ∷ 0 ∷ 1 ∷ [])
unfolding of_states state_after
dropped_at_a_second = refl

-- each counts back from the last admission: one more moves those before it back
abbrev sent_again : (profile : ℕ) → State
sent_again profile =
    state_after (sent_at_0 profile)
    (offer 900007 (record { id = 2; priority = 0; ontime = 500; lifetime = 1000 }) ∷ poll 900007 ∷ [])

moved_back :
    (map (λ (p : ℕ). (sent_again p).air) profiles ≡ five ((900000 * 4096 + 400) ∷ 500 ∷ zeros 38))
    × (map (λ (p : ℕ). (sent_again p).head.last.at) profiles ≡ five 900000)
    × (map (λ (p : ℕ). sound_state (sent_again p)) profiles ≡ five true)
unfolding of_states state_after
moved_back = (refl, refl, refl)

-- a state that no run reaches, with 30,000 µs in its ledger, answers CLOSED until enough has aged. (In profile 2, whose packets
-- last 500 µs at most, forty admissions are less)
abbrev thirty : (n from : ℕ) → List Admission
thirty zero from = []
thirty (suc n) from = ledger.admission from 1000 ∷ thirty n (from + 25000)

abbrev bound : (profile : ℕ) → State
bound profile =
    let s = fresh profile in
    state_with
    (head (record { time = 900000; stamp = 0 }) (record { at = 725000; ontime = 1000; admitted = 1 })
    (record { accepted = 1; sent = 0; expired = 0; displaced = 0 })
    (record { level = 0; duty = 30000000; smoothed = 0; kept = 0; pairing = 0; latest = 0 }) profile 0 1 30 0 s.head.levels
    s.head.calm)
    (1 ∷ 1 ∷ 9 ∷ 60000000 ∷ zeros 60) (zeros 20) (ledger.packed 725000 (thirty 30 0)).slots s.loads s.above s.waits

binds_in_every_profile :
    map (λ (p : ℕ). (call_on (bound p) (poll 0)).answer) (1 ∷ 3 ∷ 4 ∷ 5 ∷ []) ≡ replicate 4 (Closed 100000)
unfolding of_states
binds_in_every_profile = refl

-- profile 5 (document 02, W-213). So many samples in which every probe was busy
abbrev full : ℕ → List Call
full n = replicate n (count 7 1000 1000)

-- "Low is the least load of the last 10 samples, 0 before there are ten": nine full loads leave level 0, the tenth lifts it at
-- once to the top; another profile keeps no load
tenth_lifts :
    (map (λ (n : ℕ). (state_after (fresh 5) (full n)).head.tuning.level) (0 ∷ 9 ∷ 10 ∷ []) ≡ 0 ∷ 0 ∷ 2 ∷ [])
    × (map (λ (p : ℕ). (state_after (fresh p) (full 10)).head.loads) profiles ≡ 0 ∷ 0 ∷ 0 ∷ 0 ∷ 10 ∷ [])
    × ((state_after (fresh 5) (full 10)).loads ≡ replicate 10 1000000 ++ zeros 40)
    × (levels_in (state_after (fresh 5) (full 10)) ≡ two)
    × (map (λ (p : ℕ). sound_state (state_after (fresh p) (full 10))) profiles ≡ five true)
unfolding of_states state_after
tenth_lifts = (refl, refl, refl, refl, refl)

-- the wait listed for the level, from the packet's end, less the µs since: a bound that is met
closed_by_the_list :
    map (λ (n : ℕ). (call_on (state_after (fresh 5) (full n ++ offers (1 ∷ 2 ∷ []) ++ (poll 7 ∷ []))) (poll 8)).answer)
    (9 ∷ 10 ∷ [])
    ≡ Closed 60399 ∷ Closed 400399 ∷ []
unfolding of_states state_after
closed_by_the_list = refl

-- a state that nothing waits in, with loads and a list: what profile 5 needs no other profile may have
abbrev beside : (profile : ℕ) → Loads → Levels → State
beside profile held levels =
    let s = fresh 1 in
    state_with
    (head s.head.clock s.head.last s.head.counts s.head.tuning profile 0 1 0 held.len levels.len
    levels.wait)
    s.queues s.came s.air held.slots levels.above levels.waits

abbrev one : Loads
one = loads.packed (1 ∷ [])

loads-and_list :
    map (λ (p : ℕ). map (λ (s : State). (call_on s (poll 8)).answer)
    (beside p no_loads no_levels ∷ beside p one no_levels ∷ beside p no_loads two ∷ beside p one two ∷ [])) profiles
    ≡ replicate 4 (Idle ∷ Refused 9 ∷ Refused 9 ∷ Refused 9 ∷ []) ++ ((Refused 9 ∷ Refused 9 ∷ Idle ∷ Idle ∷ []) ∷ [])
unfolding of_states
loads-and_list = refl

-- a list of nothing, one whose thresholds don't rise, one that is too long, and a good one with something past its levels
abbrev lists : List Levels
lists =
    no_levels
    ∷ levels_of 2 60000 (500000 ∷ 200000 ∷ zeros 6) (100000 ∷ 400000 ∷ zeros 6)
    ∷ levels_of 4294967296 60000 (200000 ∷ 500000 ∷ zeros 6) (100000 ∷ 400000 ∷ zeros 6)
    ∷ levels_of 2 60000 (200000 ∷ 500000 ∷ 1 ∷ zeros 5) (100000 ∷ 400000 ∷ zeros 5 ++ (1 ∷ []))
    ∷ []

-- "A list that breaks a rule is refused at making with 15, BAD-LIST, after 1; it is judged for profile 5 alone": another profile
-- is made, and has none of it
made_with_a_list :
    (map (λ (p : ℕ). map (λ (l : Levels). (make_state (making_of p 0 l 7)).answer) lists) profiles
    ≡ replicate 4 (replicate 4 Ready) ++ ((Refused 15 ∷ Refused 15 ∷ Refused 15 ∷ Ready ∷ []) ∷ []))
    × (map (λ (l : Levels). levels_in (make_state (making_of 5 0 l 7)).state) lists ≡ no_levels ∷ no_levels ∷ no_levels ∷ two
    ∷ [])
    × (map (λ (p : ℕ). (make_state (making_of p 2 no_levels 7)).answer) (0 ∷ 5 ∷ 6 ∷ []) ≡ replicate 3 (Refused 1))
unfolding of_states
made_with_a_list = (refl, refl, refl)

abbrev none_admitted : Last
none_admitted = record { at = 0; ontime = 0; admitted = 0 }

abbrev none_counted : Counts
none_counted = record { accepted = 0; sent = 0; expired = 0; displaced = 0 }

-- "Make's refusal hands back the all-zero, not live state."
abbrev nothing : State
nothing =
    state_with
    (head (record { time = 0; stamp = 0 }) none_admitted none_counted
    (record { level = 0; duty = 0; smoothed = 0; kept = 0; pairing = 0; latest = 0 }) 0 0 0 0 0 0 0)
    (zeros 64) (zeros 20) (zeros 40) (zeros 50) (zeros 8) (zeros 8)

refused_make :
    (map (λ (m : Making). make_state m)
    (making_of 0 0 two 7 ∷ making_of 6 0 two 7 ∷ making_of 1 2 two 7 ∷ making_of 5 0 no_levels 7 ∷ [])
    ≡ replicate 3 (outcome nothing (Refused 1)) ++ (outcome nothing (Refused 15) ∷ []))
    × ((call_on nothing (poll 7)).answer ≡ Refused 9)
unfolding of_states
refused_make = (refl, refl)

-- every profile and way has its head
abbrev starts_with : (profile oldway : ℕ) → Head
starts_with profile oldway =
    head (record { time = 0; stamp = 7 }) none_admitted none_counted
    (record { level = 0; duty = 600000; smoothed = 0; kept = 0; pairing = 0; latest = 0 }) profile oldway 1 0 0
    (cond (eqb profile 5) 2 0) (cond (eqb profile 5) 60000 0)

fresh_heads :
    map (λ (p : ℕ). map (λ (way : ℕ). (make_state (making_of p way two 7)).state.head) (0 ∷ 1 ∷ [])) profiles
    ≡ map (λ (p : ℕ). starts_with p 0 ∷ starts_with p 1 ∷ []) profiles
unfolding of_states
fresh_heads = refl
