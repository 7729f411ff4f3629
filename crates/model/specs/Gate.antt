-- The gate: the first check that holds is the answer, else the call's effect (document 01, "Refusal
-- numbers").
use Rattle.std.specs.Prelude.{ℕ, ◌+◌, ◌-◌, ◌%◌, ◌≤◌, ◌<◌, ◌≡◌, Bool, true, not, cond, ◌&&◌, List, [], ◌∷◌}
use Rattle.std.specs.Prelude.{◌++◌, ltb, leb, eqb, length}
use Rattle.rules.specs.Profiles.{is_profile, last_priority, ontime_allowed, lifetime_allowed, room}
use Rattle.rules.specs.Profiles.{most_offers}
use Rattle.rules.specs.Clock.{stamps, step_of, goes_back, end_of_time, passes_end}
use Rattle.rules.specs.Samples.{good_words, bad_count}
use Rattle.rules.specs.Refusals.{Check, check, first_of, FirstHolds, NoneHolds}
use Rattle.machine.specs.Levels.{bad_list}
use Rattle.model.specs.declared.Clock.{Clock}
use Rattle.model.specs.declared.Offer.{Offer}
use Rattle.model.specs.declared.Packet.{Packet}
use Rattle.model.specs.declared.Answer.{Answer}
use Rattle.model.specs.declared.Answer.TheVariants.{Ready, Sent, Closed, Refused}
use Rattle.model.specs.Packets.{unexpired, chosen, Holding}
use Rattle.model.specs.Queues.{in_queues}
use Rattle.model.specs.Calls.{Call, words, count, offer, poll, stamp_of, Making, is_sent, is_refused}
use Rattle.model.specs.Ledger.{places}
use Rattle.model.specs.State.{Status, with_clock, fresh, not_live, sound}
use Rattle.model.specs.Effects.{Result, result, stepped, aged, refreshed, polled, effect}

-- 5 BAD-PRIORITY, 6 BAD-ON-TIME, 7 BAD-LIFETIME: an offer's own numbers
abbrev pub number_checks : (profile : ℕ) → Offer → List Check
number_checks profile o =
    check 5 (ltb last_priority o.priority)
    ∷ check 6 (not (ontime_allowed profile o.ontime))
    ∷ check 7 (not (lifetime_allowed o.lifetime))
    ∷ []

-- 8 QUEUE-FULL: "5 unexpired packets wait in that queue at the new time"; "Number 8 is given only by a gate
-- made in the old way" (document 02, W-205); "11, SPENT, checked after 8" (W-201)
abbrev pub room_checks : (oldway of_priority accepted : ℕ) → List Check
room_checks oldway of_priority accepted =
    check 8 (eqb oldway 1 && leb room of_priority) ∷ check 11 (leb most_offers accepted) ∷ []

-- "then 4, 5, 6, 7, 8 as they apply"; 4 BAD-SAMPLE
abbrev pub own_checks : {h : Holding} → Status h → Call → List Check
own_checks v (words stamp probes ws) = check 4 (not (good_words probes ws)) ∷ []
own_checks v (count stamp busy probes) = check 4 (bad_count busy probes) ∷ []
own_checks {h} v (offer stamp o) =
    number_checks v.control.profile o
    ++ room_checks v.oldway (h.of_priority o.priority (refreshed v stamp).waiting) v.counts.accepted
own_checks v (poll stamp) = []

-- "Checks run 9, 2, 3, then ..": 9 NO-STATE, 2 CLOCK-BACK, 3 CLOCK-END
abbrev pub clock_checks : (is_sound : Bool) → Clock → (stamp : ℕ) → List Check → List Check
clock_checks is_sound clock stamp own =
    check 9 (not is_sound)
    ∷ check 2 (goes_back (step_of stamp clock.stamp))
    ∷ check 3 (passes_end (stepped clock stamp).time)
    ∷ own

-- the whole table of a call, in the order in which it is judged
unfoldable pub checks : {h : Holding} → Status h → Call → List Check
checks v c = clock_checks (sound v) v.clock (stamp_of c) (own_checks v c)

-- "A refusal hands back the given state unchanged, clock included."
abbrev pub unless_refused : {h : Holding} → (number : ℕ) → Status h → Result h → Result h
unless_refused number given done = cond (eqb number 0) done (result given (Refused number))

-- 1 BAD-PROFILE: "at making a profile outside 1 to 5 gets number 1" (document 02, W-213); "1 asks for the old
-- way, 0 for the new, any other number is refused with 1" (W-205). 15 BAD-LIST: "A list that breaks a rule is
-- refused at making with 15, BAD-LIST, after 1; it is judged for profile 5 alone."
abbrev pub make_checks : Making → List Check
make_checks m =
    check 1 (not (is_profile m.profile))
    ∷ check 1 (ltb 1 m.oldway)
    ∷ check 15 (eqb m.profile 5 && bad_list m.list)
    ∷ []

-- "Make's refusal hands back the all-zero, not live state."
unfoldable pub make_in : (h : Holding) → Making → Result h
make_in h m = unless_refused (first_of (make_checks m)) not_live (result (fresh m) Ready)

-- make of the gate with four queues
abbrev pub make : Making → Result in_queues
make m = make_in in_queues m

-- a call on a state
unfoldable pub call : {h : Holding} → Status h → Call → Result h
call v c = unless_refused (first_of (checks v c)) v (effect v c)

-- demand 1: "a refused call (make apart) changes nothing", whatever way packets wait
abbrev pub RefusalsChangeNothing : Holding → Type 0
RefusalsChangeNothing h = (v : Status h) (c : Call) → is_refused (call v c).answer ≡ true → (call v c).view
    ≡ v

-- demand 2: number n is answered exactly if n's check is the first of the table that holds
abbrev pub RefusalsAreExact : Holding → Type 0
RefusalsAreExact h =
    (v : Status h) (c : Call) (n : ℕ)
    → ((call v c).answer ≡ Refused n → FirstHolds n (checks v c))
    × (FirstHolds n (checks v c) → (call v c).answer ≡ Refused n)

-- and so is make's, 1 and 15: number n exactly if n's row is the first of the three that holds, READY exactly
-- if none does
pub record MadeExactly (h : Holding) (m : Making) : Type 0 where
  pub refused : (n : ℕ)
      → ((make_in h m).answer ≡ Refused n → FirstHolds n (make_checks m))
      × (FirstHolds n (make_checks m) → (make_in h m).answer ≡ Refused n)
  pub ready :
      ((make_in h m).answer ≡ Ready → NoneHolds (make_checks m))
      × (NoneHolds (make_checks m) → (make_in h m).answer ≡ Ready)

abbrev pub MakeIsExact : Holding → Type 0
MakeIsExact h = (m : Making) → MadeExactly h m

-- a call leaves a sound state sound
abbrev pub CallsKeepSound : Holding → Type 0
CallsKeepSound h = (v : Status h) (c : Call) → sound v ≡ true → sound (call v c).view ≡ true

-- "40 are enough" (document 02, W-207): no sound state has more in its ledger
abbrev pub FortyAreEnough : Holding → Type 0
FortyAreEnough h = (v : Status h) → sound v ≡ true → length v.ledger ≤ places

-- a state so many µs later, "if no sample, offer or expiry came between and the clock had no end"
abbrev pub waited : {h : Holding} → Status h → (d : ℕ) → Status h
waited v d = aged (with_clock v (record { time = v.clock.time + d; stamp = v.clock.stamp }))

-- "CLOSED reports the smallest further wait after which that packet would go" (document 02, W-207): d µs
-- later the poll of that packet sends exactly if d is at least the number
abbrev pub ClosedIsLeast : Holding → Type 0
ClosedIsLeast h =
    (v : Status h) (stamp n : ℕ) → (call v (poll stamp)).answer ≡ Closed n
    → (d : ℕ)
    → is_sent (polled (waited (refreshed v stamp) d) (h.next (refreshed v stamp).waiting)).answer ≡ leb n d

-- "Ask again so many µs later, and the packet goes; ask a µs sooner, and it doesn't" (docs/LABEL.md): a poll
-- with a stamp was answered CLOSED with n and left v, and ask says what one more answers, by its stamp
pub record AskedAgain {h : Holding} (v : Status h) (stamp n : ℕ) (ask : (later : ℕ) → Answer) : Type 0 where
  -- "that packet": the one that goes next
  pub packet : Packet
  pub others : h.Held
  pub chosen_next : h.next v.waiting ≡ chosen packet others
  -- d µs later, the clock neither going back nor past its end and the packet not expired by then: it is sent
  -- exactly if d is at least n, and else CLOSED says what is left of n
  pub again : (d : ℕ) → d < 2147483648 → v.clock.time + d ≤ end_of_time
      → unexpired (v.clock.time + d) packet ≡ true
      → ask ((stamp + d) % stamps) ≡ cond (leb n d) (Sent packet) (Closed (n - d))

-- so it is after every poll that is CLOSED, if the next call is a poll: nothing but time comes between
abbrev pub ClosedAskedAgain : Holding → Type 0
ClosedAskedAgain h =
    (v : Status h) (stamp n : ℕ) → stamp < stamps → (call v (poll stamp)).answer ≡ Closed n
    → AskedAgain (call v (poll stamp)).view stamp n
    (λ later. (call (call v (poll stamp)).view (poll later)).answer)
