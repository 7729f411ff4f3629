-- What the statements ask for is there: each, from its proof, on a run or a state that meets its hypotheses. Those of the
-- delivery stand in DeliveryExample.
use Prim.Native.Nat.{ℕ, ◌+◌, ◌*◌, ◌≤◌}
use mathlib.Core.Path.{◌≡◌, refl, ap, sym}
use mathlib.Core.Bool.{true}
use mathlib.Core.List.{List, [], ◌∷◌, map}
use native.Mathlib.Omega.{arith}
use lib.Dec.{leb}
use lib.ListN.{length}
use Rattle.rules.proofs.Cases.{clash}
use Rattle.control.specs.Owed.{claims_ceiling}
use Rattle.model.specs.declared.Packet.{Packet}
use Rattle.model.specs.declared.Offer.{Offer}
use Rattle.model.specs.declared.Answer.TheVariants.{Sent, Refused}
use Rattle.model.specs.Queues.{choice}
use Rattle.model.specs.Calls.{Call, offer, poll, is_sent}
use Rattle.model.specs.State.{View, sound}
use Rattle.model.specs.Effects.{refreshed, polled}
use Rattle.model.specs.Gate.{make, call, waited}
use Rattle.model.specs.Journal.{Entry, Journal, opened, at_poll, top, journal_of, air_time}
use Rattle.model.specs.Claims.{view_after, events, Claims}
use Rattle.model.proofs.Refusals.{refusals-change_nothing}
use Rattle.model.proofs.KeepsSound.{calls_keep_sound}
use Rattle.model.proofs.Closing.{closed_is_least}
use Rattle.model.proofs.Demand3.{demand3, old_way_displaces_nothing, new_way_has_room}
use Rattle.model.proofs.Computing.{of_runs}
use Rattle.model.proofs.Worked.{packet, making, making_old, offering}

-- a make of each profile, a packet that goes at once, and another that waits
abbrev two : List Call
two = offering 0 1 0 400 60000000 ∷ poll 0 ∷ offering 0 2 0 400 60000000 ∷ []

abbrev at_end : (profile : ℕ) → View
at_end profile = view_after (make (making profile 0)).view two

abbrev book : (profile : ℕ) → Journal
book profile = journal_of (opened 0) (events (make (making profile 0)).view two)

-- "a make that isn't refused", in every profile
unfoldable claimed : (Claims 1 (at_end 1) (book 1)) × (Claims 2 (at_end 2) (book 2)) × (Claims 3 (at_end 3) (book 3))
    × (Claims 4 (at_end 4) (book 4)) × (Claims 5 (at_end 5) (book 5))
unfolding of_runs
claimed = (
  demand3 (making 1 0) two refl,
  demand3 (making 2 0) two refl,
  demand3 (making 3 0) two refl,
  demand3 (making 4 0) two refl,
  demand3 (making 5 0) two refl,
)

-- the floor: a poll so long after the admission is not refused, finds the packet, and so it goes
abbrev Goes : (profile stamp : ℕ) → Type 0
Goes profile stamp = (p : Packet) × ((call (at_end profile) (poll stamp)).answer ≡ Sent p)

floors : Goes 1 1001000 × Goes 2 1000500 × Goes 3 1000000 × Goes 4 1004000 × Goes 5 1001000
unfolding of_runs
floors = (
  claimed.0.floor 1001000 refl (λ none. clash (sym (ap length none))) (omega arith, tt),
  claimed.1.floor 1000500 refl (λ none. clash (sym (ap length none))) (omega arith, tt),
  claimed.2.floor 1000000 refl (λ none. clash (sym (ap length none))) (omega arith, tt),
  claimed.3.floor 1004000 refl (λ none. clash (sym (ap length none))) (omega arith, tt),
  claimed.4.floor 1001000 refl (λ none. clash (sym (ap length none))) (omega arith, tt),
)

-- the ceiling, in the profiles that claim it
ceilings : (from w : ℕ)
    → (100 * air_time from w (book 1).admissions ≤ 3 * w + 400000)
    × (100 * air_time from w (book 2).admissions ≤ 3 * w + 400000)
    × (100 * air_time from w (book 3).admissions ≤ 3 * w + 400000)
    × (100 * air_time from w (book 5).admissions ≤ 3 * w + 400000)
unfolding of_runs claims_ceiling
ceilings from w = (
  claimed.0.ceiling refl from w,
  claimed.1.ceiling refl from w,
  claimed.2.ceiling refl from w,
  claimed.4.ceiling refl from w,
)

-- SENT carries the packet on top; the first left with the first admission
carried : (l : Entry) × (top (at_poll (book 1) 1001000).columns ≡ l ∷ []) × (l.packet ≡ packet 2 0 400 60000000 0)
unfolding of_runs
carried = claimed.0.sent 1001000 (packet 2 0 400 60000000 0) refl

in_turn : 1 ≤ 1
unfolding of_runs
in_turn = claimed.0.leaving.0 refl

-- six offers of one priority in the old way, and in the new one
abbrev six : List Call
six = map (λ (id : ℕ). offering 0 id 0 400 60000000) (1 ∷ 2 ∷ 3 ∷ 4 ∷ 5 ∷ 6 ∷ [])

none-displaced : (view_after (make (making_old 1 0)).view six).counts.displaced ≡ 0
unfolding of_runs
none-displaced = (old_way_displaces_nothing (making_old 1 0) six refl refl).1

always_room_lem : (stamp : ℕ) (o : Offer) → (call (view_after (make (making 1 0)).view six) (offer stamp o)).answer ≡ Refused 8
    → ⊥
unfolding of_runs
always_room_lem = new_way_has_room (making 1 0) six refl refl

-- a call whose clock goes back is refused and changes nothing; one that isn't leaves a sound state sound
unchanged : (call (at_end 1) (poll 4294967295)).view ≡ at_end 1
unfolding of_runs
unchanged = refusals-change_nothing (at_end 1) (poll 4294967295) refl

still_sound : sound (call (at_end 1) (poll 1001000)).view ≡ true
unfolding of_runs
still_sound = calls_keep_sound (at_end 1) (poll 1001000) refl

-- "CLOSED reports the smallest further wait": 100,395 µs are left 5 µs after the admission, a wait of 100,000 from its end
abbrev later : View
later = refreshed (at_end 1) 5

smallest : (d : ℕ) → is_sent (polled (waited later d) (choice later.waiting)).answer ≡ leb 100395 d
unfolding of_runs
smallest = closed_is_least (at_end 1) 5 100395 refl
