-- The plain engine and the gate answer alike, on lists (document 02, W-212).
use Rattle.std.specs.Prelude.{ℕ, ◌≡◌, true, cond, List, [], ◌∷◌, eqb}
use Rattle.model.specs.declared.Packet.{Packet}
use Rattle.model.specs.Packets.{Holding}
use Rattle.model.specs.Fours.{Four, four}
use Rattle.model.specs.Queues.{in_queues}
use Rattle.model.specs.Calls.{Call, Making}
use Rattle.model.specs.State.{Status, View, status_from, sound}
use Rattle.model.specs.Gate.{make_in}
use Rattle.model.specs.Claims.{view_after, events}
use Rattle.line.specs.Line.{in_list, Listed}

-- those of a priority, in their order
unfoldable pub of : (priority : ℕ) → List Packet → List Packet
of priority [] = []
of priority (p ∷ ps) = cond (eqb p.priority priority) (p ∷ of priority ps) (of priority ps)

-- a list, parted into four queues
abbrev pub parted : List Packet → Four Packet
parted ps = four (of 0 ps) (of 1 ps) (of 2 ps) (of 3 ps)

-- a state with the same numbers, whose packets wait in another way
abbrev pub waiting_as : {h k : Holding} → Status h → k.Held → Status k
waiting_as v waiting =
    status_from v.live v.oldway v.clock v.control v.last v.ledger v.counts waiting

-- the same state, its list parted
abbrev pub in_parts : Listed → View
in_parts v = waiting_as {k = in_queues} v (parted v.waiting)

-- "from fresh states of any profile", and of either way of W-205, "both engines given the same calls give the
-- same answers at every step, refusals, displacement, counts and CLOSED numbers among them". Every part of a
-- run is a run, so the counts are the same at every step too
pub record SameRuns (h k : Holding) (m : Making) (calls : List Call) : Type 0 where
  pub made : (make_in h m).answer ≡ (make_in k m).answer
  pub answers : events (make_in h m).view calls ≡ events (make_in k m).view calls
  pub counts : (view_after (make_in h m).view calls).counts ≡ (view_after (make_in k m).view calls).counts

abbrev pub EnginesAgree : Type 0
EnginesAgree = (m : Making) (calls : List Call) → SameRuns in_list in_queues m calls

-- and not only from fresh states: from any sound list and the queues that are its parts
pub record PartsAgree (v : Listed) (calls : List Call) : Type 0 where
  pub answers : events v calls ≡ events (in_parts v) calls
  pub states : in_parts (view_after v calls) ≡ view_after (in_parts v) calls
  pub sound_throughout : sound (view_after v calls) ≡ true

abbrev pub SoundListsAgree : Type 0
SoundListsAgree = (v : Listed) (calls : List Call) → sound v ≡ true → PartsAgree v calls
