-- Packets that wait in one list, "in order of arrival" (document 02, W-212).
use Rattle.std.specs.Prelude.{ℕ, ◌+◌, Bool, cond, ◌&&◌, List, [], ◌∷◌, leb, ltb, eqb, length}
use Rattle.rules.specs.Tests.{all_of}
use Rattle.rules.specs.Profiles.{last_priority, room}
use Rattle.model.specs.declared.Packet.{Packet}
use Rattle.model.specs.Packets.{no_packet, without_expired, at_back, limit_rules, in_order}
use Rattle.model.specs.Packets.{Chosen, nothing, chosen, Holding}
use Rattle.model.specs.State.{Status}

-- how many of a priority wait
unfoldable pub count_of : (priority : ℕ) → List Packet → ℕ
count_of priority [] = 0
count_of priority (p ∷ ps) = cond (eqb p.priority priority) (count_of priority ps + 1) (count_of priority ps)

-- whether q goes before p, which came first
abbrev pub goes_before : Packet → Packet → Bool
goes_before q p = ltb q.priority p.priority

-- "for the lowest priority number, first come first": of p, the best so far, and those behind it
unfoldable pub best : Packet → List Packet → Packet
best p [] = p
best p (q ∷ qs) = cond (goes_before q p) (best q qs) (best p qs)

-- without the first one of a priority: it "leaves its queue" (document 01), or is "the front one" that
-- "leaves" (document 02, W-205)
unfoldable pub without : (priority : ℕ) → List Packet → List Packet
without priority [] = []
without priority (p ∷ ps) = cond (eqb p.priority priority) ps (p ∷ without priority ps)

-- the packet that goes next; where none waits, the blank one
unfoldable pub goes_next : List Packet → Packet
goes_next [] = no_packet
goes_next (p ∷ ps) = best p ps

-- "picks by walking it"
unfoldable pub picked : List Packet → Chosen (List Packet)
picked [] = nothing
picked (p ∷ ps) = chosen (best p ps) (without (best p ps).priority (p ∷ ps))

-- "every waiting packet within its limits" (document 01), of one of four priorities
abbrev pub allowed_packet : (profile now : ℕ) → Packet → Bool
allowed_packet profile now p = leb p.priority last_priority && all_of (limit_rules profile now p)

-- "It still counts five to a priority"
abbrev pub at_most_five : (priority : ℕ) → List Packet → Bool
at_most_five priority ps = leb (count_of priority ps) room

-- "sound by the same rules, read on the list, arrivals not decreasing over the whole of it"
abbrev pub list_rules : (profile now : ℕ) → List Packet → List Bool
list_rules profile now ps =
    in_order (allowed_packet profile now) 0 ps
    ∷ at_most_five 0 ps
    ∷ at_most_five 1 ps
    ∷ at_most_five 2 ps
    ∷ at_most_five 3 ps
    ∷ []

-- "keeps up to 20 waiting packets in a single list in order of arrival, expires by walking it, and picks by
-- walking it"
abbrev pub in_list : Holding
in_list =
    record {
      Held = List Packet;
      none = [];
      total = length;
      of_priority = count_of;
      expire = without_expired;
      spill = without;
      join = at_back;
      next = picked;
      fits = λ (profile now : ℕ) (ps : List Packet). all_of (list_rules profile now ps);
    }

-- the state of the plain engine
abbrev pub Listed : Type 0
Listed = Status in_list
