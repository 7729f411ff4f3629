-- Packets that wait in four queues, one a priority (document 01, "State and calls", "Waiting and leaving").
use Rattle.std.specs.Prelude.{ℕ, Bool, ◌&&◌, List, [], ◌∷◌, leb, eqb, length, drop}
use Rattle.rules.specs.Tests.{all_of}
use Rattle.rules.specs.Profiles.{room}
use Rattle.model.specs.declared.Packet.{Packet}
use Rattle.model.specs.Packets.{without_expired, at_back, limit_rules, in_order}
use Rattle.model.specs.Packets.{Chosen, nothing, chosen, Holding}
use Rattle.model.specs.Fours.{Four, four, none_of_four, each, column, change, how_many}

-- "within its limits, in its own priority's queue"
abbrev pub own_packet : (profile now priority : ℕ) → Packet → Bool
own_packet profile now priority p = eqb p.priority priority && all_of (limit_rules profile now p)

-- "every queue length at most 5, .. arrivals in a queue not decreasing"
unfoldable pub queue_sound : (profile now priority : ℕ) → List Packet → Bool
queue_sound profile now priority ps = leb (length ps) room && in_order (own_packet profile now priority) 0 ps

-- "four queues of up to 5 packets"
abbrev pub queue_rules : (profile now : ℕ) → Four Packet → List Bool
queue_rules profile now q =
    queue_sound profile now 0 q.c0
    ∷ queue_sound profile now 1 q.c1
    ∷ queue_sound profile now 2 q.c2
    ∷ queue_sound profile now 3 q.c3
    ∷ []

-- "the oldest of the lowest-numbered non-empty queue", and the four lists without it
abbrev pub choice_of : List Packet → List Packet → List Packet → List Packet → Chosen (Four Packet)
choice_of (p ∷ a) b c d = chosen p (four a b c d)
choice_of [] (p ∷ b) c d = chosen p (four [] b c d)
choice_of [] [] (p ∷ c) d = chosen p (four [] [] c d)
choice_of [] [] [] (p ∷ d) = chosen p (four [] [] [] d)
choice_of [] [] [] [] = nothing

-- the packet that is to go, and those that then wait
unfoldable pub choice : Four Packet → Chosen (Four Packet)
choice q = choice_of q.c0 q.c1 q.c2 q.c3

-- "the front one leaves and the new one joins" (document 02, W-205); "An offer then joins the back of its
-- priority's queue"
abbrev pub in_queues : Holding
in_queues =
    record {
      Held = Four Packet;
      none = none_of_four;
      total = how_many;
      of_priority = λ (priority : ℕ) (q : Four Packet). length (column priority q);
      expire = λ (now : ℕ) (q : Four Packet). each (without_expired now) q;
      spill = λ (priority : ℕ) (q : Four Packet). change priority (drop 1) q;
      join = λ (p : Packet) (q : Four Packet). change p.priority (at_back p) q;
      next = choice;
      fits = λ (profile now : ℕ) (q : Four Packet). all_of (queue_rules profile now q);
    }
