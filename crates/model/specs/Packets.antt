-- A waiting packet, and what a gate asks of whatever its packets wait in (document 01, "State and calls",
-- "Waiting and leaving").
use Rattle.std.specs.Prelude.{ℕ, ◌-◌, Bool, true, cond, ◌&&◌, List, [], ◌∷◌, ◌++◌, leb, ltb}
use Rattle.rules.specs.Profiles.{ontime_allowed, lifetime_allowed}
use Rattle.model.specs.declared.Packet.{Packet}
use Rattle.model.specs.declared.Offer.{Offer}

-- "an identifier .., priority, on-time, lifetime and arrival time": the packet of an offer that comes at a
-- time
abbrev pub packet_of : Offer → (now : ℕ) → Packet
packet_of o now =
    record { id = o.id; priority = o.priority; ontime = o.ontime; lifetime = o.lifetime; arrival = now }

-- "everything unused is zero": no packet
abbrev pub no_packet : Packet
no_packet = record { id = 0; priority = 0; ontime = 0; lifetime = 0; arrival = 0 }

-- "A packet is expired when running time minus arrival is at least its lifetime.": it isn't
abbrev pub unexpired : (now : ℕ) → Packet → Bool
unexpired now p = ltb (now - p.arrival) p.lifetime

-- "removes every expired packet"
unfoldable pub without_expired : (now : ℕ) → List Packet → List Packet
without_expired now [] = []
without_expired now (p ∷ ps) = cond (unexpired now p) (p ∷ without_expired now ps) (without_expired now ps)

-- "joins the back"
abbrev pub at_back : Packet → List Packet → List Packet
at_back p ps = ps ++ (p ∷ [])

-- "every waiting packet within its limits, .. arrived not after the running time"
abbrev pub limit_rules : (profile now : ℕ) → Packet → List Bool
limit_rules profile now p =
    ontime_allowed profile p.ontime ∷ lifetime_allowed p.lifetime ∷ leb p.arrival now ∷ []

-- "arrivals .. not decreasing", and a rule for each packet; since is the arrival of the one before
unfoldable pub in_order : (Packet → Bool) → (since : ℕ) → List Packet → Bool
in_order rule since [] = true
in_order rule since (p ∷ ps) = (rule p && leb since p.arrival) && in_order rule p.arrival ps

-- "IDLE if nothing waits"; else the packet that may go, and those that it leaves
pub data Chosen (A : Type 0) : Type 0 where
  nothing : Chosen A
  chosen : Packet → A → Chosen A

-- how packets wait: all that the gate asks of it
pub record Holding : Type 1 where
  pub Held : Type 0
  -- nothing waits
  pub none : Held
  -- how many wait
  pub total : Held → ℕ
  -- how many of a priority
  pub of_priority : ℕ → Held → ℕ
  -- "removes every expired packet"
  pub expire : (now : ℕ) → Held → Held
  -- "the front one leaves" (document 02, W-205): without the front one of a priority
  pub spill : (priority : ℕ) → Held → Held
  -- with one more, the last to come
  pub join : Packet → Held → Held
  -- "The packet is the oldest of the lowest-numbered"
  pub next : Held → Chosen Held
  -- what a sound state asks of those that wait
  pub fits : (profile now : ℕ) → Held → Bool
