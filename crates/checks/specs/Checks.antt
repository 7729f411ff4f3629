-- What both engines decide on plain numbers (document 01, "Waiting and leaving"), and what a call asks.
use Rattle.std.specs.Prelude.{ℕ, ◌-◌, ◌≡◌, Bool, true, false, cond, [], ◌∷◌, eqb}
use Rattle.rules.specs.Tests.{all_of}
use Rattle.rules.specs.Clock.{step_of, goes_back, passes_end}
use Rattle.model.specs.declared.Packet.{Packet}
use Rattle.model.specs.declared.Last.{Last}
use Rattle.model.specs.declared.Clock.{Clock}
use Rattle.model.specs.Calls.{Call, count, offer, poll}
use Rattle.model.specs.Effects.{stepped}
use Rattle.checks.specs.declared.Request.{Request}
use Rattle.checks.specs.declared.Request.TheVariants.{Count, Offered, Poll}

-- a request with its stamp is a call
abbrev pub call_of : Request → (stamp : ℕ) → Call
call_of (Count busy probes) stamp = count stamp busy probes
call_of (Offered o) stamp = offer stamp o
call_of Poll stamp = poll stamp

-- "everything unused is zero"
abbrev pub is_zero : Packet → Bool
is_zero p =
    all_of
    (eqb p.id 0 ∷ eqb p.priority 0 ∷ eqb p.ontime 0 ∷ eqb p.lifetime 0 ∷ eqb p.arrival 0 ∷ [])

-- "CLOSED with the µs left", 0 where the gate is not closed; it stays closed for so long after an admission
unfoldable pub left_at : (closed : ℕ) → Last → (now : ℕ) → ℕ
left_at closed l now = cond (eqb l.admitted 1) (closed - (now - l.at)) 0

-- "Checks run 9, 2, 3, then ..": 2 or 3 where the clock refuses, else 0
unfoldable pub clock_number : Clock → (stamp : ℕ) → ℕ
clock_number clock stamp =
    cond (goes_back (step_of stamp clock.stamp)) 2 (cond (passes_end (stepped clock stamp).time) 3 0)

-- none of these three holds
pub record Entered (is_sound : Bool) (clock : Clock) (stamp : ℕ) : Type 0 where
  pub judged_sound : is_sound ≡ true
  pub forward : goes_back (step_of stamp clock.stamp) ≡ false
  pub not_past : passes_end (stepped clock stamp).time ≡ false
