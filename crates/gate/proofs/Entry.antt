-- A request is refused by one of its checks, or passes them all, and its call does then.
use Prim.Native.Nat.{ℕ, ◌<◌}
use mathlib.Core.Path.{◌≡◌, refl, ap, sym, ◌∙◌}
use mathlib.Core.Bool.{true, false}
use mathlib.Core.List.{List}
use native.Mathlib.Omega.{arith}
use Rattle.rules.specs.Clock.{step_of, goes_back, passes_end}
use Rattle.rules.specs.Refusals.{Check, first_of}
use Rattle.rules.specs.Samples.{bad_count}
use Rattle.rules.proofs.Cases.{split}
use Rattle.rules.proofs.Refusals.{of_none}
use Rattle.rules.proofs.Tests.{tested}
use Rattle.model.specs.declared.Clock.{Clock}
use Rattle.model.specs.declared.Answer.TheVariants.{Refused}
use Rattle.model.specs.declared.Offer.{Offer}
use Rattle.model.specs.declared.Packet.{Packet}
use Rattle.model.specs.Fours.{Four}
use Rattle.model.specs.Calls.{count, offer}
use Rattle.model.specs.Effects.{stepped}
use Rattle.model.specs.Gate.{number_checks, room_checks, own_checks, checks}
use Rattle.checks.specs.declared.Request.{Request}
use Rattle.checks.specs.declared.Request.TheVariants.{Count, Offered, Poll}
use Rattle.checks.specs.Checks.{call_of, clock_number}
use Rattle.checks.proofs.Entry.{entered, Passed, by_number, passed}
use Rattle.checks.proofs.Offering.{own_first, then_rest}
use Rattle.waiting.specs.Layout.{waiting_in}
use Rattle.gate.specs.declared.Head.{Head}
use Rattle.gate.specs.declared.State.{State}
use Rattle.gate.specs.declared.Outcome.{Outcome}
use Rattle.gate.specs.Layout.{rows_in, view_of, sound_state, outcome, call_on}
use Rattle.gate.specs.Steps.{live_of, offer_checks, request_checks, refusals}
use Rattle.gate.proofs.Views.{engine, said}

-- an offer is refused for its own numbers, or else for its room
module _ (h : Head) (q : Four Packet) (o : Offer) (time : ℕ) where
  abbrev for_room : List Check
  for_room = room_checks h.oldway (live_of q o.priority time) h.counts.accepted

  pub by_own : (n : ℕ) → n ≡ first_of (number_checks h.profile o) → (n ≡ 0 → ⊥) → n ≡ first_of (offer_checks h q o time)
  by_own n e k = sym (own_first h.profile o for_room n (sym e) k)

  pub by_room : (n : ℕ) → 0 ≡ first_of (number_checks h.profile o) → n ≡ first_of for_room
      → n ≡ first_of (offer_checks h q o time)
  by_room n e k = k ∙ sym (then_rest h.profile o for_room (sym e))

-- a request is refused by the clock, or else by its own checks
module _ (h : Head) (q : Four Packet) (r : Request) (stamp n : ℕ) where
  pub by_clock : n ≡ clock_number h.clock stamp → (n ≡ 0 → ⊥) → n ≡ first_of (refusals h q r stamp)
  unfolding clock_number first_of
  by_clock e k =
      split (goes_back (step_of stamp h.clock.stamp))
      (λ f. rw f (rw f at e))
      (λ f. split (passes_end (stepped h.clock stamp).time)
      (λ g. rw (f, g) (rw (f, g) at e))
      (λ g. absurd (k (rw (f, g) at e))))

  pub by_request : (r' : Request) (clock : Clock) → 0 ≡ clock_number h.clock stamp → clock ≡ stepped h.clock stamp → r ≡ r'
      → n ≡ first_of (request_checks h q r' clock.time) → n ≡ first_of (refusals h q r stamp)
  unfolding first_of
  by_request r' clock e f g k =
      let u = entered true h.clock stamp refl (sym e) in
      k
      ∙ ap (λ (c : Clock). first_of (request_checks h q r' c.time)) f
      ∙ ap (λ (x : Request). first_of (request_checks h q x (stepped h.clock stamp).time)) (sym g)
      ∙ sym (rw (u.forward, u.not_past))

-- what refuses a request is what refuses its call on a sound state
same_number : (s : State) (r : Request) (stamp : ℕ) → sound_state s ≡ true
    → first_of (refusals s.head (waiting_in (rows_in s)) r stamp) ≡ first_of (checks (view_of s) (call_of r stamp))
unfolding checks
same_number s (Count busy probes) stamp e = rw (said s e)
same_number s (Offered o) stamp e = rw (said s e)
same_number s Poll stamp e = rw (said s e)

module _ (s : State) (r : Request) (stamp : ℕ) (e : sound_state s ≡ true) where
  pub refused : (n : ℕ) → n ≡ first_of (refusals s.head (waiting_in (rows_in s)) r stamp) → (n ≡ 0 → ⊥)
      → outcome s (Refused n) ≡ call_on s (call_of r stamp)
  unfolding call_on sound_state
  refused n f h = by_number engine s (call_of r stamp) n e (sym (f ∙ same_number s r stamp e)) h

  -- nothing refuses the request that a call is of
  pub enters : (r' : Request) → 0 ≡ first_of (refusals s.head (waiting_in (rows_in s)) r stamp) → r ≡ r'
      → Passed engine s (call_of r' stamp)
  unfolding sound_state
  enters r' f g =
      passed engine s (call_of r' stamp) e
      (ap (λ (x : Request). first_of (checks (view_of s) (call_of x stamp))) (sym g) ∙ sym (f ∙ same_number s r stamp e))

  pub called : {r' : Request} {o : Outcome} → r ≡ r' → o ≡ call_on s (call_of r' stamp) → o ≡ call_on s (call_of r stamp)
  called g f = f ∙ ap (λ (x : Request). call_on s (call_of x stamp)) (sym g)

pub good_count : (s : State) (stamp busy probes : ℕ) → Passed engine s (count stamp busy probes) → bad_count busy probes ≡ false
good_count s stamp busy probes e = (of_none (own_checks (view_of s) (count stamp busy probes)) (omega arith) e.1).0

pub good_priority : (s : State) (stamp : ℕ) (o : Offer) → Passed engine s (offer stamp o) → o.priority < 4
good_priority s stamp o e =
    let n = of_none (own_checks (view_of s) (offer stamp o)) (omega arith) e.1 in omega (tested, n.0)

-- neither a sample nor an offer
pub is_polled : (r : Request) → ((busy probes : ℕ) → r ≡ Count busy probes → ⊥) → ((o : Offer) → r ≡ Offered o → ⊥)
    → r ≡ Poll
is_polled (Count busy probes) e f = absurd (e busy probes refl)
is_polled (Offered o) e f = absurd (f o refl)
is_polled Poll e f = refl
