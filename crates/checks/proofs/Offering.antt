-- A sample and an offer that are not refused: the state that the code gives is the effect's, laid out. An offer's own numbers
-- come before its room.
use Prim.Native.Nat.{ℕ, ◌≤◌}
use mathlib.Core.Path.{◌≡◌, ap, ap₂, ◌∙◌}
use mathlib.Core.Bool.{false}
use mathlib.Core.List.{List, ◌++◌}
use native.Mathlib.Omega.{arith}
use borrow.Author.Tests.{ne_eqb}
use Rattle.rules.specs.Profiles.{last_priority}
use Rattle.rules.specs.Samples.{bad_count}
use Rattle.rules.specs.Refusals.{Check, first_of}
use Rattle.rules.proofs.Refusals.{Numbered, first_append, of_none}
use Rattle.rules.proofs.Tests.{tested}
use Rattle.model.specs.declared.Packet.{Packet}
use Rattle.model.specs.declared.Offer.{Offer}
use Rattle.model.specs.declared.Answer.TheVariants.{Taken}
use Rattle.model.specs.Packets.{Holding, packet_of}
use Rattle.model.specs.Calls.{count, offer}
use Rattle.model.specs.State.{Status}
use Rattle.model.specs.Effects.{sampled_by, refreshed, room_made, joined, effect}
use Rattle.model.specs.Gate.{number_checks, own_checks}
use Rattle.checks.specs.Checks.{Entered}
use Rattle.checks.proofs.Engine.{Engine, sound_in, call_in, says}
use Rattle.checks.proofs.Entry.{refreshed-sound, accepted}

-- an offer's own numbers, then the rest of its checks
numbers_numbered : (profile : ℕ) (o : Offer) → Numbered (number_checks profile o)
numbers_numbered profile o = omega arith

module _ (profile : ℕ) (o : Offer) (rest : List Check) where
  pub own_first : (n : ℕ) → first_of (number_checks profile o) ≡ n → (n ≡ 0 → ⊥) → first_of (number_checks profile o ++ rest) ≡ n
  own_first n e k = first_append (number_checks profile o) rest (numbers_numbered profile o) ∙ rw (e, ne_eqb n 0 k)

  pub then_rest : first_of (number_checks profile o) ≡ 0 → first_of (number_checks profile o ++ rest) ≡ first_of rest
  then_rest e = first_append (number_checks profile o) rest (numbers_numbered profile o) ∙ rw e

pub offer_priority : (profile : ℕ) (o : Offer) → first_of (number_checks profile o) ≡ 0 → o.priority ≤ last_priority
offer_priority profile o e =
    let n = of_none (number_checks profile o) (numbers_numbered profile o) e in omega (tested, n.0)

module _ {h : Holding} (e : Engine h) (s : e.State) (stamp : ℕ) (n : Entered (sound_in e s) (e.view_of s).clock stamp) where
  pub sample_taken : (busy probes : ℕ) (r : e.State) → bad_count busy probes ≡ false
      → r ≡ e.state_of (sampled_by (e.view_of s) stamp busy probes) → e.outcome r Taken ≡ call_in e s (count stamp busy probes)
  unfolding first_of effect
  sample_taken busy probes r good f =
      ap (λ (x : e.State). e.outcome x Taken) f ∙ accepted e s (count stamp busy probes) n (rw good)

  pub offer_taken : (o : Offer) (a r : e.State) (p : Packet) → first_of (own_checks (e.view_of s) (offer stamp o)) ≡ 0
      → a ≡ e.state_of (refreshed (e.view_of s) stamp) → p ≡ packet_of o (e.view_of a).clock.time
      → r ≡ e.state_of (joined (room_made (e.view_of a) p.priority) p) → e.outcome r Taken ≡ call_in e s (offer stamp o)
  unfolding effect
  offer_taken o a r p none same f g =
      let w = refreshed (e.view_of s) stamp in
      let view = says e a w same (refreshed-sound e s stamp n) in
      let packet : p ≡ packet_of o w.clock.time = f ∙ ap (λ (v : Status h). packet_of o v.clock.time) view in
      ap (λ (x : e.State). e.outcome x Taken)
      (g ∙ ap₂ (λ (v : Status h) (x : Packet). e.state_of (joined (room_made v x.priority) x)) view packet)
      ∙ accepted e s (offer stamp o) n none
