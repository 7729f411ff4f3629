-- What a poll of the plain engine finds in a state laid out: nothing, or the packet picked.
use Rattle.std.proofs.Common.{◌≡◌, ℕ, List, [], ◌∷◌, length, refl, sym, ◌∙◌, arith}
use mathlib.Core.Path.{subst⁻¹}
use Rattle.model.specs.declared.Packet.{Packet}
use Rattle.model.specs.Packets.{nothing, chosen}
use Rattle.model.specs.Calls.{poll}
use Rattle.model.specs.Effects.{refreshed, polled}
use Rattle.checks.proofs.Engine.{laid}
use Rattle.checks.proofs.Entry.{refreshed-sound}
use Rattle.checks.proofs.Polling.{is_call}
use Rattle.line.specs.declared.Line.{Line}
use Rattle.line.specs.Line.{goes_next, without, picked}
use Rattle.line.specs.Layout.{items, Packed}
use Rattle.line.proofs.Packing.{packed-length}
use Rattle.line.proofs.Steps.{picks}
use Rattle.plain.specs.declared.State.{State}
use Rattle.plain.specs.Layout.{view_of, state_of, sound_state, Given, call_on, entry_number}
use Rattle.plain.proofs.Views.{engine, given_of, known}
use Rattle.plain.proofs.Entry.{entered}

none : (ps : List Packet) → length ps ≡ 0 → picked ps ≡ nothing
unfolding picked
none [] z = refl
none (p ∷ ps) z = absurd (omega arith)

module _ (l : Line) (t : Packed l) where
  picks_none : l.len ≡ 0 → picked (items l) ≡ nothing
  picks_none z = none (items l) (sym (packed-length l t) ∙ z)

  picks_at : (p : Packet) → (l.len ≡ 0 → ⊥) → p ≡ goes_next (items l)
      → picked (items l) ≡ chosen p (without p.priority (items l))
  picks_at p h f =
      subst⁻¹ (λ (q : Packet). picked (items l) ≡ chosen q (without q.priority (items l))) f
      (picks (items l) (omega (arith, h, packed-length l t)))

-- a poll that the checks of every call pass, on the state with its clock moved and its expired gone
module _ (s t : State) (stamp : ℕ) (z : 0 ≡ entry_number s stamp) (e : t ≡ state_of (refreshed (view_of s) stamp)) where
  pub still_given : Given t
  unfolding sound_state
  still_given = given_of _ _ e (refreshed-sound engine s stamp (entered s stamp (sym z)))

  pub is_polled : laid engine (polled (view_of t) (picked (items t.line))) ≡ call_on s (poll stamp)
  unfolding sound_state call_on
  is_polled = is_call engine s t stamp (entered s stamp (sym z)) e

  pub idle : t.line.len ≡ 0 → picked (items t.line) ≡ nothing
  idle = picks_none t.line (known t still_given).tight

  pub found : (p : Packet) → (t.line.len ≡ 0 → ⊥) → p ≡ goes_next (items t.line)
      → picked (items t.line) ≡ chosen p (without p.priority (items t.line))
  found = picks_at t.line (known t still_given).tight
