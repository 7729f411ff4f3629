-- An engine, whatever way its packets wait: its states lay the model's out and read back to them, and a call on one is the
-- model's call on what it says, laid out.
use Prim.Native.Nat.{ℕ, ◌≤◌}
use mathlib.Core.Path.{◌≡◌, ap, sym, ◌∙◌}
use mathlib.Core.Bool.{Bool, true, cond, ◌&&◌}
use Rattle.rules.specs.Clock.{end_of_time}
use Rattle.rules.specs.Profiles.{ontime_allowed}
use Rattle.rules.proofs.Cases.{both, on_cond}
use Rattle.model.specs.declared.Packet.{Packet}
use Rattle.model.specs.declared.Answer.{Answer}
use Rattle.model.specs.declared.Answer.TheVariants.{Refused}
use Rattle.model.specs.Packets.{Holding, chosen}
use Rattle.model.specs.Calls.{Call, is_refused}
use Rattle.model.specs.State.{Status, sound}
use Rattle.model.specs.Effects.{Result, stepped, refreshed}
use Rattle.model.specs.Gate.{call, CallsKeepSound}
use Rattle.model.proofs.Refusals.{refusals-change_nothing}

pub record Engine (h : Holding) : Type 1 where
  pub State : Type 0
  pub Outcome : Type 0
  pub view_of : State → Status h
  pub state_of : Status h → State
  -- "everything unused is zero": in what waits, and in the ledger
  pub packed : State → Bool
  pub kept : State → Bool
  pub outcome : State → Answer → Outcome
  -- what is sound, laid out, is tidy and reads back
  pub tidy_state : (v : Status h) → sound v ≡ true → packed (state_of v) && kept (state_of v) ≡ true
  pub view_state : (v : Status h) → sound v ≡ true → view_of (state_of v) ≡ v
  -- it stays sound from call to call, and once the expired are gone
  pub keeps : CallsKeepSound h
  pub refreshes : (v : Status h) (stamp : ℕ) → sound v ≡ true → (stepped v.clock stamp).time ≤ end_of_time
      → sound (refreshed v stamp) ≡ true
  -- the packet that may go is one that was allowed
  pub allowed : (v : Status h) (p : Packet) (left : h.Held) → sound v ≡ true → h.next v.waiting ≡ chosen p left
      → ontime_allowed v.control.profile p.ontime ≡ true

abbrev pub sound_in : {h : Holding} (e : Engine h) → e.State → Bool
sound_in e s = (e.packed s && e.kept s) && sound (e.view_of s)

abbrev pub laid : {h : Holding} (e : Engine h) → Result h → e.Outcome
laid e o = e.outcome (e.state_of o.view) o.answer

abbrev pub outcome_in : {h : Holding} (e : Engine h) → e.State → Result h → e.Outcome
outcome_in e s o = cond (is_refused o.answer) (e.outcome s o.answer) (laid e o)

abbrev pub call_in : {h : Holding} (e : Engine h) → e.State → Call → e.Outcome
call_in e s c = cond (sound_in e s) (outcome_in e s (call (e.view_of s) c)) (e.outcome s (Refused 9))

module _ {h : Holding} (e : Engine h) where
  pub sound_view : (s : e.State) → sound_in e s ≡ true → sound (e.view_of s) ≡ true
  sound_view s f = (both (e.packed s && e.kept s) (sound (e.view_of s)) f).1

  pub state_sound : (v : Status h) → sound v ≡ true → sound_in e (e.state_of v) ≡ true
  state_sound v f = rw (e.tidy_state v f, e.view_state v f) f

  -- a state laid out says what it was laid out from
  pub says : (a : e.State) (w : Status h) → a ≡ e.state_of w → sound w ≡ true → e.view_of a ≡ w
  says a w same f = ap e.view_of same ∙ e.view_state w f

  -- what holds of the given state, where nothing has changed, and of the next one laid out, holds of what a call leaves
  pub on_sound_call : (P : e.Outcome → Type 0) (s : e.State) (c : Call) → sound_in e s ≡ true
      → (e.view_of s ≡ (call (e.view_of s) c).view → P (e.outcome s (call (e.view_of s) c).answer))
      → (e.view_of (e.state_of (call (e.view_of s) c).view) ≡ (call (e.view_of s) c).view
      → sound_in e (e.state_of (call (e.view_of s) c).view) ≡ true → P (laid e (call (e.view_of s) c)))
      → P (call_in e s c)
  on_sound_call P s c f same next =
      let v = e.view_of s in
      let kept = e.keeps v c (sound_view s f) in
      rw f
      (on_cond P (is_refused (call v c).answer)
      (λ r. same (sym (refusals-change_nothing v c r)))
      (λ r. next (e.view_state (call v c).view kept) (state_sound (call v c).view kept)))
