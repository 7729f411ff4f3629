-- The wait with the table is that with the formula where the latest load is one, as in every sound control. A poll that is not
-- refused meets a sound state, and asks for that wait alone; a refused one asks for none. So calls are alike, and call by call
-- the runs.
use Prim.Native.Nat.{ℕ, ◌+◌, ◌-◌, max}
use mathlib.Core.Path.{◌≡◌, refl, ap}
use mathlib.Core.Bool.{true, cond, not, ◌&&◌}
use mathlib.Core.List.{List, [], ◌∷◌}
use lib.Dec.{ltb, eqb}
use borrow.Author.Tests.{not-false, eqb-true}
use Rattle.rules.specs.Refusals.{first_of}
use Rattle.rules.specs.Wait.{start_of}
use Rattle.rules.proofs.Cases.{split}
use Rattle.rules.proofs.Refusals.{of_none}
use Rattle.rules.proofs.Tests.{all_true}
use Rattle.rules.proofs.Tabled.{waits_alike}
use Rattle.control.specs.Control.{Control, sound_control}
use Rattle.control.specs.Wait.{wait_of, wait_with}
use Rattle.control.proofs.Controls.{test_control, steerable}
use Rattle.model.specs.declared.Packet.{Packet}
use Rattle.model.specs.declared.Answer.{Answer}
use Rattle.model.specs.declared.Answer.TheVariants.{Sent, Closed}
use Rattle.model.specs.Packets.{Chosen, nothing, chosen, Holding}
use Rattle.model.specs.Calls.{Call, words, count, offer, poll}
use Rattle.model.specs.Ledger.{air_allows}
use Rattle.model.specs.State.{Status, status_rules, sound}
use Rattle.model.specs.Effects.{Result, result, refreshed, since_last, closed, air_left, admits, polled, effect}
use Rattle.model.specs.Gate.{checks, call}
use Rattle.model.specs.Claims.{view_after, events}
use Rattle.model.specs.Tabled.{tabled_wait_of, tabled_closed, tabled_polled, tabled_call, tabled_after, tabled_events}
use Rattle.model.specs.Tabled.{GatesAlike}
use Rattle.model.proofs.Refusals.{checks_numbered}

waits : (k : Control) (ontime : ℕ) → sound_control k ≡ true → tabled_wait_of k ontime ≡ wait_of k ontime
unfolding tabled_wait_of wait_with
waits k ontime s =
    split (eqb k.profile 4)
    (λ e. simp (eqb-true k.profile 4 e) (waits_alike ontime k.tuning.latest
    (steerable k.profile k.levels.len k.tuning (test_control k s).tuning).latest))
    (λ e. rw e)

-- a poll by how long the gate is closed
abbrev poll_by : {h : Holding} (v : Status h) (p : Packet) (left : h.Held) (wait : ℕ) → Result h
poll_by v p left wait =
    let for = start_of v.control.profile v.last.ontime + wait in
    let shut = eqb v.last.admitted 1 && ltb (since_last v) for in
    cond (not shut && air_allows p.ontime v.ledger) (result (admits v p left) (Sent p))
    (result v (Closed (max (cond shut (for - since_last v) 0) (air_left v p))))

polls : {h : Holding} (v : Status h) (c : Chosen h.Held) → sound_control v.control ≡ true → tabled_polled v c ≡ polled v c
unfolding tabled_polled tabled_closed closed
polls v nothing s = refl
polls v (chosen p left) s = ap (poll_by v p left) (waits v.control v.last.ontime s)

-- a state that a call is not refused on is sound, and so is its control
control_sound : {h : Holding} (v : Status h) (c : Call) → first_of (checks v c) ≡ 0 → sound_control v.control ≡ true
unfolding checks sound
control_sound v c e =
    let n = of_none (checks v c) (checks_numbered v c) e in
    (all_true (status_rules v) (not-false (sound v) n.0)).1.1.0

calls : {h : Holding} (v : Status h) (c : Call) → tabled_call v c ≡ call v c
unfolding tabled_call call effect
calls v (words stamp probes ws) = refl
calls v (count stamp busy probes) = refl
calls v (offer stamp o) = refl
calls {h} v (poll stamp) =
    split (eqb (first_of (checks v (poll stamp))) 0)
    (λ e. rw e
    (polls (refreshed v stamp) (h.next (refreshed v stamp).waiting) (control_sound v (poll stamp) (eqb-true _ _ e))))
    (λ e. rw e)

runs : {h : Holding} (v : Status h) (cs : List Call) → (tabled_after v cs ≡ view_after v cs) × (tabled_events v cs ≡ events v cs)
unfolding tabled_after view_after tabled_events events
runs v [] = (refl, refl)
runs v (c ∷ cs) =
    let e = calls v c in
    let r = runs (call v c).view cs in (
      rw e r.0,
      rw e (ap (λ (l : List (Call × Answer)). (c, (call v c).answer) ∷ l) r.1),
    )

pub gates_alike : GatesAlike
gates_alike = record { waits = waits; calls = calls; runs = runs }
