-- A run's control goes by the loads of its accepted samples alone. So where none was above a load for long enough, no wait after
-- a packet is longer than the calm floor, whatever came before.
use Prim.Native.Nat.{ℕ, ◌≤◌}
use mathlib.Core.Path.{◌≡◌, refl, ap, sym, ◌∙◌, subst}
use mathlib.Core.Bool.{false, ◌&&◌}
use mathlib.Core.List.{List, [], ◌∷◌, ◌++◌, append_assoc}
use native.Mathlib.Omega.{arith}
use lib.Dec.{eqb}
use lib.ListN.{length-append}
use borrow.Author.Tests.{eqb-true, eq-eqb}
use Rattle.rules.specs.Refusals.{first_of}
use Rattle.rules.proofs.Cases.{on_cond, clash}
use Rattle.rules.proofs.Tests.{tested}
use Rattle.rules.proofs.Refusals.{of_none}
use Rattle.machine.specs.Levels.{bad_list}
use Rattle.control.specs.Control.{Control, list_kept}
use Rattle.control.specs.Wait.{closed_after}
use Rattle.control.proofs.Controls.{control_test}
use Rattle.model.specs.declared.Packet.{Packet}
use Rattle.model.specs.declared.Answer.{Answer}
use Rattle.model.specs.declared.Answer.TheVariants.{Ready}
use Rattle.model.specs.Packets.{Chosen, nothing, chosen}
use Rattle.model.specs.Queues.{in_queues}
use Rattle.model.specs.Fours.{Four}
use Rattle.model.specs.Calls.{Call, words, count, offer, poll, Making}
use Rattle.model.specs.State.{View}
use Rattle.model.specs.Effects.{Result, refreshed, is_full, may_send, polled, effect}
use Rattle.model.specs.Gate.{make_checks, make_in, make, call}
use Rattle.model.specs.Journal.{opened}
use Rattle.model.specs.Claims.{All, view_after, events}
use Rattle.model.proofs.Refusals.{on_call}
use Rattle.model.proofs.Sound.{test_view}
use Rattle.model.proofs.Runs.{runs_are_their_parts}
use Rattle.label.specs.Trailer.{Run, view_at_end, by_model, onward}
use Rattle.label.specs.Calm.{accepted_load, loads_in, loads_since, NoneLonger, Calm, settled, ended, floor_of}
use Rattle.label.proofs.Restarts.{in_run}
use Rattle.label.proofs.Settling.{sampled_all, sampled-append, sampled-all_levels, closes}

-- a call leaves the control as it was, or sampled
abbrev Follows : View → Call → Result in_queues → Type 0
Follows v c o = o.view.control ≡ sampled_all v.control (accepted_load c o.answer)

polled_follows : (v w : View) (stamp : ℕ) (q : Chosen (Four Packet)) → w.control ≡ v.control
    → Follows v (poll stamp) (polled w q)
unfolding sampled_all
polled_follows v w stamp nothing e = e
polled_follows v w stamp (chosen p left) e = on_cond (Follows v (poll stamp)) (may_send w p) (λ u. e) (λ u. e)

effect_follows : (v : View) (c : Call) → Follows v c (effect v c)
unfolding effect sampled_all
effect_follows v (words stamp probes ws) = refl
effect_follows v (count stamp busy probes) = refl
effect_follows v (offer stamp o) =
    on_cond (λ (w : View). w.control ≡ v.control) (is_full (refreshed v stamp) o.priority) (λ e. refl) (λ e. refl)
effect_follows v (poll stamp) = polled_follows v (refreshed v stamp) stamp (in_queues.next (refreshed v stamp).waiting) refl

call_follows : (v : View) (c : Call) → Follows v c (call v c)
unfolding sampled_all
call_follows v c = on_call (Follows v c) v c (λ n. effect_follows v c) (λ n. refl)

follows : (v : View) (calls : List Call) → (view_after v calls).control ≡ sampled_all v.control (loads_in (events v calls))
unfolding view_after events loads_in sampled_all
follows v [] = refl
follows v (c ∷ calls) =
    follows (call v c).view calls
    ∙ ap (λ (k : Control). sampled_all k (loads_in (events (call v c).view calls))) (call_follows v c)
    ∙ sampled-append v.control (accepted_load c (call v c).answer) (loads_in (events (call v c).view calls))

-- of a run that goes on
control_onward : (r : Run) (calls : List Call)
    → (view_at_end (onward r calls)).control ≡ sampled_all (view_at_end r).control (loads_since by_model r calls)
control_onward r calls =
    let e = (runs_are_their_parts (make r.making).view (opened r.making.stamp) r.calls calls).0 in
    ap (λ (w : View). w.control) e ∙ follows (view_at_end r) calls

-- make keeps the list of profile 5, a good one
abbrev Made : Making → Result in_queues → Type 0
Made m o =
    (o.view.control.levels ≡ list_kept m.profile m.list) × (eqb m.profile 5 && bad_list m.list ≡ false)

made : (m : Making) → (make m).answer ≡ Ready → Made m (make m)
unfolding make_in
made m =
    on_cond (λ (o : Result in_queues). o.answer ≡ Ready → Made m o) (eqb (first_of (make_checks m)) 0)
    (λ e r. (refl, (of_none (make_checks m) (omega tested) (eqb-true _ _ e)).1.1.0))
    (λ e r. clash (cc))

made_good : (m : Making) → (make m).answer ≡ Ready → m.profile ≡ 5 → bad_list m.list ≡ false
made_good m ready e = let g = (made m ready).1 in rw (eq-eqb m.profile 5 e) at g

levels_kept : (r : Run) → (view_at_end r).control.levels ≡ list_kept r.making.profile r.making.list
levels_kept r =
    ap (λ (k : Control). k.levels) (follows (make r.making).view r.calls)
    ∙ sampled-all_levels _ _
    ∙ (made r.making r.ready).0

-- P of each of two lists, and of the first
pub all_both : {A : Type 0} (P : A → Type 0) (xs ys : List A) → All P xs → All P ys → All P (xs ++ ys)
all_both P [] ys h g = g
all_both P (x ∷ xs) ys h g = (h.0, all_both P xs ys h.1 g)

pub all_first : {A : Type 0} (P : A → Type 0) (xs ys : List A) → All P (xs ++ ys) → All P xs
all_first P [] ys h = tt
all_first P (x ∷ xs) ys h = (h.0, all_first P xs ys h.1)

-- a calm run's waits are no longer than its calm floor
pub calm_closes : {load samples ontime : ℕ} (c : Calm by_model load samples ontime) (o : ℕ) → o ≤ ontime
    → closed_after (view_at_end (ended c)).control o ≤ floor_of c
calm_closes {load} {samples} {ontime} c o g =
    let r = c.before in
    let i = in_run r in
    let xs = loads_since by_model r c.settling in
    let ys = loads_since by_model (settled c) c.during in
    subst (λ (k : Control). closed_after k o ≤ floor_of c)
    (sym
    (control_onward (settled c) c.during
    ∙ ap (λ (k : Control). sampled_all k ys) (control_onward r c.settling)
    ∙ sampled-append _ xs ys))
    (closes r.making load samples ontime c.a_load c.settles (view_at_end r).control
    (control_test _ (test_view _ i.sounds).control) i.same (levels_kept r) (made_good r.making r.ready) (xs ++ ys)
    (all_both _ xs ys c.none_above c.stays) (omega (arith, length-append xs ys, c.enough)) o g)

-- Each first part of its calls leaves it calm.

pub events-append : (v : View) (ds es : List Call) → events v (ds ++ es) ≡ events v ds ++ events (view_after v ds) es
unfolding view_after events
events-append v [] es = refl
events-append v (d ∷ ds) es =
    ap (λ (k : List (Call × Answer)). (d, (call v d).answer) ∷ k) (events-append (call v d).view ds es)

pub loads-append : (xs ys : List (Call × Answer)) → loads_in (xs ++ ys) ≡ loads_in xs ++ loads_in ys
unfolding loads_in
loads-append [] ys = refl
loads-append (x ∷ xs) ys =
    ap (λ (k : List ℕ). accepted_load x.0 x.1 ++ k) (loads-append xs ys)
    ∙ sym (append_assoc (accepted_load x.0 x.1) (loads_in xs) (loads_in ys))

unfoldable pub part : {load samples ontime : ℕ} (c : Calm by_model load samples ontime) (ds es : List Call) → c.during ≡ ds ++ es
    → Calm by_model load samples ontime
part {load} {samples} {ontime} c ds es e =
    let r = settled c in
    let later = events (view_after (view_at_end r) ds) es in
    let stays = rw (e, events-append (view_at_end r) ds es, loads-append (by_model.since r ds) later) at c.stays in
    let longer =
    subst (λ (ks : List Call). NoneLonger ontime (events (make r.making).view ks))
    (ap (λ (ks : List Call). r.calls ++ ks) e ∙ sym (append_assoc r.calls ds es)) c.none_longer in
    record {
      before = c.before;
      settling = c.settling;
      during = ds;
      a_load = c.a_load;
      an_ontime = c.an_ontime;
      settles = c.settles;
      enough = c.enough;
      none_above = c.none_above;
      stays = all_first _ (loads_since by_model r ds) _ stays;
      none_longer =
          all_first _ (by_model.all (onward r ds)) _
          (subst (NoneLonger ontime) (events-append (make r.making).view (r.calls ++ ds) es) longer);
    }
