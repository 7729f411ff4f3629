-- A packet is sent only where the gate isn't closed, and no wait is shorter than its profile's shortest. So from each admission
-- to the next there is at least the shortest wait, from where it starts.
use Prim.Native.Nat.{ℕ, ◌+◌, ◌*◌, ◌≤◌, ◌<◌}
use mathlib.Core.Path.{◌≡◌, refl, ap, sym, subst}
use mathlib.Core.Bool.{true, false, not}
use mathlib.Core.List.{List, [], ◌∷◌}
use lib.Dec.{leb, ltb}
use lib.ListN.{take}
use borrow.Author.Tests.{not-true, leb-true, ltb-true}
use Rattle.rules.specs.declared.Limits.{Limits}
use Rattle.rules.specs.Profiles.{limits_of, most_ontime}
use Rattle.rules.specs.Wait.{start_of}
use Rattle.rules.specs.Samples.{busy_of, load_of}
use Rattle.rules.specs.Refusals.{NoneHolds}
use Rattle.rules.proofs.Cases.{on_cond, both}
use Rattle.rules.proofs.Tests.{tested}
use Rattle.rules.proofs.Profiles.{allowed, on_limits}
use Rattle.control.specs.Owed.{least_gap}
use Rattle.control.proofs.Owed.{within_limits}
use Rattle.control.proofs.Controls.{control_test, sampled_profile}
use Rattle.model.specs.declared.Admission.{Admission}
use Rattle.model.specs.Calls.{Call, words, count, offer, poll, Making}
use Rattle.model.specs.State.{View}
use Rattle.model.specs.Queues.{in_queues}
use Rattle.model.specs.Effects.{Result, refreshed, is_full, closed, may_send, polled, effect}
use Rattle.model.specs.Ledger.{air_allows}
use Rattle.model.specs.Gate.{checks, make, call}
use Rattle.model.specs.Fours.{column}
use Rattle.model.specs.Journal.{Entry, Journal, opened, lowest, top, sent_of, at_poll, fed, journal_of}
use Rattle.model.specs.Claims.{view_after, events, Newest}
use Rattle.model.proofs.Columns.{choice_by}
use Rattle.model.proofs.Refusals.{on_call}
use Rattle.model.proofs.Displacing.{room_admissions}
use Rattle.model.proofs.Sound.{SoundView, test_view, refreshed-sound, chosen_queued, passed_time}
use Rattle.model.proofs.Invariant.{Tied, refreshed_tied, chosen_lowest}
use Rattle.model.proofs.Runs.{InRun, run_on, run_begins}
use Rattle.label.specs.Trailer.{Run, journal}
use Rattle.label.specs.Restarts.{silence}
use Rattle.label.specs.Most.{stride}
use Rattle.label.proofs.Rows.{Chain, SoFar}
use Rattle.label.proofs.Restarts.{in_run}

-- what holds of each profile's limits
pub record Fit (l : Limits) : Type 0 where
  pub some : 0 < l.leastwait
  pub soon : stride l ≤ silence
  pub short : l.ontime ≤ least_gap

fit_by : (l : Limits) → ltb 0 l.leastwait ≡ true → leb (stride l) silence ≡ true → leb l.ontime least_gap ≡ true → Fit l
fit_by l a b c = record { some = ltb-true _ _ a; soon = leb-true _ _ b; short = leb-true _ _ c }

pub fit : (profile : ℕ) → Fit (limits_of profile)
fit profile =
    on_limits Fit profile (fit_by _ refl refl refl) (fit_by _ refl refl refl) (fit_by _ refl refl refl)
    (fit_by _ refl refl refl) (fit_by _ refl refl refl)

module _ (profile : ℕ) where
  abbrev pub Waits : Admission → ℕ → Type 0
  Waits a next = a.at + ((limits_of profile).fromend * a.ontime + (limits_of profile).leastwait) ≤ next

  abbrev pub Allows : Admission → Type 0
  Allows a = a.ontime ≤ (limits_of profile).ontime

  abbrev pub Paced : List Admission → Type 0
  Paced l = SoFar Waits Allows l

-- the gate is open: the newest has had its wait
open_paced : (v : View) (l : List Admission) → SoundView v → Newest v.last l → Paced v.control.profile l
    → closed v ≡ false → Chain (Waits v.control.profile) (Allows v.control.profile) v.clock.time l
unfolding closed start_of
open_paced v [] h n s e = tt
open_paced v (a ∷ l) h n s e =
    let waited = rw n.0 at e in
    let least = (within_limits v.control v.last.ontime (control_test v.control h.control)).0 in
    let same : (limits_of v.control.profile).fromend * v.last.ontime ≡ (limits_of v.control.profile).fromend * a.ontime =
    ap (λ (d : ℕ). (limits_of v.control.profile).fromend * d) n.2 in
    (omega (tested, n.1, h.last.past), s.0, s.1)

-- a call that sends nothing leaves the admissions as they are
abbrev Keeps : Journal → Call → Result in_queues → Type 0
Keeps j c o = Paced o.view.control.profile (fed j c o.answer).admissions

module _ (v : View) (j : Journal) (i : Tied v j) (h : SoundView v) (s : Paced v.control.profile j.admissions) where
  sent_paced : (l : Entry) (ls : List Entry) → column (lowest j.columns) j.columns ≡ l ∷ ls
      → may_send v l.packet ≡ true → Paced v.control.profile (sent_of j (top j.columns)).admissions
  unfolding most_ontime
  sent_paced l ls e ready =
      let chosen = rw (chosen_lowest v j i, e) at (chosen_queued v h) in
      let is_open = not-true (closed v) (both (not (closed v)) (air_allows l.packet.ontime v.ledger) ready).0 in
      subst (λ (c : List Entry). Paced v.control.profile (sent_of j (take 1 c)).admissions) (sym e) (
        (allowed v.control.profile l.packet.ontime chosen.2.order.0.ontime).1,
        subst (λ (t : ℕ). Chain (Waits v.control.profile) (Allows v.control.profile) t j.admissions) i.time
            (open_paced v j.admissions h i.newest s is_open),
      )

polled_paced : (v : View) (j : Journal) (stamp : ℕ) (ls : List Entry) → Tied (refreshed v stamp) (at_poll j stamp)
    → SoundView (refreshed v stamp) → column (lowest (at_poll j stamp).columns) (at_poll j stamp).columns ≡ ls
    → Paced v.control.profile j.admissions
    → Keeps j (poll stamp) (polled (refreshed v stamp) (choice_by (at_poll j stamp).columns ls))
polled_paced v j stamp [] i h e s = s
polled_paced v j stamp (l ∷ ls) i h e s =
    on_cond (Keeps j (poll stamp)) (may_send (refreshed v stamp) l.packet)
    (λ u. sent_paced (refreshed v stamp) (at_poll j stamp) i h s l ls e u) (λ u. s)

effect_paced : (v : View) (j : Journal) (c : Call) → SoundView v → Tied v j → Paced v.control.profile j.admissions
    → NoneHolds (checks v c) → Keeps j c (effect v c)
unfolding effect
effect_paced v j (words stamp probes ws) h i s n =
    subst (λ (p : ℕ). Paced p j.admissions) (sym (sampled_profile v.control (load_of (busy_of ws probes) probes))) s
effect_paced v j (count stamp busy probes) h i s n =
    subst (λ (p : ℕ). Paced p j.admissions) (sym (sampled_profile v.control (load_of busy probes))) s
effect_paced v j (offer stamp o) h i s n =
    rw (room_admissions (at_poll j stamp) o.priority)
    (on_cond (λ (w : View). Paced w.control.profile j.admissions) (is_full (refreshed v stamp) o.priority)
    (λ u. s) (λ u. s))
effect_paced v j (poll stamp) h i s n =
    let w = refreshed_tied v j stamp i in
    rw (chosen_lowest (refreshed v stamp) (at_poll j stamp) w)
    (polled_paced v j stamp _ w (refreshed-sound v stamp (passed_time v (poll stamp) n) h) refl s)

call_paced : (v : View) (j : Journal) (c : Call) → SoundView v → Tied v j → Paced v.control.profile j.admissions
    → Keeps j c (call v c)
call_paced v j c h i s = on_call (Keeps j c) v c (effect_paced v j c h i s) (λ n. s)

run_paced : (m : Making) (v : View) (j : Journal) (calls : List Call) → InRun m v j → Paced v.control.profile j.admissions
    → Paced (view_after v calls).control.profile (journal_of j (events v calls)).admissions
unfolding view_after events journal_of
run_paced m v j [] r s = s
run_paced m v j (c ∷ calls) r s =
    run_paced m (call v c).view (fed j c (call v c).answer) calls (run_on m v j (c ∷ []) r)
    (call_paced v j c (test_view v r.sounds) r.tied s)

pub paced : (r : Run) → Paced r.making.profile (journal r).admissions
paced r =
    subst (λ (p : ℕ). Paced p (journal r).admissions) (in_run r).same
    (run_paced r.making (make r.making).view (opened r.making.stamp) r.calls (run_begins r.making r.ready) tt)
