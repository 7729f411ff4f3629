-- Where no packet that was taken is longer than an on-time, none that waits is, and none that was admitted. And no packet of a
-- run is longer than its profile allows.
use Prim.Native.Nat.{ℕ, zero, suc, ◌≤◌}
use mathlib.Core.Path.{◌≡◌, refl, subst}
use mathlib.Core.Bool.{Bool, false}
use mathlib.Core.List.{List, [], ◌∷◌}
use lib.ListN.{take, drop}
use native.Mathlib.Omega.{arith}
use borrow.Author.Tests.{not-false}
use Rattle.rules.specs.Profiles.{most_ontime}
use Rattle.rules.specs.Refusals.{NoneHolds}
use Rattle.rules.proofs.Cases.{on_cond, clash}
use Rattle.rules.proofs.Profiles.{allowed}
use Rattle.model.specs.declared.Offer.{Offer}
use Rattle.model.specs.declared.Admission.{Admission}
use Rattle.model.specs.declared.Answer.{Answer}
use Rattle.model.specs.Fours.{Four, column, change}
use Rattle.model.specs.Calls.{Call, words, count, offer, poll, is_sent, is_refused}
use Rattle.model.specs.Queues.{in_queues}
use Rattle.model.specs.State.{View}
use Rattle.model.specs.Effects.{Result}
use Rattle.model.specs.Gate.{checks, make, call}
use Rattle.model.specs.Journal.{Entry, Journal, opened, picked, at_foot, lowest, sent_of}
use Rattle.model.specs.Journal.{at_poll, at_offer, recorded, fed, journal_of}
use Rattle.model.specs.Claims.{All, events}
use Rattle.model.proofs.Refusals.{on_call}
use Rattle.model.proofs.Profile.{call_profile}
use Rattle.model.proofs.Runs.{run_begins}
use Rattle.model.proofs.Displacing.{on_room}
use Rattle.label.specs.Trailer.{Run, by_model, journal}
use Rattle.label.specs.Calm.{ontime_in, NoneLonger, NeverLonger}

module _ (ontime : ℕ) where
  abbrev Slim : Entry → Type 0
  Slim l = l.packet.ontime ≤ ontime

  -- in each column
  abbrev pub AllSlim : Four Entry → Type 0
  AllSlim q = All Slim q.c0 × All Slim q.c1 × All Slim q.c2 × All Slim q.c3

  pub column_slim : (n : ℕ) (q : Four Entry) → AllSlim q → All Slim (column n q)
  column_slim zero q h = h.0
  column_slim (suc zero) q h = h.1
  column_slim (suc (suc zero)) q h = h.2
  column_slim (suc (suc (suc n))) q h = h.3

  change_slim : (n : ℕ) (f : List Entry → List Entry) (q : Four Entry) → ((ls : List Entry) → All Slim ls → All Slim (f ls))
      → AllSlim q → AllSlim (change n f q)
  change_slim zero f q g h = (g q.c0 h.0, h.1, h.2, h.3)
  change_slim (suc zero) f q g h = (h.0, g q.c1 h.1, h.2, h.3)
  change_slim (suc (suc zero)) f q g h = (h.0, h.1, g q.c2 h.2, h.3)
  change_slim (suc (suc (suc n))) f q g h = (h.0, h.1, h.2, g q.c3 h.3)

  picked_slim : (test : Entry → Bool) (ls : List Entry) → All Slim ls → All Slim (picked test ls)
  unfolding picked
  picked_slim test [] h = tt
  picked_slim test (l ∷ ls) h =
      on_cond (All Slim) (test l) (λ e. (h.0, picked_slim test ls h.1)) (λ e. picked_slim test ls h.1)

  drop_slim : (ls : List Entry) → All Slim ls → All Slim (drop 1 ls)
  drop_slim [] h = tt
  drop_slim (l ∷ ls) h = h.1

  foot_slim : (l : Entry) → Slim l → (ls : List Entry) → All Slim ls → All Slim (at_foot l ls)
  foot_slim l g [] h = (g, tt)
  foot_slim l g (x ∷ ls) h = (h.0, foot_slim l g ls h.1)

  pub record Shorter (j : Journal) : Type 0 where
    pub waiting : AllSlim j.columns
    pub admitted : All (λ (a : Admission). a.ontime ≤ ontime) j.admissions

  pub poll_shorter : (j : Journal) (stamp : ℕ) → Shorter j → Shorter (at_poll j stamp)
  poll_shorter j stamp h =
      let w = h.waiting in
      record {
        waiting = (picked_slim _ _ w.0, picked_slim _ _ w.1, picked_slim _ _ w.2, picked_slim _ _ w.3);
        admitted = h.admitted;
      }

  offer_shorter : (j : Journal) (stamp : ℕ) (o : Offer) → Shorter j → Shorter (at_offer j stamp o)
  offer_shorter j stamp o h =
      let p = poll_shorter j stamp h in
      on_room Shorter (at_poll j stamp) o.priority p
      (λ l ls e. record { waiting = change_slim o.priority (drop 1) _ drop_slim p.waiting; admitted = p.admitted })

  -- the packet that goes is one of those that wait
  sent_shorter : (j : Journal) (ls : List Entry) → column (lowest j.columns) j.columns ≡ ls → Shorter j
      → Shorter (sent_of j (take 1 ls))
  sent_shorter j [] e h = h
  sent_shorter j (l ∷ ls) e h =
      let c = rw e at (column_slim (lowest j.columns) j.columns h.waiting) in
      record {
        waiting = change_slim (lowest j.columns) (drop 1) _ drop_slim h.waiting;
        admitted = (c.0, h.admitted);
      }

  recorded_shorter : (j : Journal) (c : Call) (a : Answer) → ontime_in c ≤ ontime → Shorter j → Shorter (recorded j c a)
  recorded_shorter j (words stamp probes ws) a g h = record { waiting = h.waiting; admitted = h.admitted }
  recorded_shorter j (count stamp busy probes) a g h = record { waiting = h.waiting; admitted = h.admitted }
  recorded_shorter j (offer stamp o) a g h =
      let p = offer_shorter j stamp o h in
      record { waiting = change_slim o.priority _ _ (foot_slim _ g) p.waiting; admitted = p.admitted }
  recorded_shorter j (poll stamp) a g h =
      let p = poll_shorter j stamp h in
      on_cond Shorter (is_sent a) (λ u. sent_shorter (at_poll j stamp) _ refl p) (λ u. p)

  fed_shorter : (j : Journal) (c : Call) (a : Answer) → (is_refused a ≡ false → ontime_in c ≤ ontime) → Shorter j
      → Shorter (fed j c a)
  fed_shorter j c a g h = on_cond Shorter (is_refused a) (λ u. h) (λ u. recorded_shorter j c a (g u) h)

  told_shorter : (j : Journal) (es : List (Call × Answer)) → NoneLonger ontime es → Shorter j → Shorter (journal_of j es)
  unfolding journal_of
  told_shorter j [] g h = h
  told_shorter j (e ∷ es) g h = told_shorter (fed j e.0 e.1) es g.1 (fed_shorter j e.0 e.1 g.0 h)

  pub run_shorter : (r : Run) → NoneLonger ontime (by_model.all r) → Shorter (journal r)
  run_shorter r g =
      told_shorter (opened r.making.stamp) (by_model.all r) g (record { waiting = (tt, tt, tt, tt); admitted = tt })

-- What is taken, its profile allows.

offer_allowed : (v : View) (stamp : ℕ) (o : Offer) → NoneHolds (checks v (offer stamp o))
    → o.ontime ≤ most_ontime v.control.profile
unfolding checks
offer_allowed v stamp o n = (allowed v.control.profile o.ontime (not-false _ n.1.1.1.1.0)).1

call_allowed : (v : View) (c : Call) → is_refused (call v c).answer ≡ false → ontime_in c ≤ most_ontime v.control.profile
call_allowed v (words stamp probes ws) = λ a. omega arith
call_allowed v (count stamp busy probes) = λ a. omega arith
call_allowed v (offer stamp o) =
    on_call (λ (q : Result in_queues). is_refused q.answer ≡ false → o.ontime ≤ most_ontime v.control.profile) v
    (offer stamp o)
    (λ n a. offer_allowed v stamp o n)
    (λ n a. clash (cc))
call_allowed v (poll stamp) = λ a. omega arith

all_allowed : (v : View) (calls : List Call) → NoneLonger (most_ontime v.control.profile) (events v calls)
unfolding events
all_allowed v [] = tt
all_allowed v (c ∷ calls) = (
  call_allowed v c,
  subst (λ (p : ℕ). NoneLonger (most_ontime p) (events (call v c).view calls)) (call_profile v c)
      (all_allowed (call v c).view calls),
)

pub never_longer : NeverLonger by_model
never_longer r =
    subst (λ (p : ℕ). NoneLonger (most_ontime p) (by_model.all r)) (run_begins r.making r.ready).same
    (all_allowed (make r.making).view r.calls)
