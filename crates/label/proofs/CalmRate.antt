-- Behind each first part of a calm stretch stands a calm run, in which the gate opens in time for the next message: the calm
-- floor after the newest, and where the second may lack room once all but so few are a second old. The rate follows, and the
-- messages in a time, and how long a packet waits.
use Prim.Native.Nat.{ℕ, zero, suc, ◌+◌, ◌-◌, ◌*◌, ◌/◌, ◌≤◌, ◌<◌, max}
use mathlib.Core.Path.{◌≡◌, refl, ap, sym, ◌∙◌, subst}
use mathlib.Core.Bool.{true, false, cond}
use mathlib.Core.List.{List, [], ◌∷◌, ◌++◌, append_assoc}
use native.Mathlib.Nat.{zero-mul, suc-mul, mul_comm, mul-le-mul_right, div-mul-le_self, le-div_iff_mul-le}
use native.Mathlib.Omega.{arith}
use Rattle.rules.specs.Profiles.{most_ontime, limits_of}
use Rattle.rules.specs.Wait.{ceil_div}
use Rattle.rules.proofs.Cases.{split, on_test}
use Rattle.rules.proofs.Tests.{tested}
use Rattle.rules.proofs.Ceiling.{ceil_reaches}
use Rattle.control.specs.Owed.{second, quiet}
use Rattle.model.specs.Calls.{Call, offer}
use Rattle.model.specs.Claims.{most_in_second}
use Rattle.model.specs.Delivery.{KeepsFloor}
use Rattle.model.proofs.Delivery.{delivery_by}
use Rattle.label.specs.Trailer.{Run, view_at_end, by_model, journal, onward, messages_in}
use Rattle.label.specs.Priorities.{with_offer}
use Rattle.label.specs.Calm.{always_room, Calm, settled, profile_of, floor_of}
use Rattle.label.specs.CalmRate.{in_asecond, calm_each, calm_once, CalmRate, times_in, messages_by}
use Rattle.label.specs.CalmRate.{CalmMessages, as_wait, CalmWaits, CalmDelivery}
use Rattle.label.proofs.Steps.{OpensBy, due, Indexed}
use Rattle.label.proofs.Room.{after_due, aged_due}
use Rattle.label.proofs.Pace.{fit}
use Rattle.label.proofs.Rate.{behind, OpensInTime, pace_by, rate_of_obeying, polled_obeys, quotient_most}
use Rattle.label.proofs.Priorities.{waits_by}
use Rattle.label.proofs.Following.{part}
use Rattle.label.proofs.Calm.{opens_calmly, opens_later, calm_floors}

module _ {load samples ontime : ℕ} (late : ℕ) (c : Calm by_model load samples ontime) where
  abbrev profile : ℕ
  profile = profile_of c

  abbrev once : ℕ
  once = calm_once profile ontime

  abbrev each : ℕ
  each = calm_each profile (floor_of c) ontime late

  -- a packet that the profile allows fits into a second
  some_fit : always_room profile ontime ≡ false → 0 < in_asecond ontime
  unfolding most_ontime
  some_fit e = by ontime refl
    where
      by : (o : ℕ) → ontime ≡ o → 0 < most_in_second / o
      by zero f =
          let none = subst (λ (n : ℕ). always_room profile n ≡ false) f e in
          absurd (omega (tested, none, zero-mul (ceil_div second (limits_of profile).leastwait)))
      by (suc o) f =
          (le-div_iff_mul-le {k = suc o} {x = 1} {y = most_in_second} (omega arith)).1
          (omega (arith, f, c.an_ontime, (fit profile).short))

  abbrev share : ℕ
  share = max (floor_of c + late) (ceil_div (second + late) (in_asecond ontime))

  -- k packets and one more fit into a second
  fits : (k : ℕ) → in_asecond ontime ≡ suc k → suc k * ontime ≤ most_in_second
  fits k some = subst (λ (n : ℕ). n * ontime ≤ most_in_second) some (div-mul-le_self most_in_second ontime)

  shared : (k : ℕ) → in_asecond ontime ≡ suc k → second + late ≤ suc k * share
  shared k some =
      subst (λ (n : ℕ). second + late ≤ n * share) some
      (omega (
        arith,
        ceil_reaches (second + late) (in_asecond ontime) (omega (arith, some)),
        mul_comm (in_asecond ontime) share,
        mul-le-mul_right {m = ceil_div (second + late) (in_asecond ontime)} {n = share} (in_asecond ontime) (omega arith),
      ))

  pub short : late ≤ each
  short = on_test (λ u. late ≤ cond u (floor_of c + late) share) (always_room profile ontime) (λ e. omega arith)
      (λ e. omega arith)

  -- behind a first part of the calls, from wherever the messages are counted
  module _ (ds es : List Call) (e : c.during ≡ ds ++ es) (start : ℕ) where
    abbrev there : Run
    there = onward (settled c) ds

    abbrev InTimeBy : (once each : ℕ) → Type 0
    InTimeBy once each =
        (n : ℕ) → Indexed start once each n (journal there).admissions
        → (from : ℕ) × OpensBy (view_at_end there) (journal there) from × (from + late ≤ due start once each (suc n))

    by_waits_lem : always_room profile ontime ≡ true → InTimeBy 0 (floor_of c + late)
    unfolding part
    by_waits_lem room n i = (
      _,
      opens_calmly (part c ds es e) room,
      after_due late start 0 (floor_of c + late) (floor_of c) n (journal there).admissions (omega arith) i,
    )

    by_second_lem : (k : ℕ) → in_asecond ontime ≡ suc k → InTimeBy second share
    unfolding part
    by_second_lem k some n i = (
      _,
      opens_later (part c ds es e) k (fits k some),
      omega (
        arith,
        after_due late start second share (floor_of c) n (journal there).admissions (omega arith) i,
        aged_due late start share k n (journal there).admissions (omega arith) (shared k some) i,
      ),
    )

    pub in_good_time : InTimeBy once each
    in_good_time =
        split (always_room profile ontime) (λ u. rw u (by_waits_lem u)) (λ u. rw u (by (in_asecond ontime) refl (some_fit u)))
      where
        by : (n : ℕ) → in_asecond ontime ≡ n → 0 < n → InTimeBy second share
        by zero f some = absurd (omega arith)
        by (suc k) f some = by_second_lem k f

pub calm_rate : CalmRate by_model
calm_rate load samples ontime late c =
    pace_by late (once late c) (each late c) (short late c) (settled c) c.during
    (λ ds es e. in_good_time late c ds es e _)

-- so many times so long are over in a time, where that is at most n + 1 times
times-most : (time n each : ℕ) → time ≤ suc n * each → times_in time each ≤ n
times-most zero n zero h = omega arith
times-most zero n (suc each) h = quotient_most 0 n (suc each) (omega (arith, suc-mul n (suc each)))
times-most (suc time) n each h = quotient_most (suc time - 1) n each (omega arith)

pub messages_when_calm : CalmMessages by_model
unfolding messages_by
messages_when_calm load samples ontime late time c h long =
    let profile = profile_of c in
    let m = messages_in by_model (settled c) c.during in
    let always = times-most time m (quiet profile + late)
    (omega (arith, rate_of_obeying late (settled c) c.during h)) in
    let calmly = times-most (time - calm_once profile ontime) m (calm_each profile (floor_of c) ontime late)
    (omega (arith, calm_rate load samples ontime late c h)) in
    omega (arith, always, calmly)

-- a run that goes on twice
pub onward_twice : (r : Run) (cs ds : List Call) → onward r (cs ++ ds) ≡ onward (onward r cs) ds
onward_twice r cs ds =
    ap (λ (calls : List Call). record { making = r.making; calls = calls; ready = r.ready })
    (sym (append_assoc r.calls cs ds))

-- the rate from the offer on
pub calm_waits : CalmWaits by_model
calm_waits load samples ontime p w s =
    let c = w.calm in
    let r = with_offer (as_wait w) in
    let asked = offer w.stamp w.packet in
    let start = (journal r).time in
    waits_by (once p c) (each p c) (as_wait w)
    (pace_by p (once p c) (each p c) (short p c) r w.behind
    (λ ds es e.
    subst (λ (r : Run). OpensInTime p (once p c) (each p c) (short p c) start (view_at_end r) (journal r))
    (onward_twice (settled c) (asked ∷ []) ds)
    (in_good_time p c (asked ∷ ds) es (w.calls ∙ ap (λ (ks : List Call). asked ∷ ks) e) start))
    (polled_obeys p r w.behind s))

-- the calm floor is kept from the offer on
pub calm_delivery : CalmDelivery by_model
unfolding part
calm_delivery load samples ontime p w room urgent =
    let c = w.calm in
    let asked = offer w.stamp w.packet in
    delivery_by (floor_of c) c.before.making p w.stamp w.packet (settled c).calls w.behind c.before.ready urgent
    w.taken
    (λ cs ds e.
    let there = part c (asked ∷ cs) ds (w.calls ∙ ap (λ (ks : List Call). asked ∷ ks) e) in
    behind (KeepsFloor (floor_of c)) (with_offer (as_wait w)) cs
    (subst (λ (r : Run). KeepsFloor (floor_of c) (view_at_end r) (journal r)) (onward_twice (settled c) (asked ∷ []) cs)
    ((calm_floors load samples ontime there).by_itself room)))
