-- A gate that is offered a packet and polled each period sends it each time, if the period is no shorter than its wait, and if so
-- many packets as come in a second fit into one. So it is from the first on, call by call.
use Prim.Native.Nat.{ℕ, zero, suc, ◌+◌, ◌-◌, ◌*◌, ◌≤◌, ◌<◌}
use mathlib.Core.Path.{◌≡◌, refl, ap, sym, ◌∙◌, subst}
use mathlib.Core.Bool.{true, false, not, cond}
use mathlib.Core.List.{List, [], ◌∷◌, ◌++◌}
use native.Mathlib.Nat.{suc-mul, add-mul, mul-le-mul_right}
use native.Mathlib.Omega.{arith}
use lib.Dec.{leb, ltb}
use lib.ListN.{drop}
use Rattle.rules.specs.Profiles.{ontime_allowed, most_offers, within}
use Rattle.rules.specs.Clock.{step_of, goes_back, passes_end, end_of_time}
use Rattle.rules.specs.Refusals.{NoneHolds}
use Rattle.rules.proofs.Cases.{split, on_test, on_cond}
use Rattle.rules.proofs.Refusals.{none_of}
use Rattle.rules.proofs.Tests.{tested}
use Rattle.control.specs.Control.{Control}
use Rattle.control.specs.Wait.{closed_after}
use Rattle.control.specs.Owed.{second}
use Rattle.model.specs.declared.Packet.{Packet}
use Rattle.model.specs.declared.Offer.{Offer}
use Rattle.model.specs.declared.Admission.{Admission}
use Rattle.model.specs.declared.Answer.TheVariants.{Taken, Sent}
use Rattle.model.specs.declared.Counts.{Counts}
use Rattle.model.specs.Fours.{Four, four, none_of_four, column, change, how_many}
use Rattle.model.specs.Packets.{Chosen, nothing, chosen}
use Rattle.model.specs.Queues.{in_queues, choice}
use Rattle.model.specs.Calls.{Call, offer, poll, Making}
use Rattle.model.specs.Ledger.{most_air, air_of, air_allows}
use Rattle.model.specs.State.{View}
use Rattle.model.specs.Effects.{Result, refreshed, is_full, closed, may_send, polled, effect}
use Rattle.model.specs.Gate.{checks, call}
use Rattle.model.specs.Journal.{Journal, Entry, turned, picked, outlived, lowest, top, sent_of, at_poll}
use Rattle.model.specs.Journal.{fed, journal_of, air_in, last_second}
use Rattle.model.specs.Claims.{view_after, events, Newest}
use Rattle.model.specs.Delivery.{offered_entry}
use Rattle.model.proofs.Aging.{air_append}
use Rattle.model.proofs.Columns.{choice_by}
use Rattle.model.proofs.Refusals.{on_call}
use Rattle.model.proofs.Invariant.{Tied, refreshed_tied, chosen_lowest}
use Rattle.model.proofs.Runs.{InRun, run_on}
use Rattle.label.specs.OnAir.{heard, on_air}
use Rattle.label.proofs.Windows.{inside}

-- a call that passes its checks has its effect
passes : (v : View) (c : Call) → NoneHolds (checks v c) → call v c ≡ effect v c
unfolding call
passes v c h = rw (none_of (checks v c) h) refl

-- offers and polls leave what samples steer
polled_control : (v : View) (c : Chosen (Four Packet)) → (polled v c).view.control ≡ v.control
polled_control v nothing = refl
polled_control v (chosen p left) =
    on_cond (λ (o : Result in_queues). o.view.control ≡ v.control) (may_send v p) (λ e. refl) (λ e. refl)

offer_control : (v : View) (stamp : ℕ) (o : Offer) → (call v (offer stamp o)).view.control ≡ v.control
unfolding effect
offer_control v stamp o =
    on_call (λ (r : Result in_queues). r.view.control ≡ v.control) v (offer stamp o)
    (λ n. on_cond (λ (w : View). w.control ≡ v.control) (is_full (refreshed v stamp) o.priority) (λ e. refl) (λ e. refl))
    (λ n. refl)

poll_control : (v : View) (stamp : ℕ) → (call v (poll stamp)).view.control ≡ v.control
unfolding effect
poll_control v stamp =
    on_call (λ (r : Result in_queues). r.view.control ≡ v.control) v (poll stamp)
    (λ n. polled_control (refreshed v stamp) (choice (refreshed v stamp).waiting)) (λ n. refl)

-- a book with empty columns
abbrev emptied : Journal → Journal
emptied j =
    record {
      time = j.time;
      stamp = j.stamp;
      offers = j.offers;
      expiries = j.expiries;
      displacements = j.displacements;
      columns = none_of_four;
      admissions = j.admissions;
      departures = j.departures;
    }

is_emptied : (j : Journal) → j.columns ≡ none_of_four → emptied j ≡ j
is_emptied j e = λ i. record {
  time = j.time;
  stamp = j.stamp;
  offers = j.offers;
  expiries = j.expiries;
  displacements = j.displacements;
  columns = back i;
  admissions = j.admissions;
  departures = j.departures;
}
  where
    back : none_of_four ≡ j.columns
    back = sym e

-- m: how the gate was made; k: what samples left; others: the admissions of the second before each
module _ (m : Making) (k : Control) (period ontime others : ℕ) where
  -- what a steady sender needs
  pub record Steady : Type 0 where
    pub new : m.oldway ≡ 0
    pub opens : closed_after k ontime ≤ period
    pub spread : second ≤ suc others * period
    pub room : suc others * ontime ≤ most_air
    pub allows : ontime_allowed m.profile ontime ≡ true
    pub short : period < 2147483648

  abbrev message : Offer
  message = record { id = 1; priority = 0; ontime = ontime; lifetime = 1 }

  -- n beats from beat i on
  unfoldable pub beats : (i n : ℕ) → List Call
  beats i zero = []
  beats i (suc n) = offer (i * period) message ∷ poll (i * period) ∷ beats (suc i) n

  -- what it has sent after n
  unfoldable pub ticks : ℕ → List Admission
  ticks zero = []
  ticks (suc n) = record { at = n * period; ontime = ontime } ∷ ticks n

  -- those of the last second
  few : Steady → (now n : ℕ) → n ≤ now → air_of (last_second (now * period) (ticks n)) ≤ (n + others - now) * ontime
  unfolding ticks last_second air_of
  few s now zero h = omega arith
  few s now (suc n) h =
      let a : Admission = record { at = n * period; ontime = ontime } in
      on_test
      (λ x. air_of (last_second (now * period) (ticks n) ++ cond x (a ∷ []) []) ≤ (suc n + others - now) * ontime)
      (ltb (now * period - n * period) 1000000)
      (λ e. split (leb (n + suc others) now)
      (λ f.
      let far : n + suc others ≤ now = omega tested in
      absurd (omega (
        tested,
        mul-le-mul_right period far,
        add-mul n (suc others) period,
        s.spread,
      )))
      (λ f.
      let one : suc n + others - now ≡ suc (n + others - now) = omega tested in
      rw one
      (omega (
        arith,
        few s now n (omega arith),
        air_append (last_second (now * period) (ticks n)) (a ∷ []),
        suc-mul (n + others - now) ontime,
      ))))
      (λ e.
      let more : n + others - now ≤ suc n + others - now = omega arith in
      omega (
        arith,
        few s now n (omega arith),
        air_append (last_second (now * period) (ticks n)) [],
        mul-le-mul_right ontime more,
      ))

  -- after n beats
  pub record Beat (n : ℕ) (v : View) (j : Journal) : Type 0 where
    pub run : InRun m v j
    pub control : v.control ≡ k
    pub stamped : j.stamp ≡ j.time
    pub late : j.time ≤ n * period
    pub soon : n * period ≤ j.time + period
    pub empty : j.columns ≡ none_of_four
    pub offered : how_many j.offers ≡ n
    pub ticked : j.admissions ≡ ticks n

  -- the time of the next beat
  on_time : (n : ℕ) (j : Journal) → Steady → j.stamp ≡ j.time → j.time ≤ n * period → n * period ≤ j.time + period
      → (turned j (n * period)).time ≡ n * period
  on_time n j s e l u = rw e (omega (arith, s.short))

  -- one more
  module _ (s : Steady) (n : ℕ) (end : n * period ≤ end_of_time) (spent : n < most_offers) (v : View) (j : Journal)
      (b : Beat n v j) where
    abbrev now : ℕ
    now = n * period

    offer_passes : NoneHolds (checks v (offer now message))
    unfolding checks goes_back passes_end step_of within
    offer_passes =
        let stamp : v.clock.stamp ≡ j.time = b.run.tied.stamp ∙ b.stamped in
        let accepted : v.counts.accepted ≡ n =
        ap (λ (c : Counts). c.accepted) b.run.tied.counted ∙ b.offered in (
          ap not b.run.sounds,
          (
            rw stamp (omega (tested, b.late, b.soon, s.short)),
            (
              rw stamp (omega (tested, b.run.tied.time, b.late, b.soon, s.short, end)),
              (
                refl,
                (
                  rw b.run.same (ap not s.allows),
                  (refl, (rw (b.run.way, s.new) refl, (rw accepted (omega (tested, spent)), tt))),
                ),
              ),
            ),
          ),
        )

    offer_taken : (call v (offer now message)).answer ≡ Taken
    unfolding effect
    offer_taken = ap (λ (r : Result in_queues). r.answer) (passes v (offer now message) offer_passes)

    -- behind the offer
    abbrev taken : View
    taken = (call v (offer now message)).view

    abbrev offered : Journal
    offered = fed (emptied j) (offer now message) Taken

    abbrev waiting : Entry
    waiting = offered_entry (emptied j) now message

    offered_is : fed j (offer now message) (call v (offer now message)).answer ≡ offered
    offered_is =
        ap (fed j (offer now message)) offer_taken
        ∙ ap (λ (x : Journal). fed x (offer now message) Taken) (sym (is_emptied j b.empty))

    run_taken : InRun m taken offered
    unfolding view_after events journal_of
    run_taken = subst (InRun m taken) offered_is (run_on m v j (offer now message ∷ []) b.run)

    at_now : (turned j now).time ≡ now
    at_now = on_time n j s b.stamped b.late b.soon

    offered_time : offered.time ≡ now
    unfolding picked
    offered_time = at_now

    offered_stamp : offered.stamp ≡ now
    unfolding picked
    offered_stamp = refl

    still_now : (at_poll offered now).time ≡ now
    still_now = rw offered_stamp (omega (arith, offered_time))

    lives : outlived (at_poll offered now).time waiting ≡ false
    lives = rw still_now (omega (tested, at_now))

    alone : (at_poll offered now).columns ≡ four (waiting ∷ []) [] [] []
    unfolding picked
    alone = rw lives refl

    poll_passes : NoneHolds (checks taken (poll now))
    unfolding checks goes_back passes_end step_of
    poll_passes =
        let stamp = run_taken.tied.stamp ∙ offered_stamp in (
          ap not run_taken.sounds,
          (
            rw stamp (omega tested),
            (rw stamp (omega (tested, run_taken.tied.time, offered_time, end)), tt),
          ),
        )

    abbrev ready : View
    ready = refreshed taken now

    tied : Tied ready (at_poll offered now)
    tied = refreshed_tied taken offered now run_taken.tied

    steered : ready.control ≡ k
    steered = offer_control v now message ∙ b.control

    is_open : closed ready ≡ false
    unfolding closed ticks picked
    is_open = by n refl (subst (Newest ready.last) b.ticked tied.newest)
      where
        by : (i : ℕ) → n ≡ i → Newest ready.last (ticks i) → closed ready ≡ false
        by zero e h = rw h refl
        by (suc i) e h =
            let t : ready.clock.time ≡ suc i * period = tied.time ∙ still_now ∙ ap (λ (x : ℕ). x * period) e in
            rw (h.0, h.1, h.2, steered, t) (omega (tested, s.opens, suc-mul i period))

    fits : air_allows ontime ready.ledger ≡ true
    unfolding last_second ticks picked
    fits =
        let same : ready.ledger ≡ last_second now (ticks n) =
        tied.followed.same ∙ ap (λ (t : ℕ). last_second t j.admissions) still_now ∙ ap (last_second now) b.ticked in
        let others-left : n + others - n ≡ others = omega arith in
        rw same (omega (tested, rw others-left at (few s n n (omega arith)), s.room, suc-mul others ontime))

    may : may_send ready waiting.packet ≡ true
    may = rw (is_open, fits) refl

    chosen_is : choice ready.waiting ≡ chosen waiting.packet none_of_four
    unfolding lowest
    chosen_is =
        chosen_lowest ready (at_poll offered now) tied ∙ ap (λ (q : Four Entry). choice_by q (column (lowest q) q)) alone

    poll_sent : (call taken (poll now)).answer ≡ Sent waiting.packet
    unfolding effect
    poll_sent =
        ap (λ (r : Result in_queues). r.answer) (passes taken (poll now) poll_passes) ∙ rw chosen_is (rw may refl)

    -- behind the poll
    abbrev sent : Journal
    sent = fed offered (poll now) (Sent waiting.packet)

    sent_is : fed offered (poll now) (call taken (poll now)).answer ≡ sent
    sent_is = ap (fed offered (poll now)) poll_sent

    gone : sent ≡ sent_of (at_poll offered now) (waiting ∷ [])
    unfolding lowest
    gone = ap (λ (q : Four Entry). sent_of (at_poll offered now) (top q)) alone

    gone_columns : (sent_of (at_poll offered now) (waiting ∷ [])).columns ≡ none_of_four
    unfolding lowest
    gone_columns = ap (λ (q : Four Entry). change (lowest q) (drop 1) q) alone

    run_sent : InRun m (call taken (poll now)).view sent
    unfolding view_after events journal_of
    run_sent = subst (InRun m (call taken (poll now)).view) sent_is (run_on m taken offered (poll now ∷ []) run_taken)

    next_beat : Beat (suc n) (call taken (poll now)).view (sent_of (at_poll offered now) (waiting ∷ []))
    unfolding picked ticks
    next_beat =
        record {
          run = subst (InRun m (call taken (poll now)).view) gone run_sent;
          control = poll_control taken now ∙ steered;
          stamped = sym still_now;
          late = omega (arith, still_now, suc-mul n period);
          soon = omega (arith, still_now, suc-mul n period);
          empty = gone_columns;
          offered = omega (arith, b.offered);
          ticked =
              ap (λ (t : ℕ). record { at = t; ontime = ontime } ∷ j.admissions) still_now
              ∙ ap (λ (l : List Admission). record { at = now; ontime = ontime } ∷ l) b.ticked;
        }

    pub beat : Beat (suc n) (view_after v (offer now message ∷ poll now ∷ []))
        (journal_of j (events v (offer now message ∷ poll now ∷ [])))
    unfolding view_after events journal_of
    beat =
        subst (Beat (suc n) (call taken (poll now)).view)
        (sym (ap (λ (x : Journal). fed x (poll now) (call taken (poll now)).answer) offered_is ∙ sent_is ∙ gone)) next_beat

  pub run_beats : Steady → (i n : ℕ) (v : View) (j : Journal) → Beat i v j → (i + n) * period ≤ end_of_time → i + n ≤ most_offers
      → Beat (i + n) (view_after v (beats i n)) (journal_of j (events v (beats i n)))
  unfolding view_after events journal_of beats
  run_beats s i zero v j b e o =
      let same : i ≡ i + 0 = omega arith in
      subst (λ (x : ℕ). Beat x v j) same b
  run_beats s i (suc n) v j b e o =
      let same : suc i + n ≡ i + suc n = omega arith in
      let most = rw (sym same) at e in
      let some : i ≤ i + suc n = omega arith in
      subst
      (λ (x : ℕ). Beat x (view_after v (beats i (suc n))) (journal_of j (events v (beats i (suc n))))) same
      (run_beats s (suc i) n _ _
      (beat s i (omega (arith, e, mul-le-mul_right period some)) (omega arith) v j b) most (omega arith))

  -- all of it in a stretch
  pub air_ticks : (w n : ℕ) → n * period < w + period → air_in 0 w (ticks n) ≡ n * ontime
  unfolding air_in ticks
  air_ticks w zero h = omega arith
  air_ticks w (suc n) h =
      rw (inside 0 w (n * period) (omega arith) (omega (arith, suc-mul n period)))
      (omega (arith, air_ticks w n (omega (arith, suc-mul n period)), suc-mul n ontime))

  pub heard_ticks : (w n : ℕ) → n * period + ontime ≤ w + period → on_air 0 w (ticks n) ≡ n * ontime
  unfolding on_air heard ticks
  heard_ticks w zero h = omega arith
  heard_ticks w (suc n) h =
      let one : n * period + ontime - w ≡ 0 = omega (arith, suc-mul n period) in
      omega (arith, one, heard_ticks w n (omega (arith, suc-mul n period)), suc-mul n ontime)
