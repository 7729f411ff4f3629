-- Demand 3, the delivery and the refusals' laws in the papers' own numbers, from their proofs: a statement of specs/ that says
-- less fails here. Then what they are stated with, worked by hand: each side computes to the other.
use Prim.Native.Nat.{ℕ, suc, ◌+◌, ◌-◌, ◌*◌, ◌%◌, ◌≤◌, ◌<◌}
use mathlib.Core.Path.{◌≡◌, refl, ap, sym, ◌∙◌, subst}
use mathlib.Core.Logic.{◌⊎◌, inl, inr, ⊎_elim}
use mathlib.Core.Bool.{true, false, cond, not, ◌&&◌}
use mathlib.Core.List.{List, [], ◌∷◌, ◌++◌, map}
use native.Mathlib.Omega.{arith}
use lib.Dec.{ltb, leb, eqb}
use lib.ListN.{length}
use borrow.Author.Tests.{not-true, not-false, ltb-true, ltb-false, eqb-true, le-leb, lt-leb, lt-ltb, le-ltb}
use Rattle.rules.specs.Profiles.{within, is_profile}
use Rattle.rules.proofs.Profiles.{by_profile_lem}
use Rattle.rules.specs.Refusals.{first_of, FirstHolds}
use Rattle.rules.proofs.Cases.{on_cond, split, both, clash}
use Rattle.rules.proofs.Refusals.{of_none}
use Rattle.rules.proofs.Tests.{tested}
use Rattle.machine.specs.Levels.{bad_list}
use Rattle.control.specs.Owed.{quiet, claims_ceiling}
use Rattle.control.proofs.Owed.{floors}
use Rattle.model.specs.declared.Packet.{Packet}
use Rattle.model.specs.declared.Counts.{Counts}
use Rattle.model.specs.declared.Offer.{Offer}
use Rattle.model.specs.declared.Answer.{Answer}
use Rattle.model.specs.declared.Answer.TheVariants.{Ready, Taken, Sent, Idle, Closed, Refused}
use Rattle.model.specs.Packets.{unexpired, chosen, Holding}
use Rattle.model.specs.Queues.{in_queues, choice}
use Rattle.model.specs.Fours.{Four, four}
use Rattle.model.specs.Calls.{Call, words, count, offer, poll, Making, is_sent, is_refused}
use Rattle.model.specs.State.{Status, View, sound}
use Rattle.model.specs.Effects.{Result, refreshed, polled}
use Rattle.model.specs.Gate.{make_checks, make_in, make, checks, call, waited}
use Rattle.model.specs.declared.Admission.{Admission}
use Rattle.model.specs.Journal.{Entry, Way, expiry, displacement, admission, Departure, Journal}
use Rattle.model.specs.Journal.{opened, turned, arriving, room_for, entry_of, lowest, top, at_poll, journal_of, air_time}
use Rattle.model.specs.Journal.{air_in, last_second}
use Rattle.model.specs.Claims.{view_after, events, All, InTurn, ByTheFifth, Newest, Apart, Claims}
use Rattle.model.specs.Delivery.{Among, longest_wait, last_poll, PolledEvery, FewerThanFive}
use Rattle.model.proofs.Refusals.{refusals-change_nothing, refusals_are_exact, make_is_exact}
use Rattle.model.proofs.Sound.{forty_are_enough}
use Rattle.model.proofs.KeepsSound.{calls_keep_sound}
use Rattle.model.proofs.Closing.{closed_is_least}
use Rattle.model.proofs.Again.{closed-asked_again}
use Rattle.model.proofs.Runs.{runs_are_their_parts}
use Rattle.model.proofs.Demand3.{demand3, old_way_displaces_nothing}
use Rattle.model.proofs.DeliveryLines.{all_of}
use Rattle.model.proofs.Delivery.{delivery}
use Rattle.model.proofs.Computing.{of_runs}
use Rattle.model.proofs.Worked.{clock_at, last_at, counted, steered, packet, queues, state, offering}

-- "a refused call (make apart) changes nothing"; "exactly if"; however packets wait
refused_unchanged : {h : Holding} (v : Status h) (c : Call) → is_refused (call v c).answer ≡ true → (call v c).view ≡ v
refused_unchanged = refusals-change_nothing

refused_exactly : {h : Holding} (v : Status h) (c : Call) (n : ℕ)
    → ((call v c).answer ≡ Refused n → FirstHolds n (checks v c)) × (FirstHolds n (checks v c) → (call v c).answer ≡ Refused n)
refused_exactly = refusals_are_exact

-- make's numbers, whatever way packets wait. "at making a profile outside 1 to 5 gets number 1" (W-213), and so does a way that
-- is neither 0 nor 1 (W-205); "A list that breaks a rule is refused at making with 15, BAD-LIST, after 1; it is judged for
-- profile 5 alone." (W-213)
abbrev BadProfile : Making → Type 0
BadProfile m = (is_profile m.profile ≡ false) ⊎ (1 < m.oldway)

abbrev BadList : Making → Type 0
BadList m = (m.oldway ≤ 1) × (m.profile ≡ 5) × (bad_list m.list ≡ true)

module _ (h : Holding) (m : Making) where
  one_exactly : ((make_in h m).answer ≡ Refused 1 → BadProfile m) × (BadProfile m → (make_in h m).answer ≡ Refused 1)
  one_exactly =
      let exactly = (make_is_exact {h = h} m).refused 1 in (
        λ e. ⊎_elim (λ r. inl (not-true _ r.0)) (λ r.
            ⊎_elim (λ q. inr (ltb-true 1 m.oldway q.0)) (λ q.
            ⊎_elim (λ p. absurd (omega (arith, p.1))) (λ p. absurd p.1) q.1) r.1) (exactly.0 e),
        λ b. exactly.1 (split (is_profile m.profile)
            (λ t. ⊎_elim (λ f. clash (cc)) (λ w. inr (ap not t, inl (lt-ltb 1 m.oldway w, refl))) b)
            (λ f. inl (ap not f, refl))),
      )

  fifteen_exactly : ((make_in h m).answer ≡ Refused 15 → BadList m) × (BadList m → (make_in h m).answer ≡ Refused 15)
  unfolding within
  fifteen_exactly =
      let exactly = (make_is_exact {h = h} m).refused 15 in (
        λ e. ⊎_elim (λ r. absurd (omega (arith, r.1))) (λ r.
            ⊎_elim (λ q. absurd (omega (arith, q.1))) (λ q.
            ⊎_elim (λ p. let t = both (eqb m.profile 5) (bad_list m.list) p.0 in
            (ltb-false 1 m.oldway q.0, eqb-true m.profile 5 t.0, t.1)) (λ p. absurd p.1)
            q.1) r.1) (exactly.0 e),
        λ b. exactly.1
            (inr (rw b.1 refl, inr (le-ltb 1 m.oldway b.0, inl (rw (b.1, b.2) refl, refl)))),
      )

  -- and else READY
  ready_exactly :
      ((make_in h m).answer ≡ Ready → (BadProfile m → ⊥) × (BadList m → ⊥))
      × ((BadProfile m → ⊥) → (BadList m → ⊥) → (make_in h m).answer ≡ Ready)
  ready_exactly = (
    λ e. (λ b. clash (cc (one_exactly.1 b)), λ b. clash (cc (fifteen_exactly.1 b))),
    λ one fifteen.
        let profile : not (is_profile m.profile) ≡ false = split _ (λ t. ap not t) (λ f. absurd (one (inl f))) in
        let way : ltb 1 m.oldway ≡ false =
        split _ (λ t. absurd (one (inr (ltb-true 1 m.oldway t)))) (λ f. f) in
        let list : eqb m.profile 5 && bad_list m.list ≡ false =
        split _ (λ t. let l = both (eqb m.profile 5) (bad_list m.list) t in
        absurd (fifteen (ltb-false 1 m.oldway way, eqb-true m.profile 5 l.0, l.1))) (λ f. f) in
        (make_is_exact {h = h} m).ready.1 (profile, (way, (list, tt))),
  )

stays_sound : (v : View) (c : Call) → sound v ≡ true → sound (call v c).view ≡ true
stays_sound = calls_keep_sound

-- "CLOSED reports the smallest further wait after which that packet would go if no sample, offer or expiry came between and the
-- clock had no end." (W-207): d µs later a poll of it sends, or does not
goes_when_told : (v : View) (stamp n d : ℕ) → (call v (poll stamp)).answer ≡ Closed n → n ≤ d
    → is_sent (polled (waited (refreshed v stamp) d) (choice (refreshed v stamp).waiting)).answer ≡ true
goes_when_told v stamp n d r h = closed_is_least v stamp n r d ∙ le-leb n d h

not-before : (v : View) (stamp n d : ℕ) → (call v (poll stamp)).answer ≡ Closed n → d < n
    → is_sent (polled (waited (refreshed v stamp) d) (choice (refreshed v stamp).waiting)).answer ≡ false
not-before v stamp n d r h = closed_is_least v stamp n r d ∙ lt-leb n d h

-- "Ask again so many µs later, and the packet goes; ask a µs sooner, and it doesn't" (the label): of a poll that is CLOSED with n
-- and of the next call, a poll whose stamp is d µs later; p is the packet that goes next
module _ (v : View) (stamp n d : ℕ) (p : Packet) (others : Four Packet) (shut : (call v (poll stamp)).answer ≡ Closed n) where
  abbrev then : View
  then = (call v (poll stamp)).view

  abbrev second_answer : Answer
  second_answer = (call then (poll ((stamp + d) % 4294967296))).answer

  module _ (next : choice then.waiting ≡ chosen p others) (low : stamp < 4294967296) (forward : d < 2147483648)
      (not_past : then.clock.time + d ≤ 1000000000000000) (alive : then.clock.time + d - p.arrival < p.lifetime) where
    second_answer_lem : second_answer ≡ cond (leb n d) (Sent p) (Closed (n - d))
    second_answer_lem =
        let a = closed-asked_again v stamp n low shut in
        let same : a.packet ≡ p = cc a.chosen_next in
        subst (λ (q : Packet).
        unexpired (then.clock.time + d) q ≡ true → second_answer ≡ cond (leb n d) (Sent q) (Closed (n - d))) same
        (a.again d forward not_past) (lt-ltb _ _ alive)

    goes_when_asked_again : n ≤ d → second_answer ≡ Sent p
    goes_when_asked_again h = second_answer_lem ∙ rw (le-leb n d h)

    not_when_asked_before : d < n → second_answer ≡ Closed (n - d)
    not_when_asked_before h = second_answer_lem ∙ rw (lt-leb n d h)

-- there is such a poll: a gate of profile 1 is closed for 101,000 µs after a packet of 1,000, and meanwhile stamps pass 2^32
abbrev shut_once : View
shut_once =
    state (clock_at 0 4294967295) (steered 1 0 600000 0 0 0) (last_at 0 1000 1) (counted 1 0 0)
    (queues (packet 1 0 1 60000000 0 ∷ []) [] [] [])

asked_once_more : (call (call shut_once (poll 4294967295)).view (poll 100999)).answer ≡ Sent (packet 1 0 1 60000000 0)
unfolding of_runs
asked_once_more =
    goes_when_asked_again shut_once 4294967295 101000 101000 (packet 1 0 1 60000000 0) (queues [] [] [] []) refl refl
    (omega arith) (omega arith) (omega arith) (omega arith) (omega arith)

-- "the top packet of the lowest-numbered non-empty column": the first of the columns one behind the other
abbrev joined : Four Entry → List Entry
joined q = q.c0 ++ q.c1 ++ q.c2 ++ q.c3

top_first : (l : Entry) (a b c d : List Entry) → top (four a b c d) ≡ l ∷ [] → (ls : List Entry) × (a ++ b ++ c ++ d ≡ l ∷ ls)
unfolding lowest
top_first l (x ∷ a) b c d e = (a ++ b ++ c ++ d, cc)
top_first l [] (x ∷ b) c d e = (b ++ c ++ d, cc)
top_first l [] [] (x ∷ c) d e = (c ++ d, cc)
top_first l [] [] [] (x ∷ d) e = (d, cc)
top_first l [] [] [] [] e = clash (cc)

no_top : (a b c d : List Entry) → top (four a b c d) ≡ [] → a ++ b ++ c ++ d ≡ []
unfolding lowest
no_top (x ∷ a) b c d e = clash (cc)
no_top [] (x ∷ b) c d e = clash (cc)
no_top [] [] (x ∷ c) d e = clash (cc)
no_top [] [] [] (x ∷ d) e = clash (cc)
no_top [] [] [] [] e = refl

ready_profile : (m : Making) → (make m).answer ≡ Ready → is_profile m.profile ≡ true
unfolding make_in
ready_profile m =
    on_cond (λ (o : Result in_queues). o.answer ≡ Ready → is_profile m.profile ≡ true) (eqb (first_of (make_checks m)) 0)
    (λ e r. not-false _ (of_none (make_checks m) (omega tested) (eqb-true _ _ e)).0)
    (λ e r. clash (cc))

-- all profiles but the fourth claim the ceiling
claimed : (profile : ℕ) → is_profile profile ≡ true → (profile ≡ 4 → ⊥) → claims_ceiling profile ≡ true
unfolding claims_ceiling within
claimed profile e h = by_profile_lem (λ n. (n ≡ 4 → ⊥) → claims_ceiling n ≡ true) (λ h. refl) (λ h. refl) (λ h. refl)
    (λ h. absurd (h refl)) (λ h. refl) profile e h

-- "a make that isn't refused, then any list of samples (by words or count), offers and polls"
module _ (m : Making) (calls : List Call) (ready : (make m).answer ≡ Ready) where
  abbrev v : View
  v = view_after (make m).view calls

  abbrev j : Journal
  j = journal_of (opened m.stamp) (events (make m).view calls)

  claims : Claims m.profile v j
  claims = demand3 m calls ready

  never_unsound : sound v ≡ true
  never_unsound = claims.sound_throughout

  -- "Its time, queues, admissions and expiries are those of a book"
  same_time : v.clock.time ≡ j.time
  same_time = claims.time

  same_queues :
      (v.waiting.c0 ≡ map (λ (l : Entry). l.packet) j.columns.c0)
      × (v.waiting.c1 ≡ map (λ (l : Entry). l.packet) j.columns.c1)
      × (v.waiting.c2 ≡ map (λ (l : Entry). l.packet) j.columns.c2)
      × (v.waiting.c3 ≡ map (λ (l : Entry). l.packet) j.columns.c3)
  same_queues =
      let e = claims.queues in (
        ap (λ (q : Four Packet). q.c0) e,
        ap (λ (q : Four Packet). q.c1) e,
        ap (λ (q : Four Packet). q.c2) e,
        ap (λ (q : Four Packet). q.c3) e,
      )

  none_admitted : j.admissions ≡ [] → v.last.admitted ≡ 1 → ⊥
  none_admitted e f = let h = subst (Newest v.last) e claims.admissions in clash (cc)

  last_admitted : (a : Admission) (l : List Admission) → j.admissions ≡ a ∷ l
      → (v.last.admitted ≡ 1) × (v.last.at ≡ a.at) × (v.last.ontime ≡ a.ontime)
  last_admitted a l e = let h = subst (Newest v.last) e claims.admissions in (eqb-true _ _ h.0, h.1, h.2)

  -- "each count equals the number of such events in the run"; "accepted equals sent plus expired plus the packets waiting"
  -- (W-201), with "a fourth count, displaced" (W-205)
  same_counts :
      (v.counts.accepted
      ≡ length j.offers.c0 + length j.offers.c1 + length j.offers.c2 + length j.offers.c3)
      × (v.counts.sent ≡ length j.admissions)
      × (v.counts.expired ≡ j.expiries)
      × (v.counts.displaced ≡ j.displacements)
  same_counts =
      let e = claims.counts in (
        ap (λ (c : Counts). c.accepted) e,
        ap (λ (c : Counts). c.sent) e,
        ap (λ (c : Counts). c.expired) e,
        ap (λ (c : Counts). c.displaced) e,
      )

  adds_up :
      v.counts.accepted
      ≡ v.counts.sent + v.counts.expired + v.counts.displaced
      + (length v.waiting.c0 + length v.waiting.c1 + length v.waiting.c2 + length v.waiting.c3)
  adds_up = claims.adds_up

  -- "in any window of W µs, 100 x air time admitted ≤ 3 W + 400,000", in every profile but 4: "01's ceiling isn't claimed for
  -- it" (W-209), in profile 5 "01's ceiling holds" (W-213)
  ceiling : (m.profile ≡ 4 → ⊥) → (from w : ℕ) → 100 * air_time from w j.admissions ≤ 3 * w + 400000
  ceiling h = claims.ceiling (claimed m.profile (ready_profile m ready) h)

  -- "Over any run from a fresh state, on-times admitted in any half-open stretch of 1,000,000 µs sum to at most 30,000." (W-207)
  any-second : (from : ℕ) → air_in from (from + 1000000) j.admissions ≤ 30000
  any-second = claims.in_any_second

  -- "the admissions of the last second in the state": one is there exactly if it came less than 1,000,000 µs ago
  in_ledger : v.ledger ≡ last_second v.clock.time j.admissions
  in_ledger = claims.ledger ∙ ap (λ (t : ℕ). last_second t j.admissions) (sym claims.time)

  -- "gaps of at least 25,000 µs": of any two that follow one another
  gaps : (b a : Admission) (later earlier : List Admission) → j.admissions ≡ later ++ b ∷ a ∷ earlier → a.at + 25000 ≤ b.at
  gaps b a later earlier e = gap_in later (subst Apart e claims.apart)
    where
      gap_in : (later : List Admission) → Apart (later ++ b ∷ a ∷ earlier) → a.at + 25000 ≤ b.at
      gap_in [] h = h.0
      gap_in (x ∷ []) h = h.1.0
      gap_in (x ∷ y ∷ l) h = gap_in (y ∷ l) h.1

  -- "40 are enough"
  forty : length v.ledger ≤ 40
  forty = forty_are_enough v claims.sound_throughout

  -- "an accepted poll that finds an unexpired packet" so long after every earlier admission answers SENT
  abbrev Floor : (µs : ℕ) → Type 0
  Floor µs =
      (stamp : ℕ)
      → is_refused (call v (poll stamp)).answer ≡ false
      → (joined (at_poll j stamp).columns ≡ [] → ⊥)
      → All (λ (a : Admission). a.at + µs ≤ (turned j stamp).time) j.admissions
      → (p : Packet) × ((call v (poll stamp)).answer ≡ Sent p)

  floor_by : (µs : ℕ) → quiet m.profile ≡ µs → Floor µs
  floor_by µs e stamp accepted some late =
      claims.floor stamp accepted (λ n. some (no_top _ _ _ _ n)) (rw e late)

  -- "its floor reads 1,001,000 µs for profile 1, 1,000,500 for profile 2 and 1,000,000 for profile 3" (W-202); of profile 4 "Its
  -- floor is 1,004,000 µs." (W-209)
  floor_of_1 : m.profile ≡ 1 → Floor 1001000
  floor_of_1 e = floor_by 1001000 (ap quiet e ∙ floors.0)

  floor_of_2 : m.profile ≡ 2 → Floor 1000500
  floor_of_2 e = floor_by 1000500 (ap quiet e ∙ floors.1)

  floor_of_3 : m.profile ≡ 3 → Floor 1000000
  floor_of_3 e = floor_by 1000000 (ap quiet e ∙ floors.2)

  floor_of_4 : m.profile ≡ 4 → Floor 1004000
  floor_of_4 e = floor_by 1004000 (ap quiet e ∙ floors.3)

  floor_of_5 : m.profile ≡ 5 → Floor 1001000
  floor_of_5 e = floor_by 1001000 (ap quiet e ∙ floors.4)

  -- "SENT never comes with all columns empty, and carries the packet struck"
  carried : (stamp : ℕ) (p : Packet) → (call v (poll stamp)).answer ≡ Sent p
      → (l : Entry) × (ls : List Entry) × (joined (at_poll j stamp).columns ≡ l ∷ ls) × (l.packet ≡ p)
  carried stamp p e =
      let h = claims.sent stamp p e in
      let t = top_first h.0 _ _ _ _ h.1 in
      (h.0, t.0, t.1, h.2)

  -- "A packet of priority 0 still there when the run ends has seen at most k admissions."
  seen_at_most_k : (l : Entry) → Among l j.columns.c0 → length j.admissions - l.earlier ≤ l.above
  seen_at_most_k l there = omega (arith, all_of _ l j.columns.c0 claims.still_waiting there)

  -- "leaves by expiry, by displacement, or no later than with the (k+1)th admission after it came" (W-205)
  gone_in_turn : (l : Entry) (n at : ℕ) → l.packet.priority ≡ 0
      → Among (record { entry = l; way = admission n; at = at }) j.departures → n ≤ l.earlier + l.above + 1
  gone_in_turn l n at zero left =
      omega (arith, all_of _ (record { entry = l; way = admission n; at = at }) j.departures claims.leaving left zero)

  -- a packet is displaced only by the fifth or a later accepted offer of its own priority after it came, whatever k was
  displaced_by_the_fifth : (l : Entry) (priority n at : ℕ)
      → Among (record { entry = l; way = displacement priority n; at = at }) j.departures
      → (priority ≡ l.packet.priority) × (5 ≤ n - l.ordinal)
  displaced_by_the_fifth l priority n at left =
      let d = all_of _ (record { entry = l; way = displacement priority n; at = at }) j.departures claims.displacing left in
      (d.0, omega (arith, d.1))

  -- "a gate made in the old way" displaces nothing
  old_way_keeps_all : m.oldway ≡ 1
      → ((l : Entry) (priority n at : ℕ)
      → Among (record { entry = l; way = displacement priority n; at = at }) j.departures
      → ⊥)
      × (v.counts.displaced ≡ 0)
  old_way_keeps_all old =
      let h = old_way_displaces_nothing m calls ready old in (
        λ l priority n at left.
            all_of _ (record { entry = l; way = displacement priority n; at = at }) j.departures h.0 left,
        h.1,
      )

-- a run is as long as one likes: its calls in two parts are one run
in_parts : (v : View) (j : Journal) (cs ds : List Call)
    → (view_after v (cs ++ ds) ≡ view_after (view_after v cs) ds)
    × (journal_of j (events v (cs ++ ds)) ≡ journal_of (journal_of j (events v cs)) (events (view_after v cs) ds))
in_parts = runs_are_their_parts

-- the label's example, an offer of priority 0 in a run: l is its entry, with k above it, j the journal right behind the offer
module _ (m : Making) (p at : ℕ) (o : Offer) (before behind : List Call) where
  abbrev run_before : Journal
  run_before = journal_of (opened m.stamp) (events (make m).view before)

  abbrev own : Entry
  own = entry_of (room_for (at_poll run_before at) o.priority) (arriving (turned run_before at) o)

  abbrev behind_offer : Journal
  behind_offer = journal_of (opened m.stamp) (events (make m).view (before ++ offer at o ∷ []))

  abbrev events_behind : List (Call × Answer)
  events_behind = events (view_after (make m).view (before ++ offer at o ∷ [])) behind

  abbrev end : Journal
  end = journal_of behind_offer events_behind

  abbrev SentIn : (µs : ℕ) → Type 0
  SentIn µs =
      (n : ℕ)
      × (t : ℕ)
      × Among (record { entry = own; way = admission n; at = t }) end.departures
      × (t ≤ (turned run_before at).time + µs)

  -- sent within (k + 1) × (quiet + p), neither expired nor displaced, if fewer than five offers of priority 0 are accepted while
  -- it waits, or in the old way
  sent_in_time : (µs : ℕ) → quiet m.profile ≡ µs → (make m).answer ≡ Ready → o.priority ≡ 0
      → (call (view_after (make m).view before) (offer at o)).answer ≡ Taken
      → suc own.above * (µs + p) < o.lifetime
      → PolledEvery p own (turned run_before at).time behind_offer events_behind
      → FewerThanFive own behind_offer events_behind ⊎ (m.oldway ≡ 1)
      → ((t : ℕ) → Among (record { entry = own; way = expiry; at = t }) end.departures → ⊥)
      × ((priority n t : ℕ)
      → Among (record { entry = own; way = displacement priority n; at = t }) end.departures
      → ⊥)
      × (Among own end.columns.c0 ⊎ SentIn (suc own.above * (µs + p)))
      × ((turned run_before at).time + suc own.above * (µs + p) < end.time
      → (Among own end.columns.c0 → ⊥) × SentIn (suc own.above * (µs + p)))
  sent_in_time µs e ready zero taken long polled spared =
      let d = delivery m p at o before behind ready zero taken (rw e long) polled spared in
      let same = ap (λ (q : ℕ). suc own.above * (q + p)) e in (
        d.not-expired,
        d.not-displaced,
        subst (λ (x : ℕ). Among own end.columns.c0 ⊎ SentIn x) same d.so_far,
        subst
            (λ (x : ℕ). (turned run_before at).time + x < end.time → (Among own end.columns.c0 → ⊥) × SentIn x)
            same d.sent,
      )

-- What these are stated with, worked by hand. "A refused call changes nothing."; "SENT is an admission": which answers these are
abbrev answers : List Answer
answers = Ready ∷ Taken ∷ Sent (packet 1 2 3 4 5) ∷ Idle ∷ Closed 6 ∷ Refused 7 ∷ []

refusals : map is_refused answers ≡ false ∷ false ∷ false ∷ false ∷ false ∷ true ∷ []
refusals = refl

admissions : map is_sent answers ≡ false ∷ false ∷ true ∷ false ∷ false ∷ false ∷ []
admissions = refl

-- The journal, opened at stamp 5, is "fed each call's arguments and answer".
abbrev page : (time stamp : ℕ) → Four Packet → (expiries : ℕ) → Four Entry → List Admission → List Departure → Journal
page time stamp offers expiries columns admissions departures =
    record {
      time = time;
      stamp = stamp;
      offers = offers;
      expiries = expiries;
      displacements = 0;
      columns = columns;
      admissions = admissions;
      departures = departures;
    }

abbrev with_displacements : ℕ → Journal → Journal
with_displacements n j =
    record {
      time = j.time;
      stamp = j.stamp;
      offers = j.offers;
      expiries = j.expiries;
      displacements = n;
      columns = j.columns;
      admissions = j.admissions;
      departures = j.departures;
    }

abbrev entry : Packet → (above earlier ordinal : ℕ) → Entry
entry p above earlier ordinal = record { packet = p; above = above; earlier = earlier; ordinal = ordinal }

abbrev none : {A : Type 0} → Four A
none = queues [] [] [] []

abbrev left : Entry → Way → (at : ℕ) → Departure
left l way at = record { entry = l; way = way; at = at }

abbrev admitted_at : (at ontime : ℕ) → Admission
admitted_at at ontime = record { at = at; ontime = ontime }

book : List (Call × Answer) → Journal
unfolding of_runs
book es = journal_of (opened 5) es

-- "At first: time 0, make's stamp, columns empty."
first_page : book [] ≡ page 0 5 none 0 none [] []
unfolding book
first_page = refl

-- "An offer then writes its packet, with the book's time as its arrival, at the foot of its priority's column; those above it are
-- the k before it."; which offer of its priority it is
abbrev first : Entry
first = entry (packet 1 0 11 20 1) 0 0 1

abbrev second : Entry
second = entry (packet 2 0 12 10 2) 1 0 2

abbrev third : Entry
third = entry (packet 3 1 13 10 2) 0 0 1

abbrev fourth : Entry
fourth = entry (packet 4 2 14 10 3) 0 0 1

abbrev fifth : Entry
fifth = entry (packet 5 3 15 10 3) 0 0 1

abbrev five_offers : List (Call × Answer)
five_offers =
    (offering 6 1 0 11 20, Taken)
    ∷ (offering 7 2 0 12 10, Taken)
    ∷ (offering 7 3 1 13 10, Taken)
    ∷ (offering 8 4 2 14 10, Taken)
    ∷ (offering 8 5 3 15 10, Taken)
    ∷ []

abbrev five_entries : Four Entry
five_entries = queues (first ∷ second ∷ []) (third ∷ []) (fourth ∷ []) (fifth ∷ [])

-- the offers accepted, with more of priority 0 and of priority 2 behind them, the newest first
abbrev five_and : (more0 more2 : List Packet) → Four Packet
five_and more0 more2 =
    queues (more0 ++ second.packet ∷ first.packet ∷ []) (third.packet ∷ []) (more2 ++ fourth.packet ∷ []) (fifth.packet ∷ [])

abbrev five_packets : Four Packet
five_packets = five_and [] []

offers_written : book five_offers ≡ page 3 8 five_packets 0 five_entries [] []
unfolding book
offers_written = refl

-- "A refused call changes nothing."
refused_unfed :
    book
    (five_offers
    ++ (words 9 1000 [], Refused 4)
    ∷ (count 9 1001 1000, Refused 4)
    ∷ (offering 30 6 0 1 1, Refused 8)
    ∷ (poll 4, Refused 2)
    ∷ [])
    ≡ page 3 8 five_packets 0 five_entries [] []
unfolding book
refused_unfed = refl

-- "the step from the book's stamp to the call's is added to the time, and the call's stamp kept. A sample does no more.": at 98
-- all are past their lifetimes
sample_turns :
    map (λ (e : Call × Answer). book (five_offers ++ e ∷ [])) ((words 103 1000 [], Taken) ∷ (count 103 7 1000, Taken) ∷ [])
    ≡ map (λ (n : ℕ). page n 103 five_packets 0 five_entries [] []) (98 ∷ 98 ∷ [])
unfolding book
sample_turns = refl

steps :
    map (λ (n : ℕ). (turned (page 9 4294967290 none 0 none [] []) n).time) (4294967291 ∷ 4 ∷ 4294967289 ∷ [])
    ≡ 10 ∷ 19 ∷ 4294967304 ∷ []
steps = refl

-- "An offer or poll then strikes each packet whose time since its offer is at least its lifetime; it leaves by expiry."
not_yet_at_11 : book (five_offers ++ (poll 16, Closed 1) ∷ []) ≡ page 11 16 five_packets 0 five_entries [] []
unfolding book
not_yet_at_11 = refl

struck_at_12 :
    book (five_offers ++ (poll 17, Idle) ∷ [])
    ≡ page 12 17 five_packets 2 (queues (first ∷ []) [] (fourth ∷ []) (fifth ∷ [])) []
    (left second expiry 12 ∷ left third expiry 12 ∷ [])
unfolding book
struck_at_12 = refl

struck_by_an_offer :
    book (five_offers ++ (offering 18 6 0 16 9, Taken) ∷ [])
    ≡ page 13 18 (five_and (packet 6 0 16 9 13 ∷ []) []) 4 (queues (first ∷ entry (packet 6 0 16 9 13) 1 0 3 ∷ []) [] [] []) []
    (left second expiry 13 ∷ left third expiry 13 ∷ left fourth expiry 13 ∷ left fifth expiry 13 ∷ [])
unfolding book
struck_by_an_offer = refl

-- "SENT is an admission at the book's time: it strikes the top packet of the lowest-numbered non-empty column, and air time is
-- that packet's on-time.", whatever packet the answer carries
abbrev sent : (stamp : ℕ) → Call × Answer
sent stamp = (poll stamp, Sent (packet 0 0 0 0 0))

sent_all :
    book (five_offers ++ sent 9 ∷ sent 10 ∷ sent 11 ∷ sent 12 ∷ sent 13 ∷ [])
    ≡ page 8 13 five_packets 0 none
    (admitted_at 8 15 ∷ admitted_at 7 14 ∷ admitted_at 6 13 ∷ admitted_at 5 12 ∷ admitted_at 4 11 ∷ [])
    (left fifth (admission 5) 8
    ∷ left fourth (admission 4) 7
    ∷ left third (admission 3) 6
    ∷ left second (admission 2) 5
    ∷ left first (admission 1) 4
    ∷ [])
unfolding book
sent_all = refl

-- the entry of an offer behind an admission
sent_and_offered :
    book (five_offers ++ sent 9 ∷ (offering 10 6 0 16 9, Taken) ∷ [])
    ≡ page 5 10 (five_and (packet 6 0 16 9 5 ∷ []) []) 0
    (queues (second ∷ entry (packet 6 0 16 9 5) 1 1 3 ∷ []) (third ∷ []) (fourth ∷ []) (fifth ∷ []))
    (admitted_at 4 11 ∷ []) (left first (admission 1) 4 ∷ [])
unfolding book
sent_and_offered = refl

-- the top packet is that of the columns once the expired are struck
struck_then_sent :
    book (five_offers ++ (offering 20 6 2 16 99, Taken) ∷ sent 26 ∷ [])
    ≡ page 21 26 (five_and [] (packet 6 2 16 99 15 ∷ [])) 5 none (admitted_at 21 16 ∷ [])
    (left (entry (packet 6 2 16 99 15) 0 0 2) (admission 1) 21
    ∷ left first expiry 21
    ∷ left second expiry 15
    ∷ left third expiry 15
    ∷ left fourth expiry 15
    ∷ left fifth expiry 15
    ∷ [])
unfolding book
struck_then_sent = refl

-- "an accepted offer that, once the expired are struck, finds five in its column strikes the top one, as displaced, and then
-- writes its own" (W-205): five of priority 1 and one of priority 0 wait; at 3 one more of priority 1 comes
abbrev nth : (n lifetime arrival above : ℕ) → Entry
nth n lifetime arrival above = entry (packet n 1 1 lifetime arrival) above 0 n

abbrev six_waiting : (lifetime : ℕ) → List (Call × Answer)
six_waiting lifetime =
    (offering 6 9 0 1 99, Taken)
    ∷ (offering 6 1 1 1 99, Taken)
    ∷ (offering 6 2 1 1 99, Taken)
    ∷ (offering 6 3 1 1 lifetime, Taken)
    ∷ (offering 6 4 1 1 99, Taken)
    ∷ (offering 6 5 1 1 99, Taken)
    ∷ []

abbrev other : Entry
other = entry (packet 9 0 1 99 1) 0 0 1

abbrev packets_of : List Entry → List Packet
packets_of ls = map (λ (l : Entry). l.packet) ls

displaced_from_the_top :
    book (six_waiting 99 ++ (offering 8 6 1 1 99, Taken) ∷ [])
    ≡ with_displacements 1
    (page 3 8
    (queues (other.packet ∷ [])
    (packets_of (nth 6 99 3 4 ∷ nth 5 99 1 4 ∷ nth 4 99 1 3 ∷ nth 3 99 1 2 ∷ nth 2 99 1 1 ∷ nth 1 99 1 0 ∷ [])) [] [])
    0
    (queues (other ∷ []) (nth 2 99 1 1 ∷ nth 3 99 1 2 ∷ nth 4 99 1 3 ∷ nth 5 99 1 4 ∷ nth 6 99 3 4 ∷ []) [] [])
    [] (left (nth 1 99 1 0) (displacement 1 6) 3 ∷ []))
unfolding book
displaced_from_the_top = refl

-- one of the five has expired by then: nothing is displaced
expired-not-displaced :
    book (six_waiting 2 ++ (offering 8 6 1 1 99, Taken) ∷ [])
    ≡ page 3 8
    (queues (other.packet ∷ [])
    (packets_of (nth 6 99 3 4 ∷ nth 5 99 1 4 ∷ nth 4 99 1 3 ∷ nth 3 2 1 2 ∷ nth 2 99 1 1 ∷ nth 1 99 1 0 ∷ [])) [] [])
    1
    (queues (other ∷ []) (nth 1 99 1 0 ∷ nth 2 99 1 1 ∷ nth 4 99 1 3 ∷ nth 5 99 1 4 ∷ nth 6 99 3 4 ∷ []) [] [])
    [] (left (nth 3 2 1 2) expiry 3 ∷ [])
unfolding book
expired-not-displaced = refl

-- an offer of another priority, or one that is refused, finds no five in its column: nothing is displaced
none-displaced :
    map (λ (e : Call × Answer). (book (six_waiting 99 ++ e ∷ [])).displacements)
    ((offering 8 6 0 1 99, Taken) ∷ (offering 8 6 2 1 99, Taken) ∷ (offering 8 6 1 1 99, Refused 8) ∷ (poll 8, Closed 1) ∷ [])
    ≡ 0 ∷ 0 ∷ 0 ∷ 0 ∷ []
unfolding book
none-displaced = refl

-- "in any window": from a moment to w µs later, both ends counted (R14 of docs/DECISIONS.md)
window :
    map (λ (w : ℕ). air_time 5 w (admitted_at 15 4000 ∷ admitted_at 5 3000 ∷ admitted_at 4 1000 ∷ [])) (0 ∷ 9 ∷ 10 ∷ [])
    ≡ 3000 ∷ 3000 ∷ 7000 ∷ []
unfolding of_runs
window = refl

-- "no later than with the (k+1)th admission after it came": 2 came before it and 3 stood above it
abbrev sixth : Entry
sixth = entry (packet 1 0 11 10 1) 3 2 7

in_turn : InTurn sixth (admission 6)
in_turn = omega arith

out_of_turn : InTurn sixth (admission 7) → ⊥
out_of_turn h = omega arith

-- displaced only by the fifth or a later accepted offer of its own priority after it came: it was the 7th
by_the_fifth : ByTheFifth sixth (displacement 0 12)
by_the_fifth = (refl, omega arith)

not_by_the_fourth : ByTheFifth sixth (displacement 0 11) → ⊥
not_by_the_fourth h = omega (arith, h.1)

not-of_another : ByTheFifth sixth (displacement 1 12) → ⊥
not-of_another h = omega (arith, h.0)

-- all of a list, and one of it
both_of_two : {A : Type 0} (P : A → Type 0) (a b : A) → All P (a ∷ b ∷ []) → P a × P b
both_of_two P a b h = (h.0, h.1.0)

one_of_two : {A : Type 0} (a b : A) → Among a (a ∷ b ∷ []) × Among b (a ∷ b ∷ [])
one_of_two a b = (inl refl, inr (inl refl))

-- (k + 1) × (quiet + p), with two above it
longest_of_three : longest_wait 2 500 (entry (packet 1 0 11 10 1) 2 7 8) ≡ 3003000
unfolding of_runs
longest_of_three = refl

-- "accepted polls come at most p µs apart for as long as it waits": SENT, IDLE and CLOSED are accepted polls; a refused call is
-- no call of the book's, other calls come between, and once it is gone polls may stay away
last_polls : map (λ (a : Answer). last_poll 3 a (page 9 0 none 0 none [] [])) answers ≡ 3 ∷ 3 ∷ 9 ∷ 9 ∷ 9 ∷ 3 ∷ []
last_polls = refl

abbrev alone : Entry
alone = entry (packet 1 0 11 100 1) 0 0 1

abbrev only_one : Journal
only_one = page 1 6 (queues (alone.packet ∷ []) [] [] []) 0 (queues (alone ∷ []) [] [] []) [] []

polled_every_10 :
    PolledEvery 10 alone 1 only_one
    ((poll 16, Closed 9)
    ∷ (poll 2, Refused 2)
    ∷ (count 20 0 1000, Taken)
    ∷ (offering 26 2 1 1 1, Taken)
    ∷ (poll 26, Closed 1)
    ∷ sent 36
    ∷ (poll 999, Idle)
    ∷ [])
unfolding of_runs
polled_every_10 = (
  λ w. omega arith,
  (
    λ w. omega arith,
    (λ w. omega arith, (λ w. omega arith, (λ w. omega arith, (λ w. omega arith, (λ w. absurd w, tt))))),
  ),
)

-- "fewer than five offers of priority 0 are accepted while it waits": four are; others of another priority, refused, or once it
-- is gone do not count
abbrev four_more : List (Call × Answer)
four_more =
    (offering 6 2 0 1 99, Taken)
    ∷ (offering 6 3 0 1 99, Taken)
    ∷ (offering 6 4 1 1 99, Taken)
    ∷ (offering 6 5 0 1 99, Taken)
    ∷ (offering 6 6 0 1 99, Taken)
    ∷ []

abbrev four_behind : List Entry
four_behind =
    entry (packet 2 0 1 99 1) 1 0 2
    ∷ entry (packet 3 0 1 99 1) 2 0 3
    ∷ entry (packet 5 0 1 99 1) 3 0 4
    ∷ entry (packet 6 0 1 99 1) 4 0 5
    ∷ []

later : All (λ (l : Entry). 1 < l.ordinal) four_behind
later = (omega arith, (omega arith, (omega arith, (omega arith, tt))))

gone : (ls : List Entry) → All (λ (l : Entry). 1 < l.ordinal) ls → Among alone ls → ⊥
gone ls h there = omega (arith, all_of (λ (l : Entry). 1 < l.ordinal) alone ls h there)

four-of_priority_0 :
    FewerThanFive alone only_one
    (four_more ++ (offering 6 7 0 1 99, Refused 8) ∷ sent 7 ∷ (offering 7 8 0 1 99, Taken) ∷ [])
unfolding of_runs
four-of_priority_0 = (
  λ w. omega arith,
  (
    λ w. omega arith,
    (
      λ w. omega arith,
      (
        λ w. omega arith,
        (
          λ w. omega arith,
          (
            λ w. omega arith,
            (λ w. omega arith, (λ w. absurd (gone four_behind later w), tt)),
          ),
        ),
      ),
    ),
  ),
)

five_of_priority_0 : FewerThanFive alone only_one (four_more ++ (offering 6 7 0 1 99, Taken) ∷ []) → ⊥
unfolding of_runs
five_of_priority_0 h = omega (arith, h.1.1.1.1.1.0 (inl refl))
