-- CLOSED's number is the least: the wait is over d µs later exactly if what is left of it is at most d, enough admissions have
-- aged exactly if what is left until then is, and a poll sends exactly if both are so.
use Prim.Native.Nat.{ℕ, ◌+◌, ◌-◌, ◌≤◌, ◌<◌, max}
use mathlib.Core.Path.{◌≡◌, refl, ap, ap₂, sym, ◌∙◌}
use mathlib.Core.Bool.{Bool, true, false, cond, not, ◌&&◌}
use mathlib.Core.List.{List}
use native.Mathlib.Nat.{add_assoc}
use native.Mathlib.Omega.{arith}
use lib.Dec.{leb, ltb, eqb}
use borrow.Author.Tests.{leb-true, eqb-false, le-leb, lt-leb, not-false}
use Rattle.rules.proofs.Cases.{on_cond, on_test, both, clash}
use Rattle.rules.proofs.Tests.{tested, all_true}
use Rattle.rules.proofs.Profiles.{ontime_le}
use Rattle.model.specs.declared.Packet.{Packet}
use Rattle.model.specs.declared.Admission.{Admission}
use Rattle.model.specs.declared.Answer.TheVariants.{Closed}
use Rattle.model.specs.Packets.{Chosen, nothing, chosen, Holding}
use Rattle.model.specs.Queues.{in_queues}
use Rattle.model.specs.Calls.{poll, is_sent}
use Rattle.model.specs.Ledger.{most_air, young, air_allows, allowed_from}
use Rattle.model.specs.State.{Status, View, status_rules, sound}
use Rattle.model.specs.Effects.{Result, refreshed, closed_for, since_last, closed, wait_left, air_left, may_send, polled, effect}
use Rattle.model.specs.Gate.{checks, call, waited, ClosedIsLeast}
use Rattle.model.proofs.Aging.{AllNoted, noted-later, all-young, young-young, allowed_from_lem}
use Rattle.model.proofs.Refusals.{on_call}
use Rattle.model.proofs.Sound.{SoundView, test_last}
use Rattle.model.proofs.SoundLedger.{test_ledger}
use Rattle.model.proofs.Staying.{Staying, queues_stay}

-- tests of numbers
leb_less : (a b d : ℕ) → leb a (b + d) ≡ leb (a - b) d
leb_less a b d =
    on_test (λ u. u ≡ leb (a - b) d) (leb a (b + d)) (λ e. sym (le-leb (a - b) d (omega tested)))
    (λ e. sym (lt-leb (a - b) d (omega tested)))

leb-max : (a b d : ℕ) → leb a d && leb b d ≡ leb (max a b) d
leb-max a b d =
    on_test (λ u. u && leb b d ≡ leb (max a b) d) (leb a d)
    (λ e. on_test (λ u. u ≡ leb (max a b) d) (leb b d) (λ f. sym (le-leb (max a b) d (omega tested)))
    (λ f. sym (lt-leb (max a b) d (omega tested))))
    (λ e. sym (lt-leb (max a b) d (omega tested)))

is_sent_lem : {h : Holding} (u : Bool) (x y : Result h) → is_sent x.answer ≡ true → is_sent y.answer ≡ false
    → is_sent (cond u x y).answer ≡ u
is_sent_lem true x y a b = a
is_sent_lem false x y a b = b

leb-zero : (n : ℕ) → leb n 0 ≡ eqb n 0
leb-zero n =
    on_test (λ u. leb n 0 ≡ u) (eqb n 0) (λ e. le-leb n 0 (omega tested))
    (λ e. lt-leb n 0 (positive n (eqb-false n 0 e)))
  where
    positive : (n : ℕ) → (n ≡ 0 → ⊥) → 0 < n
    positive n h = omega arith

-- numbers that are told apart by no test are one
same_tests : (a b : ℕ) → ((d : ℕ) → leb a d ≡ leb b d) → a ≡ b
same_tests a b f =
    omega (arith, leb-true b a (sym (f a) ∙ le-leb a a (omega arith)), leb-true a b (f b ∙ le-leb b b (omega arith)))

-- what is left until a packet may go: CLOSED's number
abbrev pub left_of : {h : Holding} → Status h → Packet → ℕ
left_of v p = max (wait_left v) (air_left v p)

-- what a sound state says of times, whatever way packets wait
pub record InTime {h : Holding} (v : Status h) : Type 0 where
  pub past : v.last.at ≤ v.clock.time
  pub noted : AllNoted v.control.profile v.clock.time 0 v.ledger

pub in_good_time : {h : Holding} (v : Status h) → sound v ≡ true → InTime v
unfolding sound
in_good_time v e =
    let r = all_true (status_rules v) e in
    record {
      past = (test_last v.control.profile v.clock.time v.last r.1.1.1.1.0).past;
      noted =
          (test_ledger v.control.profile v.clock.time v.last v.ledger r.1.1.1.1.1.1.1.0).noted;
    }

module _ {h : Holding} (v : Status h) (t : InTime v) where
  -- and still does later
  in_time-later : (d : ℕ) → InTime (waited v d)
  in_time-later d =
      record {
        past = omega (arith, t.past);
        noted = noted-later v.control.profile v.clock.time (v.clock.time + d) 0 v.ledger (omega arith) t.noted;
      }

  wait_over : (d : ℕ) → not (closed (waited v d)) ≡ leb (wait_left v) d
  unfolding closed
  wait_over d =
      let past = t.past in
      on_test (λ u. not (u && ltb (since_last (waited v d)) (closed_for v)) ≡ leb
      (cond (u && ltb (since_last v) (closed_for v)) some 0) d)
      (eqb v.last.admitted 1)
      (λ e. on_test (λ u. not u ≡ leb (cond (ltb (since_last v) (closed_for v)) some 0) d)
      (ltb (since_last (waited v d)) (closed_for v))
      (λ f. on_cond (λ n. false ≡ leb n d) (ltb (since_last v) (closed_for v)) (λ g. sym (lt-leb some d (omega tested)))
      (λ g. absurd (omega tested)))
      (λ f. on_cond (λ n. true ≡ leb n d) (ltb (since_last v) (closed_for v)) (λ g. sym (le-leb some d (omega tested)))
      (λ g. sym (le-leb 0 d (omega arith)))))
      (λ e. sym (le-leb 0 d (omega arith)))
    where
      some : ℕ
      some = closed_for v - since_last v

  enough_aged : (p : Packet) (d : ℕ) → p.ontime ≤ most_air → air_allows p.ontime (waited v d).ledger ≡ leb (air_left v p) d
  enough_aged p d o =
      allowed_from_lem p.ontime v.control.profile v.clock.time 0 v.clock.time (v.clock.time + d) v.ledger o
      t.noted (omega arith)
      ∙ leb_less (allowed_from p.ontime v.clock.time v.ledger) v.clock.time d

  -- a packet may go d µs later exactly if d is at least what is left
  pub sends_after : (p : Packet) (d : ℕ) → p.ontime ≤ most_air → may_send (waited v d) p ≡ leb (left_of v p) d
  sends_after p d o = ap₂ (λ a b. a && b) (wait_over d) (enough_aged p d o) ∙ leb-max (wait_left v) (air_left v p) d

-- to wait twice is to wait once
twice_waited : {h : Holding} (v : Status h) (p : Packet) (d e : ℕ)
    → may_send (waited (waited v d) e) p ≡ may_send (waited v (d + e)) p
unfolding closed
twice_waited v p d e =
    rw (young-young (v.clock.time + d) (v.clock.time + d + e) v.ledger (omega arith), add_assoc v.clock.time d e) refl

-- what is left d µs later is d less
pub left_after : {h : Holding} (v : Status h) (p : Packet) (d : ℕ) → InTime v → p.ontime ≤ most_air
    → left_of (waited v d) p ≡ left_of v p - d
left_after v p d t o =
    same_tests (left_of (waited v d) p) (left_of v p - d)
    (λ e. sym (sends_after (waited v d) (in_time-later v t d) p e o)
    ∙ twice_waited v p d e
    ∙ sends_after v t p (d + e) o
    ∙ leb_less (left_of v p) d e)

-- a packet may go exactly if nothing is left of either wait; and what is left of the second can be told before anything is
-- dropped
pub may_send_lem : (v : View) (p : Packet) → SoundView v → p.ontime ≤ most_air → may_send v p
    ≡ eqb (max (wait_left v) (air_left v p)) 0
unfolding closed
may_send_lem v p h o =
    ap₂ (λ a b. a && b) open_now allowed_now ∙ leb-max (wait_left v) (air_left v p) 0
    ∙ leb-zero (max (wait_left v) (air_left v p))
  where
    some : ℕ
    some = closed_for v - since_last v

    open_now : not (closed v) ≡ leb (wait_left v) 0
    open_now =
        on_test (λ u. not u ≡ leb (cond u some 0) 0) (closed v)
        (λ e. sym (lt-leb some 0 (omega (tested, (both (eqb v.last.admitted 1) (ltb (since_last v) (closed_for v)) e).1))))
        (λ e. refl)

    allowed_now : air_allows p.ontime v.ledger ≡ leb (air_left v p) 0
    allowed_now =
        ap (air_allows p.ontime) (sym (all-young v.control.profile v.clock.time 0 v.ledger h.ledger.noted))
        ∙ allowed_from_lem p.ontime v.control.profile v.clock.time 0 v.clock.time v.clock.time v.ledger o
        h.ledger.noted
        (omega arith)
        ∙ on_test (λ u. u ≡ leb (air_left v p) 0) (leb (allowed_from p.ontime v.clock.time v.ledger) v.clock.time)
        (λ e. sym (le-leb (air_left v p) 0 (omega tested))) (λ e. sym (lt-leb (air_left v p) 0 (omega tested)))

pub air_same : (ontime profile then now : ℕ) (l : List Admission) → ontime ≤ most_air → AllNoted profile then 0 l → then ≤ now
    → allowed_from ontime now (young now l) - now ≡ allowed_from ontime now l - now
air_same ontime profile then now l o h s =
    same_tests (allowed_from ontime now (young now l) - now) (allowed_from ontime now l - now)
    (λ d. sym (leb_less (allowed_from ontime now (young now l)) now d)
    ∙ sym (allowed_from_lem ontime profile now 0 now (now + d) (young now l) o (noted-later profile then now 0 l s h)
    (omega arith))
    ∙ ap (air_allows ontime) (young-young now (now + d) l (omega arith))
    ∙ allowed_from_lem ontime profile then 0 now (now + d) l o h (omega arith)
    ∙ leb_less (allowed_from ontime now l) now d)

-- a poll that was CLOSED: the state was sound and is refreshed, a packet goes next, and the number is what is left for it
pub record ClosedPoll {h : Holding} (v : Status h) (stamp n : ℕ) : Type 0 where
  pub packet : Packet
  pub others : h.Held
  pub chosen_next : h.next (refreshed v stamp).waiting ≡ chosen packet others
  pub left : left_of (refreshed v stamp) packet ≡ n
  pub after : (call v (poll stamp)).view ≡ refreshed v stamp
  pub was_sound : sound v ≡ true

abbrev Shut : {h : Holding} → Status h → (stamp n : ℕ) → Chosen h.Held → Result h → Type 0
Shut {h} v stamp n c o =
    o.answer ≡ Closed n → (p : Packet) × (others : h.Held)
    × (c ≡ chosen p others) × (left_of (refreshed v stamp) p ≡ n) × (o.view ≡ refreshed v stamp)

shut : {h : Holding} (v : Status h) (stamp n : ℕ) (c : Chosen h.Held) → Shut v stamp n c (polled (refreshed v stamp) c)
shut v stamp n nothing = λ r. clash (cc)
shut v stamp n (chosen p others) =
    on_cond (Shut v stamp n (chosen p others)) (may_send (refreshed v stamp) p) (λ u r. clash (cc))
    (λ u r. (p, others, refl, cc, refl))

pub closed_poll : {h : Holding} (v : Status h) (stamp n : ℕ) → (call v (poll stamp)).answer ≡ Closed n → ClosedPoll v stamp n
unfolding effect checks
closed_poll {h} v stamp n r =
    let k = on_call (λ (o : Result h). o.answer ≡ Closed n → Shut v stamp n (h.next (refreshed v stamp).waiting) o
    × (sound v ≡ true)) v (poll stamp)
    (λ k s. (shut v stamp n (h.next (refreshed v stamp).waiting), not-false _ k.0))
    (λ m s. clash (cc))
    r in
    let f = k.0 r in
    record { packet = f.0; others = f.1; chosen_next = f.2; left = f.3; after = f.4; was_sound = k.1 }

module _ {h : Holding} (laws : Staying h) (v : Status h) (stamp n : ℕ) (r : (call v (poll stamp)).answer ≡ Closed n) where
  abbrev then : Status h
  then = refreshed v stamp

  abbrev shut_poll : ClosedPoll v stamp n
  shut_poll = closed_poll v stamp n r

  pub still_sound : sound then ≡ true
  still_sound = ap sound (sym shut_poll.after) ∙ laws.keeps v (poll stamp) shut_poll.was_sound

  pub small : shut_poll.packet.ontime ≤ most_air
  small =
      let k = shut_poll in
      omega (
        arith,
        ontime_le v.control.profile k.packet.ontime
            (laws.allowed then k.packet k.others still_sound k.chosen_next),
      )

  pub is_least : (d : ℕ) → is_sent (polled (waited then d) (h.next then.waiting)).answer ≡ leb n d
  is_least d =
      let k = shut_poll in
      rw k.chosen_next
      (is_sent_lem (may_send (waited then d) k.packet) _ _ refl refl
      ∙ sends_after then (in_good_time then still_sound) k.packet d small
      ∙ ap (λ m. leb m d) k.left)

pub closed_is_least : ClosedIsLeast in_queues
closed_is_least = is_least queues_stay
