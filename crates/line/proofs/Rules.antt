-- A list in order of arrival is sound exactly if its four parts are: each rule of a packet goes from the list to its parts and
-- back, and five to a priority is what each part's length says.
use Prim.Native.Nat.{ℕ, ◌+◌, ◌≤◌, ◌<◌}
use mathlib.Core.Path.{◌≡◌, refl, sym, subst}
use mathlib.Core.Bool.{Bool, true, false}
use mathlib.Core.List.{List, [], ◌∷◌}
use native.Mathlib.Omega.{arith}
use lib.Dec.{leb, eqb}
use lib.ListN.{length}
use borrow.Author.Tests.{eqb-true, le-leb, eq-eqb}
use Rattle.rules.specs.Tests.{all_of}
use Rattle.rules.specs.Profiles.{last_priority, ontime_allowed, lifetime_allowed, room}
use Rattle.rules.proofs.Cases.{on_cond, clash, both}
use Rattle.rules.proofs.Tests.{tested, all_true}
use Rattle.model.specs.declared.Packet.{Packet}
use Rattle.model.specs.Packets.{limit_rules, in_order, chosen}
use Rattle.model.specs.Queues.{queue_sound, queue_rules}
use Rattle.model.specs.Claims.{All}
use Rattle.model.proofs.Orders.{InOrder, test_order, order_test, order_more}
use Rattle.model.proofs.SoundQueues.{Own, test_queued, queued_test}
use Rattle.line.specs.Line.{count_of, goes_before, best, picked, allowed_packet, at_most_five, list_rules}
use Rattle.line.specs.Same.{of, parted}
use Rattle.line.proofs.Parts.{by_four, Came, Arrived, count_of_lem, length-parted}

-- on-time and lifetime within their limits
abbrev Allowed : (profile : ℕ) → Packet → Type 0
Allowed profile p = (ontime_allowed profile p.ontime ≡ true) × (lifetime_allowed p.lifetime ≡ true)

-- a packet that came, within its limits
abbrev Good : (profile now : ℕ) → Packet → Type 0
Good profile now p = Came now p × Allowed profile p

test_good : (profile now : ℕ) (p : Packet) → allowed_packet profile now p ≡ true → Good profile now p
test_good profile now p e =
    let b = both (leb p.priority last_priority) (all_of (limit_rules profile now p)) e in
    let h = all_true (limit_rules profile now p) b.1 in
    ((omega (tested, b.0), omega (tested, h.1.1.0)), (h.0, h.1.0))

good_test : (profile now : ℕ) (p : Packet) → Good profile now p → allowed_packet profile now p ≡ true
good_test profile now p h = rw (le-leb _ _ h.0.0, h.1.0, h.1.1, le-leb _ _ h.0.1)

-- a sound list has arrived
pub test_arrived : (profile now : ℕ) (ps : List Packet) → in_order (allowed_packet profile now) 0 ps ≡ true → Arrived now 0 ps
test_arrived profile now ps e =
    order_more (Good profile now) (Came now) (λ p h. h.0) 0 0 ps (omega arith)
    (test_order (allowed_packet profile now) (Good profile now) (test_good profile now) 0 ps e)

-- the packet picked is one of them, so it is within its limits
best_good : (P : Packet → Type 0) (since : ℕ) (p : Packet) (ps : List Packet) → P p → InOrder P since ps → P (best p ps)
unfolding best
best_good P since p [] h k = h
best_good P since p (q ∷ qs) h k =
    on_cond P (goes_before q p) (λ e. best_good P q.arrival q qs k.0 k.2) (λ e. best_good P q.arrival p qs h k.2)

pub picked_ontime : (profile now : ℕ) (ps : List Packet) (p : Packet) (left : List Packet)
    → all_of (list_rules profile now ps) ≡ true → picked ps ≡ chosen p left → ontime_allowed profile p.ontime ≡ true
unfolding picked
picked_ontime profile now [] p left e f = clash (cc)
picked_ontime profile now (q ∷ qs) p left e f =
    let h = test_order (allowed_packet profile now) (Good profile now) (test_good profile now) 0 (q ∷ qs)
    (all_true (list_rules profile now (q ∷ qs)) e).0 in
    let same : best q qs ≡ p = cc in
    subst (λ (x : Packet). ontime_allowed profile x.ontime ≡ true) same
    (best_good (Good profile now) q.arrival q qs h.0 h.2).1.0

-- a list's part
part_order : (profile now n since less : ℕ) (ps : List Packet) → less ≤ since → InOrder (Good profile now) since ps
    → InOrder (Own profile now n) less (of n ps)
unfolding of
part_order profile now n since less [] b h = tt
part_order profile now n since less (p ∷ ps) b h =
    on_cond (InOrder (Own profile now n) less) (eqb p.priority n)
    (λ e. (
      record {
        priority_is = eqb-true p.priority n e;
        ontime = h.0.1.0;
        lifetime = h.0.1.1;
        arrived = h.0.0.1;
      },
      omega (arith, h.1),
      part_order profile now n p.arrival p.arrival ps (omega arith) h.2,
    ))
    (λ e. part_order profile now n p.arrival less ps (omega (arith, h.1)) h.2)

-- and back: what is allowed in each part is allowed in the list
order_allowed : (profile now n since : ℕ) (ps : List Packet) → InOrder (Own profile now n) since ps → All (Allowed profile) ps
order_allowed profile now n since [] h = tt
order_allowed profile now n since (p ∷ ps) h =
    ((h.0.ontime, h.0.lifetime), order_allowed profile now n p.arrival ps h.2)

tail_allowed : (profile n : ℕ) (p : Packet) (ps : List Packet) → All (Allowed profile) (of n (p ∷ ps))
    → All (Allowed profile) (of n ps)
unfolding of
tail_allowed profile n p ps =
    on_cond (λ (l : List Packet). All (Allowed profile) l → All (Allowed profile) (of n ps)) (eqb p.priority n)
    (λ e h. h.1) (λ e h. h)

front_allowed : (profile : ℕ) (p : Packet) (ps : List Packet) → All (Allowed profile) (of p.priority (p ∷ ps))
    → Allowed profile p
unfolding of
front_allowed profile p ps h = let g = rw (eq-eqb p.priority p.priority refl) at h in g.0

all_good : (profile now since : ℕ) (ps : List Packet) → Arrived now since ps
    → ((n : ℕ) → n ≤ last_priority → All (Allowed profile) (of n ps)) → InOrder (Good profile now) since ps
all_good profile now since [] a h = tt
all_good profile now since (p ∷ ps) a h = (
  (a.0, front_allowed profile p ps (h p.priority a.0.0)),
  a.1,
  all_good profile now p.arrival ps a.2 (λ n k. tail_allowed profile n p ps (h n k)),
)

-- five to a priority, and the rules of its queue
module _ (profile now n : ℕ) (ps : List Packet) where
  part_queued : InOrder (Good profile now) 0 ps → at_most_five n ps ≡ true → queue_sound profile now n (of n ps) ≡ true
  part_queued h e =
      queued_test profile now n (of n ps)
      (record { size = omega (tested, e, count_of_lem n ps); order = part_order profile now n 0 0 ps (omega arith) h })

  queued_five : queue_sound profile now n (of n ps) ≡ true → at_most_five n ps ≡ true
  queued_five e = le-leb (count_of n ps) room (omega (arith, (test_queued profile now n (of n ps) e).size, count_of_lem n ps))

  queued_allowed : queue_sound profile now n (of n ps) ≡ true → All (Allowed profile) (of n ps)
  queued_allowed e = order_allowed profile now n 0 (of n ps) (test_queued profile now n (of n ps) e).order

module _ (profile now : ℕ) (ps : List Packet) where
  list_queues : all_of (list_rules profile now ps) ≡ true → all_of (queue_rules profile now (parted ps)) ≡ true
  list_queues e =
      let h = all_true (list_rules profile now ps) e in
      let g = test_order (allowed_packet profile now) (Good profile now) (test_good profile now) 0 ps h.0 in
      rw (
        part_queued profile now 0 ps g h.1.0,
        part_queued profile now 1 ps g h.1.1.0,
        part_queued profile now 2 ps g h.1.1.1.0,
        part_queued profile now 3 ps g h.1.1.1.1.0,
      )

  queues_list : Arrived now 0 ps → all_of (queue_rules profile now (parted ps)) ≡ true
      → all_of (list_rules profile now ps) ≡ true
  queues_list a e =
      let h = all_true (queue_rules profile now (parted ps)) e in
      let allowed =
      by_four (λ n. All (Allowed profile) (of n ps)) (queued_allowed profile now 0 ps h.0)
      (queued_allowed profile now 1 ps h.1.0) (queued_allowed profile now 2 ps h.1.1.0)
      (queued_allowed profile now 3 ps h.1.1.1.0) in
      rw (
        order_test (allowed_packet profile now) (Good profile now) (good_test profile now) 0 ps
            (all_good profile now 0 ps a allowed),
        queued_five profile now 0 ps h.0,
        queued_five profile now 1 ps h.1.0,
        queued_five profile now 2 ps h.1.1.0,
        queued_five profile now 3 ps h.1.1.1.0,
      )

same_test : (u v : Bool) → (u ≡ true → v ≡ true) → (v ≡ true → u ≡ true) → u ≡ v
same_test true v f g = sym (f refl)
same_test false true f g = g refl
same_test false false f g = refl

pub same_rules : (profile now : ℕ) (ps : List Packet) → Arrived now 0 ps
    → all_of (list_rules profile now ps) ≡ all_of (queue_rules profile now (parted ps))
same_rules profile now ps a = same_test _ _ (list_queues profile now ps) (queues_list profile now ps a)

-- five of each of four priorities make twenty, and there is a place for one more of a priority that has fewer
module _ (profile now : ℕ) (ps : List Packet) where
  sums : all_of (list_rules profile now ps) ≡ true
      → (length ps ≡ count_of 0 ps + count_of 1 ps + count_of 2 ps + count_of 3 ps)
      × (count_of 0 ps ≤ room) × (count_of 1 ps ≤ room) × (count_of 2 ps ≤ room) × (count_of 3 ps ≤ room)
  sums e =
      let h = all_true (list_rules profile now ps) e in (
        omega (
          arith,
          length-parted now 0 ps (test_arrived profile now ps h.0),
          count_of_lem 0 ps,
          count_of_lem 1 ps,
          count_of_lem 2 ps,
          count_of_lem 3 ps,
        ),
        omega (tested, h.1.0),
        omega (tested, h.1.1.0),
        omega (tested, h.1.1.1.0),
        omega (tested, h.1.1.1.1.0),
      )

  pub at_most_twenty : all_of (list_rules profile now ps) ≡ true → length ps ≤ 20
  at_most_twenty e = let s = sums e in omega (arith, s.0, s.1, s.2, s.3, s.4)

  pub place_left : (n : ℕ) → all_of (list_rules profile now ps) ≡ true → n ≤ last_priority → count_of n ps < room
      → length ps < 20
  place_left n e h =
      let s = sums e in
      by_four (λ k. count_of k ps < room → length ps < 20)
      (λ m. omega (arith, s.0, s.1, s.2, s.3, s.4)) (λ m. omega (arith, s.0, s.1, s.2, s.3, s.4))
      (λ m. omega (arith, s.0, s.1, s.2, s.3, s.4)) (λ m. omega (arith, s.0, s.1, s.2, s.3, s.4)) n h
