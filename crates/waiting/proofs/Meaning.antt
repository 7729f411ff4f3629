-- What the rows mean to the model: four lists of packets. What the code does to the rows is what the model does to the lists.
use Prim.Native.Nat.{ℕ, ◌≤◌, ◌<◌}
use mathlib.Core.Path.{◌≡◌, refl, ap, sym, ◌∙◌, subst⁻¹}
use mathlib.Core.Bool.{Bool, true, false, cond, ◌&&◌}
use mathlib.Core.List.{List, [], ◌∷◌, map}
use native.Mathlib.Omega.{arith}
use lib.Dec.{eqb, leb}
use lib.ListN.{length, drop, length-map}
use borrow.Author.Tests.{eqb-true, leb-true}
use Rattle.rules.specs.Tests.{all_of}
use Rattle.rules.specs.Profiles.{room}
use Rattle.rules.proofs.Cases.{both, split}
use Rattle.rules.proofs.Tests.{all_true}
use Rattle.model.specs.declared.Packet.{Packet}
use Rattle.model.specs.Packets.{without_expired, in_order, limit_rules, Chosen, nothing, chosen}
use Rattle.model.specs.Fours.{Four, four, each, change, how_many}
use Rattle.model.specs.Queues.{own_packet, queue_sound, queue_rules, choice}
use Rattle.model.specs.Claims.{All}
use Rattle.waiting.specs.declared.Cell.{Cell}
use Rattle.waiting.specs.declared.Found.{Found}
use Rattle.std.proofs.Common.{Option, Some, None}
use Rattle.waiting.specs.Layout.{Rows, Sized, packet_in, cell_of, queues, laid, Held, changed}
use Rattle.waiting.specs.Layout.{own_packets, cells_of, four_of, waiting_in, rows_for, is_live, alive}
use Rattle.waiting.specs.Layout.{count_in, first_or, found_from}
use Rattle.waiting.proofs.Wholes.{by_four, Short, queues_short, queues-laid, laid_sized, four-queues}
use Rattle.waiting.proofs.Searching.{live_short}

-- packets and cells
own_alive : (now k : ℕ) (cs : List Cell) → own_packets k (alive now cs) ≡ without_expired now (own_packets k cs)
unfolding alive without_expired
own_alive now k [] = refl
own_alive now k (c ∷ cs) = go (is_live now c) (own_alive now k cs)
  where
    go : (b : Bool) → own_packets k (alive now cs) ≡ without_expired now (own_packets k cs)
        → own_packets k (cond b (c ∷ alive now cs) (alive now cs))
        ≡ cond b (packet_in k c ∷ without_expired now (own_packets k cs)) (without_expired now (own_packets k cs))
    go true e = ap (λ (ps : List Packet). packet_in k c ∷ ps) e
    go false e = e

pub own_drop : (k : ℕ) (cs : List Cell) → own_packets k (drop 1 cs) ≡ drop 1 (own_packets k cs)
own_drop k [] = refl
own_drop k (c ∷ cs) = refl

cells_own : (k : ℕ) (cs : List Cell) → cells_of (own_packets k cs) ≡ cs
cells_own k [] = refl
cells_own k (c ∷ cs) = ap (λ (x : List Cell). c ∷ x) (cells_own k cs)

-- packets of a queue's own priority
abbrev pub Owned : (priority : ℕ) → List Packet → Type 0
Owned priority ps = (length ps ≤ room) × All (λ (p : Packet). p.priority ≡ priority) ps

own_cells : (k : ℕ) (ps : List Packet) → All (λ (p : Packet). p.priority ≡ k) ps → own_packets k (cells_of ps) ≡ ps
own_cells k [] h = refl
own_cells k (p ∷ ps) h = λ i. same i ∷ own_cells k ps h.1 i
  where
    same : packet_in k (cell_of p) ≡ p
    same =
        λ i.
        record {
          id = p.id;
          priority = sym h.0 i;
          ontime = p.ontime;
          lifetime = p.lifetime;
          arrival = p.arrival;
        }

pub record AllOwned (q : Four Packet) : Type 0 where
  pub c0 : Owned 0 q.c0
  pub c1 : Owned 1 q.c1
  pub c2 : Owned 2 q.c2
  pub c3 : Owned 3 q.c3

-- four lists laid out and read again
abbrev lists_of : Four Packet → List (List Cell)
lists_of q = cells_of q.c0 ∷ cells_of q.c1 ∷ cells_of q.c2 ∷ cells_of q.c3 ∷ []

lists_short : (q : Four Packet) → AllOwned q → Short (lists_of q)
lists_short q o =
    (short q.c0 o.c0.0, (short q.c1 o.c1.0, (short q.c2 o.c2.0, (short q.c3 o.c3.0, tt))))
  where
    short : (ps : List Packet) → length ps ≤ room → length (cells_of ps) ≤ room
    short ps h = omega (arith, length-map ps (λ (p : Packet). cell_of p))

pub waiting_rows : (q : Four Packet) → AllOwned q → waiting_in (rows_for q) ≡ q
unfolding rows_for four_of
waiting_rows q o =
    ap four_of (queues-laid (lists_of q) refl (lists_short q o))
    ∙ (λ i. four (own_cells 0 q.c0 o.c0.1 i) (own_cells 1 q.c1 o.c1.1 i) (own_cells 2 q.c2 o.c2.1 i)
    (own_cells 3 q.c3 o.c3.1 i))

pub rows_sized : (q : Four Packet) → AllOwned q → Sized 4 (rows_for q)
unfolding rows_for
rows_sized q o = laid_sized (lists_of q) (lists_short q o) refl

pub rows_four : (a b c d : List Cell) → rows_for (four_of (a ∷ b ∷ c ∷ d ∷ [])) ≡ laid (a ∷ b ∷ c ∷ d ∷ [])
unfolding rows_for four_of
rows_four a b c d = λ i. laid (cells_own 0 a i ∷ cells_own 1 b i ∷ cells_own 2 c i ∷ cells_own 3 d i ∷ [])

pub rows_waiting : (r : Rows) → rows_for (waiting_in r) ≡ laid (queues r)
unfolding queues
rows_waiting r = rows_four _ _ _ _

-- what rows mean is owned, and so is what a sound state holds
own_all : (k : ℕ) (cs : List Cell) → All (λ (p : Packet). p.priority ≡ k) (own_packets k cs)
own_all k [] = tt
own_all k (c ∷ cs) = (refl, own_all k cs)

four_owned : (a b c d : List Cell) → Short (a ∷ b ∷ c ∷ d ∷ []) → AllOwned (four_of (a ∷ b ∷ c ∷ d ∷ []))
unfolding four_of
four_owned a b c d h =
    record { c0 = own 0 a h.0; c1 = own 1 b h.1.0; c2 = own 2 c h.1.1.0; c3 = own 3 d h.1.1.1.0 }
  where
    own : (k : ℕ) (cs : List Cell) → length cs ≤ room → Owned k (own_packets k cs)
    own k cs h = (omega (arith, length-map cs (λ (c : Cell). packet_in k c)), own_all k cs)

pub waiting_owned : (r : Rows) → Sized 4 r → AllOwned (waiting_in r)
unfolding queues
waiting_owned r s = four_owned _ _ _ _ (queues_short r s)

order_owned : (profile now k since : ℕ) (ps : List Packet) → in_order (own_packet profile now k) since ps ≡ true
    → All (λ (p : Packet). p.priority ≡ k) ps
unfolding in_order
order_owned profile now k since [] e = tt
order_owned profile now k since (p ∷ ps) e =
    let a = both (own_packet profile now k p && leb since p.arrival) (in_order (own_packet profile now k) p.arrival ps) e in
    let b = both (own_packet profile now k p) (leb since p.arrival) a.0 in
    let c = both (eqb p.priority k) (all_of (limit_rules profile now p)) b.0 in
    (eqb-true p.priority k c.0, order_owned profile now k p.arrival ps a.1)

queue_owned : (profile now k : ℕ) (ps : List Packet) → queue_sound profile now k ps ≡ true → Owned k ps
unfolding queue_sound
queue_owned profile now k ps e =
    let a = both (leb (length ps) room) (in_order (own_packet profile now k) 0 ps) e in
    (leb-true (length ps) room a.0, order_owned profile now k 0 ps a.1)

pub sound_owned : (profile now : ℕ) (q : Four Packet) → all_of (queue_rules profile now q) ≡ true → AllOwned q
sound_owned profile now q e =
    let h = all_true (queue_rules profile now q) e in
    record {
      c0 = queue_owned profile now 0 q.c0 h.0;
      c1 = queue_owned profile now 1 q.c1 h.1.0;
      c2 = queue_owned profile now 2 q.c2 h.1.1.0;
      c3 = queue_owned profile now 3 q.c3 h.1.1.1.0;
    }

-- the expired gone, how many, and the front one of queue k gone: from the rows and from the lists
module _ (a b c d : List Cell) where
  abbrev four_lists : List (List Cell)
  four_lists = a ∷ b ∷ c ∷ d ∷ []

  four-alive : (now : ℕ) → four_of (map (alive now) four_lists) ≡ each (without_expired now) (four_of four_lists)
  unfolding four_of
  four-alive now = λ i. four (own_alive now 0 a i) (own_alive now 1 b i) (own_alive now 2 c i) (own_alive now 3 d i)

  four_count : count_in four_lists ≡ how_many (four_of four_lists)
  unfolding four_of count_in
  four_count = simp length-map (omega arith)

  four_popped : (k : ℕ) → k < 4 → laid (changed k (drop 1) four_lists) ≡ rows_for (change k (drop 1) (four_of four_lists))
  unfolding four_of
  four_popped =
      by_four (λ k. laid (changed k (drop 1) four_lists) ≡ rows_for (change k (drop 1) (four_of four_lists)))
      (sym (rows_four (drop 1 a) b c d)
      ∙ ap (λ (ps : List Packet). rows_for (four ps (own_packets 1 b) (own_packets 2 c) (own_packets 3 d))) (own_drop 0 a))
      (sym (rows_four a (drop 1 b) c d)
      ∙ ap (λ (ps : List Packet). rows_for (four (own_packets 0 a) ps (own_packets 2 c) (own_packets 3 d))) (own_drop 1 b))
      (sym (rows_four a b (drop 1 c) d)
      ∙ ap (λ (ps : List Packet). rows_for (four (own_packets 0 a) (own_packets 1 b) ps (own_packets 3 d))) (own_drop 2 c))
      (sym (rows_four a b c (drop 1 d))
      ∙ ap (λ (ps : List Packet). rows_for (four (own_packets 0 a) (own_packets 1 b) (own_packets 2 c) ps)) (own_drop 3 d))

module _ (r : Rows) where
  pub each-alive : (now : ℕ) → four_of (map (alive now) (queues r)) ≡ each (without_expired now) (waiting_in r)
  unfolding queues
  each-alive now = four-alive _ _ _ _ now

  pub rows-alive : (now : ℕ) → laid (map (alive now) (queues r)) ≡ rows_for (each (without_expired now) (waiting_in r))
  unfolding queues
  rows-alive now = sym (rows_four _ _ _ _) ∙ ap rows_for (each-alive now)

  pub how_many_lem : count_in (queues r) ≡ how_many (waiting_in r)
  unfolding queues
  how_many_lem = four_count _ _ _ _

  pub how_many-alive : (now : ℕ) → count_in (map (alive now) (queues r)) ≡ how_many (each (without_expired now) (waiting_in r))
  unfolding queues
  how_many-alive now = four_count _ _ _ _ ∙ ap how_many (each-alive now)

  pub rows_popped : (k : ℕ) → k < 4 → laid (changed k (drop 1) (queues r)) ≡ rows_for (change k (drop 1) (waiting_in r))
  unfolding queues
  rows_popped k b = four_popped _ _ _ _ k b

-- what a find means to the model: the packet, and the lists that it leaves
abbrev pub meant : Four Packet → Option Found → Chosen (Four Packet)
meant q None = nothing
meant q (Some f) = chosen (packet_in f.queue f.cell) (change f.queue (drop 1) q)

-- one of the four queues
abbrev pub InQueues : Option Found → Type 0
InQueues None = Unit {0}
InQueues (Some f) = f.queue < 4

alive-alive : (now : ℕ) (cs : List Cell) → alive now (alive now cs) ≡ alive now cs
unfolding alive
alive-alive now [] = refl
alive-alive now (c ∷ cs) =
    split (is_live now c) (λ e. rw (e, e, alive-alive now cs)) (λ e. rw (e, alive-alive now cs))

first_four : (a b c d : List Cell)
    → (choice (four_of (a ∷ b ∷ c ∷ d ∷ []))
    ≡ meant (four_of (a ∷ b ∷ c ∷ d ∷ [])) (first_or 0 a (first_or 1 b (first_or 2 c (first_or 3 d None)))))
    × InQueues (first_or 0 a (first_or 1 b (first_or 2 c (first_or 3 d None))))
unfolding choice four_of first_or
first_four (x ∷ a) b c d = (refl, omega arith)
first_four [] (x ∷ b) c d = (refl, omega arith)
first_four [] [] (x ∷ c) d = (refl, omega arith)
first_four [] [] [] (x ∷ d) = (refl, omega arith)
first_four [] [] [] [] = (refl, tt)

found_four : (now : ℕ) (a b c d : List Cell)
    → found_from now 0 (map (alive now) (a ∷ b ∷ c ∷ d ∷ []))
    ≡ first_or 0 (alive now a) (first_or 1 (alive now b) (first_or 2 (alive now c) (first_or 3 (alive now d) None)))
unfolding found_from
found_four now a b c d = rw (alive-alive now a, alive-alive now b, alive-alive now c, alive-alive now d)

-- among live packets the first that the search meets is the model's choice
abbrev Meets : (now : ℕ) → List (List Cell) → Type 0
Meets now qs = (choice (four_of qs) ≡ meant (four_of qs) (found_from now 0 qs)) × InQueues (found_from now 0 qs)

meets_four : (now : ℕ) (a b c d : List Cell) → Meets now (map (alive now) (a ∷ b ∷ c ∷ d ∷ []))
meets_four now a b c d =
    subst⁻¹ (λ (x : Option Found). (choice (four_of (map (alive now) (a ∷ b ∷ c ∷ d ∷ [])))
    ≡ meant (four_of (map (alive now) (a ∷ b ∷ c ∷ d ∷ []))) x) × InQueues x) (found_four now a b c d)
    (first_four (alive now a) (alive now b) (alive now c) (alive now d))

meets_live : (now : ℕ) (r : Rows) → Meets now (map (alive now) (queues r))
unfolding queues
meets_live now r = meets_four now _ _ _ _

pub chooses : (now : ℕ) (r₀ r : Rows) (f : Option Found) → Held r₀ → r ≡ laid (map (alive now) (queues r₀))
    → f ≡ found_from now 0 (queues r)
    → (choice (waiting_in r) ≡ meant (waiting_in r) f) × InQueues f
chooses now r₀ r f h e g =
    let q : queues r ≡ map (alive now) (queues r₀) =
    ap queues e ∙ queues-laid (map (alive now) (queues r₀)) (length-map (queues r₀) (alive now) ∙ four-queues r₀)
    (live_short now r₀ h) in
    subst⁻¹ (λ (x : Option Found). (choice (waiting_in r) ≡ meant (waiting_in r) x) × InQueues x) g
    (subst⁻¹ (Meets now) q (meets_live now r₀))
