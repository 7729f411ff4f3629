-- A packet joins the back of its queue, where its front one left or did not: from the rows and from the lists.
use Prim.Native.Nat.{ℕ, ◌-◌, ◌≤◌, ◌<◌}
use mathlib.Core.Path.{◌≡◌, refl, ap, sym, ◌∙◌, subst⁻¹}
use mathlib.Core.List.{List, [], ◌∷◌, ◌++◌, map}
use native.Mathlib.Omega.{arith}
use lib.ListN.{length, drop, length-map, length-set, length-drop}
use lib.Seq.{get_or-set_same}
use Rattle.rules.specs.Profiles.{room}
use Rattle.model.specs.declared.Packet.{Packet}
use Rattle.model.specs.Packets.{without_expired, at_back}
use Rattle.model.specs.Fours.{four, each, column, change}
use Rattle.waiting.specs.declared.Cell.{Cell}
use Rattle.waiting.specs.Layout.{Rows, packet_in, queues, queue_of, laid, Held, changed}
use Rattle.waiting.specs.Layout.{own_packets, four_of, waiting_in, rows_for, alive}
use Rattle.waiting.proofs.Wholes.{by_four, Short, queues_short, queues-laid, held-laid, four-queues}
use Rattle.waiting.proofs.Meaning.{rows_four, each-alive, own_drop}

own_append : (k : ℕ) (cs : List Cell) (c : Cell) → own_packets k (cs ++ (c ∷ [])) ≡ own_packets k cs ++ (packet_in k c ∷ [])
own_append k [] c = refl
own_append k (x ∷ cs) c = ap (λ (ps : List Packet). packet_in k x ∷ ps) (own_append k cs c)

module _ (a b c d : List Cell) where
  abbrev qs : List (List Cell)
  qs = a ∷ b ∷ c ∷ d ∷ []

  four-column : (k : ℕ) → k < 4 → length (column k (four_of qs)) ≡ length (queue_of qs k)
  unfolding four_of
  four-column =
      by_four (λ k. length (column k (four_of qs)) ≡ length (queue_of qs k)) (length-map a (λ (x : Cell). packet_in 0 x))
      (length-map b (λ (x : Cell). packet_in 1 x)) (length-map c (λ (x : Cell). packet_in 2 x))
      (length-map d (λ (x : Cell). packet_in 3 x))

  four_dropped : (k : ℕ) → k < 4 → four_of (changed k (drop 1) qs) ≡ change k (drop 1) (four_of qs)
  unfolding four_of
  four_dropped =
      by_four (λ k. four_of (changed k (drop 1) qs) ≡ change k (drop 1) (four_of qs))
      (ap (λ (ps : List Packet). four ps (own_packets 1 b) (own_packets 2 c) (own_packets 3 d)) (own_drop 0 a))
      (ap (λ (ps : List Packet). four (own_packets 0 a) ps (own_packets 2 c) (own_packets 3 d)) (own_drop 1 b))
      (ap (λ (ps : List Packet). four (own_packets 0 a) (own_packets 1 b) ps (own_packets 3 d)) (own_drop 2 c))
      (ap (λ (ps : List Packet). four (own_packets 0 a) (own_packets 1 b) (own_packets 2 c) ps) (own_drop 3 d))

  four-pushed : (x : Cell) (k : ℕ) → k < 4
      → laid (changed k (λ q. q ++ (x ∷ [])) qs) ≡ rows_for (change k (at_back (packet_in k x)) (four_of qs))
  unfolding four_of
  four-pushed x =
      by_four (λ k. laid (changed k (λ q. q ++ (x ∷ [])) qs) ≡ rows_for (change k (at_back (packet_in k x)) (four_of qs)))
      (sym (rows_four (a ++ (x ∷ [])) b c d)
      ∙ ap (λ (ps : List Packet). rows_for (four ps (own_packets 1 b) (own_packets 2 c) (own_packets 3 d))) (own_append 0 a x))
      (sym (rows_four a (b ++ (x ∷ [])) c d)
      ∙ ap (λ (ps : List Packet). rows_for (four (own_packets 0 a) ps (own_packets 2 c) (own_packets 3 d))) (own_append 1 b x))
      (sym (rows_four a b (c ++ (x ∷ [])) d)
      ∙ ap (λ (ps : List Packet). rows_for (four (own_packets 0 a) (own_packets 1 b) ps (own_packets 3 d))) (own_append 2 c x))
      (sym (rows_four a b c (d ++ (x ∷ [])))
      ∙ ap (λ (ps : List Packet). rows_for (four (own_packets 0 a) (own_packets 1 b) (own_packets 2 c) ps)) (own_append 3 d x))

  four_short : (k : ℕ) → k < 4 → Short qs → Short (changed k (drop 1) qs)
  four_short k h s =
      by_four (λ k. Short (changed k (drop 1) qs)) (less a s.0, s.1) (s.0, (less b s.1.0, s.1.1))
      (s.0, (s.1.0, (less c s.1.1.0, s.1.1.1)))
      (s.0, (s.1.0, (s.1.1.0, (less d s.1.1.1.0, tt)))) k h
    where
      less : (q : List Cell) → length q ≤ room → length (drop 1 q) ≤ room
      less q m = omega (arith, length-drop 1 q)

four_live : (now : ℕ) (a b c d : List Cell) (k : ℕ) → k < 4
    → length (column k (four_of (map (alive now) (a ∷ b ∷ c ∷ d ∷ [])))) ≡ length (alive now (queue_of (a ∷ b ∷ c ∷ d ∷ []) k))
four_live now a b c d k h =
    four-column (alive now a) (alive now b) (alive now c) (alive now d) k h
    ∙ by_four (λ k. length (queue_of (map (alive now) (a ∷ b ∷ c ∷ d ∷ [])) k)
    ≡ length (alive now (queue_of (a ∷ b ∷ c ∷ d ∷ []) k)))
    refl refl refl refl k h

module _ (r : Rows) (k : ℕ) (b : k < 4) where
  pub column-length : length (column k (waiting_in r)) ≡ length (queue_of (queues r) k)
  unfolding queues
  column-length = four-column _ _ _ _ k b

  live_length : (now : ℕ) → length (column k (four_of (map (alive now) (queues r)))) ≡ length (alive now (queue_of (queues r) k))
  unfolding queues
  live_length now = four_live now _ _ _ _ k b

  pub column_live : (now : ℕ)
      → length (column k (each (without_expired now) (waiting_in r))) ≡ length (alive now (queue_of (queues r) k))
  column_live now = ap (λ q. length (column k q)) (sym (each-alive r now)) ∙ live_length now

  pub rows_pushed : (x : Cell)
      → laid (changed k (λ q. q ++ (x ∷ [])) (queues r)) ≡ rows_for (change k (at_back (packet_in k x)) (waiting_in r))
  unfolding queues
  rows_pushed x = four-pushed _ _ _ _ x k b

  dropped : four_of (changed k (drop 1) (queues r)) ≡ change k (drop 1) (waiting_in r)
  unfolding queues
  dropped = four_dropped _ _ _ _ k b

  short_dropped : Held r → Short (changed k (drop 1) (queues r))
  unfolding queues
  short_dropped h = four_short _ _ _ _ k b (queues_short r h.size)

  four_left : length (changed k (drop 1) (queues r)) ≡ 4
  four_left = length-set (queues r) k (drop 1 (queue_of (queues r) k)) ∙ four-queues r

  -- the front one gone
  module _ (h : Held r) (r' : Rows) (e : r' ≡ laid (changed k (drop 1) (queues r))) where
    pub popped_held : Held r'
    popped_held = subst⁻¹ Held e (held-laid (changed k (drop 1) (queues r)) four_left (short_dropped h))

    popped_queues : queues r' ≡ changed k (drop 1) (queues r)
    popped_queues = ap queues e ∙ queues-laid (changed k (drop 1) (queues r)) four_left (short_dropped h)

    pub popped_waiting : waiting_in r' ≡ change k (drop 1) (waiting_in r)
    popped_waiting = ap four_of popped_queues ∙ dropped

    pub popped_length : length (queue_of (queues r') k) ≡ length (queue_of (queues r) k) - 1
    popped_length =
        ap (λ (l : List (List Cell)). length (queue_of l k)) popped_queues
        ∙ ap (λ (q : List Cell). length q)
        (get_or-set_same (queues r) k (drop 1 (queue_of (queues r) k)) [] (omega (arith, four-queues r)))
        ∙ length-drop 1 (queue_of (queues r) k)
