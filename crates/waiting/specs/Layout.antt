-- Four queues in two rows. Of each there are sixteen words: how many wait, and then the identifier, on-time
-- and lifetime of five places, the oldest packet first; and five times: when those came. What is unused is
-- zero (document 01, "State and calls").
use Rattle.std.specs.Prelude.{ℕ, ◌+◌, ◌*◌, ◌-◌, ◌≡◌, Bool, true, cond, ◌&&◌, List, [], ◌∷◌, ◌++◌, map, leb}
use Rattle.std.specs.Prelude.{ltb, eqb, length, take, drop, get_or, set, replicate, Option, Some, None}
use Rattle.rules.specs.Tests.{all_of}
use Rattle.rules.specs.Profiles.{room, within, lifetime_allowed}
use Rattle.packing.specs.Packing.{filled, padded}
use Rattle.model.specs.declared.Packet.{Packet}
use Rattle.model.specs.Fours.{Four, four}
use Rattle.model.specs.Queues.{queue_rules}
use Rattle.waiting.specs.declared.Cell.{Cell}
use Rattle.waiting.specs.declared.Found.{Found}

-- the two rows, or the same part of each
pub record Rows : Type 0 where
  pub words : List ℕ
  pub came : List ℕ

abbrev pub rows : List ℕ → List ℕ → Rows
rows words came = record { words = words; came = came }

-- one queue's, and all four's
pub record Sized (n : ℕ) (r : Rows) : Type 0 where
  pub words : length r.words ≡ 16 * n
  pub came : length r.came ≡ 5 * n

-- a packet but for its priority, which is its queue's number
abbrev pub cell : ℕ → ℕ → ℕ → ℕ → Cell
cell id ontime lifetime arrival =
    record { id = id; ontime = ontime; lifetime = lifetime; arrival = arrival }

abbrev pub no_cell : Cell
no_cell = cell 0 0 0 0

-- what stands in a place, and how many wait
abbrev pub cell_at : Rows → ℕ → Cell
cell_at r i =
    cell (get_or r.words (1 + 3 * i) 0) (get_or r.words (1 + 3 * i + 1) 0)
    (get_or r.words (1 + 3 * i + 2) 0) (get_or r.came i 0)

abbrev pub len_in : Rows → ℕ
len_in r = get_or r.words 0 0

-- a place written
abbrev pub put_at : ℕ → Cell → Rows → Rows
put_at i c r =
    rows
    (set (set (set r.words (1 + 3 * i) c.id) (1 + 3 * i + 1) c.ontime) (1 + 3 * i + 2)
    c.lifetime)
    (set r.came i c.arrival)

-- what stands in the places, one after the other
unfoldable pub triples : List ℕ → List ℕ → List Cell
triples ws [] = []
triples ws (t ∷ ts) = cell (get_or ws 0 0) (get_or ws 1 0) (get_or ws 2 0) t ∷ triples (drop 3 ws) ts

abbrev pub cells : Rows → List Cell
cells r = triples (drop 1 r.words) r.came

-- and laid out again
unfoldable pub words_of : List Cell → List ℕ
words_of [] = []
words_of (c ∷ cs) = c.id ∷ c.ontime ∷ c.lifetime ∷ words_of cs

abbrev pub rows_of : ℕ → List Cell → Rows
rows_of n cs = rows (n ∷ words_of cs) (map (λ (c : Cell). c.arrival) cs)

-- the meaning of one queue's rows: its packets
abbrev pub items : Rows → List Cell
items r = take (len_in r) (cells r)

-- the rows of a queue, unused places zero
unfoldable pub packed : List Cell → Rows
packed cs = rows_of (length cs) (filled room no_cell cs)

-- rows that hold nothing but what they mean
abbrev pub Packed : Rows → Type 0
Packed r = r ≡ packed (items r)

-- "everything unused is zero": the places from m on
abbrev pub ZeroFrom : (m : ℕ) → Rows → Type 0
ZeroFrom m r = drop m (cells r) ≡ replicate (room - m) no_cell

-- "A packet is expired when running time minus arrival is at least its lifetime.": it isn't
abbrev pub is_live : (now : ℕ) → Cell → Bool
is_live now c = ltb (now - c.arrival) c.lifetime

-- "removes every expired packet"
unfoldable pub alive : (now : ℕ) → List Cell → List Cell
alive now [] = []
alive now (c ∷ cs) = cond (is_live now c) (c ∷ alive now cs) (alive now cs)

-- the packet of a cell in the queue of a priority, and the cell of a packet
abbrev pub packet_in : (priority : ℕ) → Cell → Packet
packet_in priority c =
    record {
      id = c.id;
      priority = priority;
      ontime = c.ontime;
      lifetime = c.lifetime;
      arrival = c.arrival;
    }

abbrev pub cell_of : Packet → Cell
cell_of p = cell p.id p.ontime p.lifetime p.arrival

-- "everything unused is zero"
abbrev pub is_zero : Cell → Bool
is_zero c = all_of (eqb c.id 0 ∷ eqb c.ontime 0 ∷ eqb c.lifetime 0 ∷ eqb c.arrival 0 ∷ [])

-- "every waiting packet within its limits, .. arrived not after the running time", where `most` is the
-- longest on-time of the profile; and come no earlier than the one before
abbrev pub cell_sound : (most now since : ℕ) → Cell → Bool
cell_sound most now since c =
    all_of (within 1 most c.ontime ∷ lifetime_allowed c.lifetime ∷ leb c.arrival now ∷ [])
    && leb since c.arrival

unfoldable pub cells_sound : (most now since : ℕ) → List Cell → Bool
cells_sound most now since [] = true
cells_sound most now since (c ∷ cs) = cell_sound most now since c && cells_sound most now c.arrival cs

-- a place that is used, or not
abbrev pub place_sound : (most now since : ℕ) → (used : Bool) → Cell → Bool
place_sound most now since used c = cond used (cell_sound most now since c) (is_zero c)

-- "every queue length at most 5, .. everything unused is zero"
abbrev pub tidy_queue : Rows → Bool
tidy_queue r = padded is_zero room (len_in r) (cells r)

-- tidy, and its packets sound
unfoldable pub sound_queue : (most now : ℕ) → Rows → Bool
sound_queue most now r = tidy_queue r && cells_sound most now 0 (items r)

-- the rows of queue k
abbrev pub part : (k : ℕ) → Rows → Rows
part k r = rows (take 16 (drop (16 * k) r.words)) (take 5 (drop (5 * k) r.came))

-- rows one behind the other
unfoldable pub flat : {A : Type 0} → List (List A) → List A
flat [] = []
flat (x ∷ xs) = x ++ flat xs

abbrev pub all_rows : List Rows → Rows
all_rows qs = rows (flat (map (λ (q : Rows). q.words) qs)) (flat (map (λ (q : Rows). q.came) qs))

-- the meaning of all four queues' rows
unfoldable pub queues : Rows → List (List Cell)
queues r = items (part 0 r) ∷ items (part 1 r) ∷ items (part 2 r) ∷ items (part 3 r) ∷ []

unfoldable pub laid : List (List Cell) → Rows
laid qs = all_rows (map packed qs)

-- four queues, and nothing else
pub record Held (r : Rows) : Type 0 where
  pub size : Sized 4 r
  pub tight : r ≡ laid (queues r)

-- the model's four lists
abbrev pub own_packets : (priority : ℕ) → List Cell → List Packet
own_packets priority cs = map (λ (c : Cell). packet_in priority c) cs

abbrev pub queue_of : List (List Cell) → ℕ → List Cell
queue_of qs k = get_or qs k []

-- queue k changed
abbrev pub changed : (k : ℕ) → (List Cell → List Cell) → List (List Cell) → List (List Cell)
changed k f qs = set qs k (f (queue_of qs k))

unfoldable pub four_of : List (List Cell) → Four Packet
four_of qs =
    four (own_packets 0 (queue_of qs 0)) (own_packets 1 (queue_of qs 1)) (own_packets 2 (queue_of qs 2))
    (own_packets 3 (queue_of qs 3))

abbrev pub waiting_in : Rows → Four Packet
waiting_in r = four_of (queues r)

abbrev pub cells_of : List Packet → List Cell
cells_of ps = map (λ (p : Packet). cell_of p) ps

unfoldable pub rows_for : Four Packet → Rows
rows_for q = laid (cells_of q.c0 ∷ cells_of q.c1 ∷ cells_of q.c2 ∷ cells_of q.c3 ∷ [])

-- "every queue length at most 5, .. and everything unused is zero"
unfoldable pub tidy : Rows → Bool
tidy r =
    all_of (tidy_queue (part 0 r) ∷ tidy_queue (part 1 r) ∷ tidy_queue (part 2 r) ∷ tidy_queue (part 3 r)
    ∷ [])

-- tidy, and the four lists as the model's rules ask
unfoldable pub sound_queues : (profile now : ℕ) → Rows → Bool
sound_queues profile now r = tidy r && all_of (queue_rules profile now (waiting_in r))

-- how many wait
unfoldable pub count_in : List (List Cell) → ℕ
count_in [] = 0
count_in (q ∷ qs) = length q + count_in qs

-- the first live one of the lowest-numbered queue that has one
abbrev pub found_at : (queue : ℕ) → Cell → Found
found_at queue c = record { queue = queue; cell = c }

unfoldable pub first_or : (k : ℕ) → List Cell → Option Found → Option Found
first_or k [] other = other
first_or k (c ∷ cs) other = Some (found_at k c)

unfoldable pub found_from : (now k : ℕ) → List (List Cell) → Option Found
found_from now k [] = None
found_from now k (q ∷ qs) = first_or k (alive now q) (found_from now (k + 1) qs)
