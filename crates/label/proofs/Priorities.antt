-- A packet's place is what stands before it: in its own column, and in those of lower number. An admission takes one of these
-- away. Only an offer of a lower number adds one, as an offer of its own priority comes behind it; so admissions and place
-- together grow by no more than such offers.
use Prim.Native.Nat.{ℕ, zero, suc, ◌+◌, ◌-◌, ◌*◌, ◌≤◌, ◌<◌}
use mathlib.Core.Path.{◌≡◌, refl, ap, sym, subst}
use mathlib.Core.Bool.{Bool, not}
use mathlib.Core.List.{List, [], ◌∷◌}
use mathlib.Core.Logic.{inl, inr}
use native.Mathlib.Nat.{suc-mul, add-mul, mul-add, mul_comm, mul_assoc, mul-le-mul_right, le-div_iff_mul-le}
use native.Mathlib.Omega.{arith}
use lib.ListN.{length, drop, take}
use Rattle.rules.proofs.Cases.{on_cond}
use Rattle.rules.specs.Profiles.{most_ontime}
use Rattle.rules.specs.Wait.{start_of}
use Rattle.control.specs.Owed.{quiet}
use Rattle.model.specs.declared.Packet.{Packet}
use Rattle.model.specs.declared.Answer.{Answer}
use Rattle.model.specs.declared.Answer.TheVariants.{Taken}
use Rattle.model.specs.Fours.{Four, four, each, column, change}
use Rattle.model.specs.Calls.{Call, words, count, offer, poll, is_sent, is_refused}
use Rattle.model.specs.Gate.{make}
use Rattle.model.specs.Journal.{Entry, Journal, opened, turned, outlived, picked, room_for, at_foot, arriving, entry_of}
use Rattle.model.specs.Journal.{entered, lowest, top, sent_of, at_poll, at_offer, recorded, fed, journal_of}
use Rattle.model.specs.Claims.{events}
use Rattle.model.specs.Delivery.{Among}
use Rattle.model.proofs.Fours.{column-change, column-each}
use Rattle.model.proofs.Displacing.{picked-length, on_room}
use Rattle.model.proofs.Runs.{runs_are_their_parts}
use Rattle.model.proofs.Delivery.{delivery}
use Rattle.label.specs.Trailer.{by_model, journal}
use Rattle.label.specs.Priorities.{below, Wait, with_offer, when_it_came, since_it_came, its, WaitsStill, before, meanwhile}
use Rattle.label.specs.Priorities.{went, InItsTurn, waited, WaitsAtMost, WarningsGo, WaitsAmongOthers, AmongWarnings}
use Rattle.label.proofs.Rate.{rate_of_obeying, polled_obeys}

-- the entries of a column up to an ordinal, each with n and its place in the column at most m
module _ (o : ℕ) where
  abbrev Placed : (n m : ℕ) → List Entry → Type 0
  Placed n m [] = Unit {0}
  Placed n m (l ∷ ls) = (l.ordinal ≤ o → n ≤ m) × Placed (suc n) m ls

  placed_less : (n m i k : ℕ) (ls : List Entry) → i + m ≤ n + k → Placed n m ls → Placed i k ls
  placed_less n m i k [] h p = tt
  placed_less n m i k (l ∷ ls) h p = (λ z. omega (arith, p.0 z), placed_less (suc n) m (suc i) k ls (omega arith) p.1)

  placed_picked : (test : Entry → Bool) (n m : ℕ) (ls : List Entry) → Placed n m ls → Placed n m (picked test ls)
  unfolding picked
  placed_picked test n m [] p = tt
  placed_picked test n m (l ∷ ls) p =
      on_cond (Placed n m) (test l) (λ e. (p.0, placed_picked test (suc n) m ls p.1))
      (λ e. placed_picked test n m ls (placed_less (suc n) m n m ls (omega arith) p.1))

  placed_drop : (n m : ℕ) (ls : List Entry) → Placed n m ls → Placed n m (drop 1 ls)
  placed_drop n m [] p = tt
  placed_drop n m (l ∷ ls) p = placed_less (suc n) m n m ls (omega arith) p.1

  placed_foot : (n m : ℕ) (l : Entry) (ls : List Entry) → o < l.ordinal → Placed n m ls → Placed n m (at_foot l ls)
  placed_foot n m l [] h p = (λ z. absurd (omega arith), tt)
  placed_foot n m l (x ∷ ls) h p = (p.0, placed_foot (suc n) m l ls h p.1)

  -- a column so short
  placed_all : (n m : ℕ) (ls : List Entry) → n + length ls ≤ suc m → Placed n m ls
  placed_all n m [] h = tt
  placed_all n m (l ∷ ls) h = (λ z. omega arith, placed_all (suc n) m ls (omega arith))

  placed_among : (n m : ℕ) (l : Entry) (ls : List Entry) → l.ordinal ≤ o → Placed n m ls → Among l ls → n ≤ m
  placed_among n m l [] z p x3 = elim x3 [ ]
  placed_among n m l (x ∷ ls) z p (inl e) = p.0 (subst (λ (y : Entry). y.ordinal ≤ o) (sym e) z)
  placed_among n m l (x ∷ ls) z p (inr a) = omega (arith, placed_among (suc n) m l ls z p.1 a)

-- a change of the lists of a priority: of those below another, of that one's own, or of neither
on_change : {A B : Type 0} (P : (b : ℕ) → List A → (c : ℕ) → List B → Type 0) (q n : ℕ) (f : List A → List A)
    (g : List B → List B) (x : Four A) (y : Four B)
    → ((b c : ℕ) (k : List A) (l : List B) → b + length k ≡ below q x + length (f k) → c + length l ≡ below q y + length (g l)
    → P b (column q x) c (column q y))
    → (column n y ≡ column q y → P (below q x) (f (column q x)) (below q y) (g (column q y)))
    → P (below q x) (column q x) (below q y) (column q y)
    → P (below q (change n f x)) (column q (change n f x)) (below q (change n g y)) (column q (change n g y))
on_change P zero zero f g x y lower own other = own refl
on_change P zero (suc zero) f g x y lower own other = other
on_change P zero (suc (suc zero)) f g x y lower own other = other
on_change P zero (suc (suc (suc n))) f g x y lower own other = other
on_change P (suc zero) zero f g x y lower own other = lower _ _ x.c0 y.c0 (omega arith) (omega arith)
on_change P (suc zero) (suc zero) f g x y lower own other = own refl
on_change P (suc zero) (suc (suc zero)) f g x y lower own other = other
on_change P (suc zero) (suc (suc (suc n))) f g x y lower own other = other
on_change P (suc (suc zero)) zero f g x y lower own other = lower _ _ x.c0 y.c0 (omega arith) (omega arith)
on_change P (suc (suc zero)) (suc zero) f g x y lower own other = lower _ _ x.c1 y.c1 (omega arith) (omega arith)
on_change P (suc (suc zero)) (suc (suc zero)) f g x y lower own other = own refl
on_change P (suc (suc zero)) (suc (suc (suc n))) f g x y lower own other = other
on_change P (suc (suc (suc q))) zero f g x y lower own other = lower _ _ x.c0 y.c0 (omega arith) (omega arith)
on_change P (suc (suc (suc q))) (suc zero) f g x y lower own other = lower _ _ x.c1 y.c1 (omega arith) (omega arith)
on_change P (suc (suc (suc q))) (suc (suc zero)) f g x y lower own other =
    lower _ _ x.c2 y.c2 (omega arith) (omega arith)
on_change P (suc (suc (suc q))) (suc (suc (suc n))) f g x y lower own other = own refl

-- the top of the lowest-numbered non-empty column goes: one fewer before, one more admission
abbrev Goes : (o q n m : ℕ) → Four Entry → List Entry → Type 0
Goes o q n m x [] = Unit {0}
Goes o q n m x (l ∷ ls) =
    Placed o (suc n + below q (change (lowest x) (drop 1) x)) m (column q (change (lowest x) (drop 1) x))

first_goes : (o q n m : ℕ) (a b c d : List Entry) → Placed o (n + below q (four a b c d)) m (column q (four a b c d))
    → Goes o q n m (four a b c d) (column (lowest (four a b c d)) (four a b c d))
unfolding lowest
first_goes o zero n m (l ∷ a) b c d p = placed_less o _ m _ m a (omega arith) p.1
first_goes o (suc zero) n m (l ∷ a) b c d p = placed_less o _ m _ m b (omega arith) p
first_goes o (suc (suc zero)) n m (l ∷ a) b c d p = placed_less o _ m _ m c (omega arith) p
first_goes o (suc (suc (suc q))) n m (l ∷ a) b c d p = placed_less o _ m _ m d (omega arith) p
first_goes o zero n m [] (l ∷ b) c d p = tt
first_goes o (suc zero) n m [] (l ∷ b) c d p = placed_less o _ m _ m b (omega arith) p.1
first_goes o (suc (suc zero)) n m [] (l ∷ b) c d p = placed_less o _ m _ m c (omega arith) p
first_goes o (suc (suc (suc q))) n m [] (l ∷ b) c d p = placed_less o _ m _ m d (omega arith) p
first_goes o zero n m [] [] (l ∷ c) d p = tt
first_goes o (suc zero) n m [] [] (l ∷ c) d p = tt
first_goes o (suc (suc zero)) n m [] [] (l ∷ c) d p = placed_less o _ m _ m c (omega arith) p.1
first_goes o (suc (suc (suc q))) n m [] [] (l ∷ c) d p = placed_less o _ m _ m d (omega arith) p
first_goes o zero n m [] [] [] (l ∷ d) p = tt
first_goes o (suc zero) n m [] [] [] (l ∷ d) p = tt
first_goes o (suc (suc zero)) n m [] [] [] (l ∷ d) p = tt
first_goes o (suc (suc (suc q))) n m [] [] [] (l ∷ d) p = placed_less o _ m _ m d (omega arith) p.1
first_goes o q n m [] [] [] [] p = tt

below-picked : (test : Entry → Bool) (q : ℕ) (x : Four Entry) → below q (each (picked test) x) ≤ below q x
below-picked test zero x = omega arith
below-picked test (suc zero) x = picked-length test x.c0
below-picked test (suc (suc zero)) x = omega (arith, picked-length test x.c0, picked-length test x.c1)
below-picked test (suc (suc (suc q))) x =
    omega (arith, picked-length test x.c0, picked-length test x.c1, picked-length test x.c2)

drop-length : (ls : List Entry) → length (drop 1 ls) ≤ length ls
drop-length [] = omega arith
drop-length (l ∷ ls) = omega arith

foot_length : (l : Entry) (ls : List Entry) → length (at_foot l ls) ≡ suc (length ls)
foot_length l [] = refl
foot_length l (x ∷ ls) = omega (arith, foot_length l ls)

-- the entries of a column, q, up to an ordinal, o; so many of lower number were accepted before
module _ (q o earlier bound : ℕ) where
  pub record Ahead (j : Journal) : Type 0 where
    pub placed :
        Placed o (earlier + length j.admissions + below q j.columns) (bound + below q j.offers) (column q j.columns)
    pub known : o ≤ length (column q j.offers)

  ahead_struck : (j : Journal) (stamp : ℕ) → Ahead j → Ahead (at_poll j stamp)
  ahead_struck j stamp a =
      let test : Entry → Bool = λ l. not (outlived (turned j stamp).time l) in
      record {
        placed =
            rw (column-each q (picked test) j.columns)
            (placed_less o _ _ _ _ (picked test (column q j.columns)) (omega (arith, below-picked test q j.columns))
            (placed_picked o test _ _ (column q j.columns) a.placed));
        known = a.known;
      }

  ahead_room : (j : Journal) (n : ℕ) → Ahead j → Ahead (room_for j n)
  ahead_room j n a =
      on_room Ahead j n a
      (λ x xs e. record {
        placed =
            on_change
            (λ (b : ℕ) (k : List Entry) (c : ℕ) (l : List Entry).
            Placed o (earlier + length j.admissions + b) (bound + below q j.offers) k) q n (drop 1) (λ l. l)
            j.columns j.columns
            (λ b c k l f g. placed_less o _ _ _ _ (column q j.columns) (omega (arith, drop-length k)) a.placed)
            (λ s. placed_drop o _ _ (column q j.columns) a.placed) a.placed;
        known = a.known;
      })

  ahead_entered : (j : Journal) (p : Packet) → Ahead j → Ahead (entered j p)
  ahead_entered j p a =
      record {
        placed =
            on_change
            (λ (b : ℕ) (k : List Entry) (c : ℕ) (l : List Packet).
            Placed o (earlier + length j.admissions + b) (bound + c) k) q p.priority (at_foot (entry_of j p))
            (λ (ps : List Packet). p ∷ ps) j.columns j.offers
            (λ b c k l f g.
            placed_less o _ _ _ _ (column q j.columns) (omega (arith, foot_length (entry_of j p) k)) a.placed)
            (λ s. placed_foot o _ _ (entry_of j p) (column q j.columns) (omega (arith, a.known, ap length s)) a.placed)
            a.placed;
        known =
            on_change (λ (b : ℕ) (k : List Entry) (c : ℕ) (l : List Packet). o ≤ length l) q p.priority (λ k. k)
            (λ (ps : List Packet). p ∷ ps) j.columns j.offers (λ b c k l f g. a.known) (λ s. omega (arith, a.known))
            a.known;
      }

  ahead_sent : (j : Journal) → Ahead j → Ahead (sent_of j (top j.columns))
  ahead_sent j a =
      by (column (lowest j.columns) j.columns)
      (first_goes o q (earlier + length j.admissions) _ j.columns.c0 j.columns.c1 j.columns.c2 j.columns.c3
      a.placed)
    where
      by : (ls : List Entry) → Goes o q (earlier + length j.admissions) (bound + below q j.offers) j.columns ls
          → Ahead (sent_of j (take 1 ls))
      by [] g = a
      by (l ∷ ls) g =
          let gone = change (lowest j.columns) (drop 1) j.columns in
          let n = length j.admissions in
          let m = bound + below q j.offers in
          record {
            placed =
                placed_less o (suc (earlier + n) + below q gone) m (earlier + suc n + below q gone) m (column q gone)
                (omega arith) g;
            known = a.known;
          }

  ahead_recorded : (j : Journal) (c : Call) (a : Answer) → Ahead j → Ahead (recorded j c a)
  ahead_recorded j (words stamp probes ws) a h = record { placed = h.placed; known = h.known }
  ahead_recorded j (count stamp busy probes) a h = record { placed = h.placed; known = h.known }
  ahead_recorded j (offer stamp x) a h =
      ahead_entered (at_offer j stamp x) (arriving (turned j stamp) x)
      (ahead_room (at_poll j stamp) x.priority (ahead_struck j stamp h))
  ahead_recorded j (poll stamp) a h =
      on_cond Ahead (is_sent a) (λ u. ahead_sent (at_poll j stamp) (ahead_struck j stamp h)) (λ u. ahead_struck j stamp h)

  pub ahead_on : (j : Journal) (es : List (Call × Answer)) → Ahead j → Ahead (journal_of j es)
  unfolding journal_of
  ahead_on j [] h = h
  ahead_on j (e ∷ es) h =
      ahead_on (fed j e.0 e.1) es
      (on_cond Ahead (is_refused e.1) (λ u. h) (λ u. ahead_recorded j e.0 e.1 h))

-- when it came it was the last of its column
module _ (w : Wait by_model) where
  abbrev q : ℕ
  q = w.packet.priority

  abbrev asked : Call
  asked = offer w.stamp w.packet

  abbrev was : Journal
  was = at_offer (journal w.run) w.stamp w.packet

  abbrev LastOf : Journal → Type 0
  LastOf j =
      Ahead q (its w).ordinal (below q j.offers) (length j.admissions + ((its w).above + below q j.columns)) j

  came : LastOf (fed (journal w.run) asked Taken)
  came =
      let j = fed (journal w.run) asked Taken in
      record {
        placed =
            placed_all (its w).ordinal _ _ (column q j.columns)
            (omega (
              arith,
              ap length (column-change q (at_foot (its w)) was.columns),
              foot_length (its w) (column q was.columns),
            ));
        known =
            omega (
              arith,
              ap length
                  (column-change q (λ (ps : List Packet). arriving (turned (journal w.run) w.stamp) w.packet ∷ ps)
                  was.offers),
            );
      }

  came_so : LastOf (when_it_came w)
  unfolding events journal_of
  came_so =
      let r = w.run in
      let parts = runs_are_their_parts (make r.making).view (opened r.making.stamp) r.calls (asked ∷ []) in
      subst LastOf (sym parts.1)
      (subst (λ (a : Answer). LastOf (fed (journal w.run) asked a)) (sym w.taken) came)

pub in_its_turn : InItsTurn by_model
in_its_turn w h =
    let j = when_it_came w in
    let a =
    ahead_on (q w) (its w).ordinal (below (q w) j.offers) (length j.admissions + before w) j
    (by_model.since (with_offer w) w.during) (came_so w) in
    omega (arith, placed_among (its w).ordinal _ _ (its w) (column (q w) (since_it_came w).columns) (omega arith) a.placed h)

-- by a rate from the offer on
pub waits_by : (once each : ℕ) (w : Wait by_model) → (waited w ≤ once + suc (went w) * each) → WaitsStill w
    → waited w ≤ once + suc (before w + meanwhile w) * each
waits_by once each w rate h = omega (arith, rate, mul-le-mul_right each (more (in_its_turn w h)))
  where
    more : {m n : ℕ} → m ≤ n → suc m ≤ suc n
    more k = omega arith

pub waits_at_most : WaitsAtMost by_model
waits_at_most p w s h =
    let each = quiet w.run.making.profile + p in
    let rate = rate_of_obeying p (with_offer w) w.during (polled_obeys p (with_offer w) w.during s) in
    omega (arith, waits_by 0 each w (omega (arith, rate)) h)

pub warnings_go : WarningsGo by_model
warnings_go p w urgent =
    let r = w.run in
    delivery r.making p w.stamp w.packet r.calls w.during r.ready urgent w.taken

-- others take f of each f + g µs
share : (t f g b m : ℕ) → t ≤ suc (b + m) * f → m * (f + g) ≤ t + (f + g) → t * g ≤ (b + 2) * f * (f + g)
share t f g b m h k =
    omega (
      arith,
      mul-le-mul_right (f + g) h,
      mul-le-mul_right f k,
      ap (λ (x : ℕ). x * (f + g)) parts,
      add-mul (suc b * f) (m * f) (f + g),
      mul_assoc m f (f + g),
      ap (λ (x : ℕ). m * x) (mul_comm f (f + g)),
      mul_assoc m (f + g) f,
      add-mul t (f + g) f,
      mul-add t f g,
      ap (λ (x : ℕ). x * (f + g)) two,
      add-mul (suc b * f) f (f + g),
      mul_comm f (f + g),
    )
  where
    parts : suc (b + m) * f ≡ suc b * f + m * f
    parts = let e : suc (b + m) ≡ suc b + m = omega arith in rw e (add-mul (suc b) m f)

    two : (b + 2) * f ≡ suc b * f + f
    two = let e : b + 2 ≡ suc (suc b) = omega arith in rw e (suc-mul (suc b) f)

pub waits_among_others : WaitsAmongOthers by_model
waits_among_others p every w s h o l =
    let f = quiet w.run.making.profile + p in
    let e : f + (every - f) ≡ every = omega arith in
    let some : 0 < every - f = omega arith in
    (le-div_iff_mul-le some).1
    (subst (λ (x : ℕ). waited w * (every - f) ≤ (before w + 2) * f * x) e
    (share (waited w) f (every - f) (before w) (meanwhile w) (waits_at_most p w s h)
    (subst (λ (x : ℕ). meanwhile w * x ≤ waited w + x) (sym e) o)))

pub among_warnings : AmongWarnings
unfolding quiet start_of most_ontime
among_warnings = refl
