-- One turn of each walk along the packets of a line: the next packet is kept or not, or is taken away. Then what the chains count
-- and test.
use Rattle.std.proofs.Common.{ℕ, ◌+◌, ◌≤◌, ◌<◌, ◌≡◌, refl, sym, ap, Bool, true, false, cond, ◌&&◌, List, [], ◌∷◌, length}
use Rattle.std.proofs.Common.{drop, get_or, eqb, eq-eqb, ne_eqb, add-one, drop-cons, arith}
use lib.ListN.{drop_of_length-le}
use Rattle.std.specs.List.{count_by, list_all}
use Rattle.std.proofs.lemmas.List.Recursion.{is_count_by}
use Rattle.packing.specs.Packing.{all_are}
use Rattle.rules.proofs.Cases.{split}
use Rattle.model.specs.declared.Packet.{Packet}
use Rattle.model.specs.Packets.{no_packet, unexpired, without_expired, chosen}
use Rattle.line.specs.Line.{count_of, goes_next, without, picked}

-- counting
pub counts : (k : ℕ) (ps : List Packet) → count_by (λ p. eqb p.priority k) ps ≡ count_of k ps
unfolding count_of
counts k ps =
    sym (is_count_by (count_of k) (λ p. eqb p.priority k) refl
    (λ p qs. split (eqb p.priority k) (λ b. rw b (omega arith)) (λ b. rw b refl)) ps)

-- a test of all
pub tested : {A : Type 0} (test : A → Bool) (xs : List A) → list_all test xs ≡ all_are test xs
unfolding all_are
tested test [] = refl
tested test (x ∷ xs) = ap (λ b. test x && b) (tested test xs)

-- where packets wait, the one that goes next is the one picked
pub picks : (ps : List Packet) → 0 < length ps → picked ps ≡ chosen (goes_next ps) (without (goes_next ps).priority ps)
unfolding picked goes_next
picks [] h = absurd (omega arith)
picks (p ∷ ps) h = refl

-- what is to come of the packets that are left, once the first of a priority is gone, or not yet
abbrev pub rest : Bool → ℕ → List Packet → List Packet
rest gone priority ps = cond gone ps (without priority ps)

module _ (ps : List Packet) (i : ℕ) (h : i < length ps) where
  abbrev p : Packet
  p = get_or ps i no_packet

  -- the packet of this turn, and those behind it
  pub turn : drop i ps ≡ p ∷ drop (i + 1) ps
  turn = rw add-one (drop-cons ps i no_packet h)

  pub kept_live : (now : ℕ) → unexpired now p ≡ true
      → without_expired now (drop i ps) ≡ p ∷ without_expired now (drop (i + 1) ps)
  unfolding without_expired
  kept_live now e = rw (turn, e) refl

  pub not_kept : (now : ℕ) → unexpired now p ≡ false → without_expired now (drop i ps) ≡ without_expired now (drop (i + 1) ps)
  unfolding without_expired
  not_kept now e = rw (turn, e) refl

  pub after_gone : (gone : Bool) (priority : ℕ) → gone ≡ true
      → rest gone priority (drop i ps) ≡ p ∷ rest gone priority (drop (i + 1) ps)
  after_gone gone priority g = rw g turn

  pub goes_now : (gone : Bool) (priority : ℕ) → gone ≡ false → p.priority ≡ priority
      → rest gone priority (drop i ps) ≡ rest true priority (drop (i + 1) ps)
  unfolding without
  goes_now gone priority g e = rw (g, turn, eq-eqb _ _ e) refl

  pub stays : (gone : Bool) (priority : ℕ) → gone ≡ false → (p.priority ≡ priority → ⊥)
      → rest gone priority (drop i ps) ≡ p ∷ rest gone priority (drop (i + 1) ps)
  unfolding without
  stays gone priority g e = rw (g, turn, ne_eqb _ _ e) refl

-- none are left
module _ (ps : List Packet) (i : ℕ) (h : length ps ≤ i) where
  pub over : drop i ps ≡ []
  over = drop_of_length-le ps h

  pub none_live : (now : ℕ) → without_expired now (drop i ps) ≡ []
  unfolding without_expired
  none_live now = rw over refl

  pub no-rest : (gone : Bool) (priority : ℕ) → rest gone priority (drop i ps) ≡ []
  unfolding without
  no-rest true priority = over
  no-rest false priority = rw over refl
