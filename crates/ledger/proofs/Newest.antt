-- The newest of a ledger's admissions is that of the last of its words; it has come, and where it is the last admission its word
-- is just the on-time.
use Prim.Native.Nat.{ℕ, zero, suc, ◌+◌, ◌-◌, ◌≤◌, ◌<◌}
use mathlib.Core.Path.{◌≡◌, refl, ap, ◌∙◌}
use mathlib.Core.Bool.{Bool, true, ◌&&◌}
use mathlib.Core.List.{List, [], ◌∷◌}
use native.Mathlib.Omega.{arith}
use lib.Dec.{eqb}
use lib.ListN.{length, take, get_or}
use borrow.Author.Tests.{eq-eqb}
use Rattle.rules.proofs.Cases.{both, clash}
use Rattle.rules.proofs.Tests.{tested}
use Rattle.model.specs.declared.Admission.{Admission}
use Rattle.model.specs.declared.Last.{Last}
use Rattle.model.specs.Ledger.{spacing, newest_is}
use Rattle.model.proofs.Aging.{AllNoted}
use Rattle.ledger.specs.Layout.{unit, age_in, ontime_in, admission_in, read_from}
use Rattle.ledger.proofs.Sound.{InTime}

abbrev is_last : Last → Admission → Bool
is_last last a = eqb a.at last.at && eqb a.ontime last.ontime

pub newest_past : (profile now earliest : ℕ) (last : Last) (es : List Admission) → AllNoted profile now earliest es
    → newest_is last es ≡ true → last.at ≤ now
unfolding newest_is
newest_past profile now earliest last [] h n = clash (cc)
newest_past profile now earliest last (a ∷ []) h n =
    let same = both (eqb a.at last.at) (eqb a.ontime last.ontime) n in omega (tested, h.0.past, same.0)
newest_past profile now earliest last (a ∷ b ∷ es) h n = newest_past profile now (a.at + spacing) last (b ∷ es) h.1 n

module _ (last : Last) (base : ℕ) where
  newest_read : (ws : List ℕ) (m : ℕ) → m < length ws
      → newest_is last (read_from base (take (suc m) ws)) ≡ is_last last (admission_in base (get_or ws m 0))
  unfolding newest_is
  newest_read [] m h = absurd (omega (arith, h))
  newest_read (w ∷ ws) zero h = refl
  newest_read (w ∷ []) (suc m) h = absurd (omega (arith, h))
  newest_read (w ∷ v ∷ ws) (suc m) h = newest_read (v ∷ ws) m (omega (arith, h))

  in_time_at : (ws : List ℕ) (m : ℕ) → m < length ws → InTime base (take (suc m) ws) → age_in (get_or ws m 0) ≤ base
  in_time_at [] m h t = absurd (omega (arith, h))
  in_time_at (w ∷ ws) zero h t = t.0
  in_time_at (w ∷ ws) (suc m) h t = in_time_at ws m (omega (arith, h)) t.1

last_place : (ws : List ℕ) (m : ℕ) → get_or ws (suc m - 1) 0 ≡ get_or ws m 0
last_place ws m = ap (λ (j : ℕ). get_or ws j 0) (omega arith)

pub newest_word : (last : Last) (ws : List ℕ) (n : ℕ) → 0 < n → n ≤ length ws → InTime last.at (take n ws)
    → newest_is last (read_from last.at (take n ws)) ≡ true → (get_or ws (n - 1) 0 ≡ last.ontime) × (last.ontime < unit)
newest_word last ws zero z h t e = absurd (omega (arith, z))
newest_word last ws (suc m) z h t e =
    let w = get_or ws m 0 in
    let r = rw (newest_read last last.at ws m (omega (arith, h))) at e in
    let s = both (eqb (last.at - age_in w) last.at) (eqb (ontime_in w) last.ontime) r in
    let a = in_time_at last last.at ws m (omega (arith, h)) t in
    (omega (tested, last_place ws m, s.0, s.1, a), omega (tested, s.1))

-- and where its word is that, it is the last admission
pub word_newest : (last : Last) (ws : List ℕ) (n : ℕ) → 0 < n → n ≤ length ws → get_or ws (n - 1) 0 ≡ last.ontime
    → last.ontime < unit → newest_is last (read_from last.at (take n ws)) ≡ true
word_newest last ws zero z h e u = absurd (omega (arith, z))
word_newest last ws (suc m) z h e u =
    let w = get_or ws m 0 in
    newest_read last last.at ws m (omega (arith, h))
    ∙ rw (
      eq-eqb (last.at - age_in w) last.at (omega (arith, last_place ws m, e, u)),
      eq-eqb (ontime_in w) last.ontime (omega (arith, last_place ws m, e, u)),
    )
