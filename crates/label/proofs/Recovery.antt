-- Samples that come at most so far apart: the next one after n comes by n + 1 times that at the latest.
use Prim.Native.Nat.{ℕ, suc, ◌+◌, ◌*◌, ◌≤◌}
use mathlib.Core.Path.{◌≡◌}
use mathlib.Core.List.{List, [], ◌∷◌, ◌++◌}
use native.Mathlib.Nat.{suc-mul, mul-le-mul_right}
use native.Mathlib.Omega.{arith}
use lib.Dec.{leb}
use lib.ListN.{length, length-append}
use Rattle.rules.proofs.Cases.{split}
use Rattle.rules.proofs.Tests.{tested}
use Rattle.model.specs.declared.Answer.{Answer}
use Rattle.model.specs.Calls.{Call}
use Rattle.model.specs.Journal.{Journal, fed, journal_of}
use Rattle.label.specs.Trailer.{by_model, journal}
use Rattle.label.specs.Calm.{accepted_load, loads_in, loads_since}
use Rattle.label.specs.CalmRate.{last_sample, SampledEvery, Recovers}

module _ (every start : ℕ) where
  -- the last sample after one more call, and how late that call is
  next : (n last now : ℕ) (xs : List ℕ) → now ≤ last + every → last ≤ start + n * every
      → (last_sample last xs now ≤ start + (n + length xs) * every) × (now ≤ last_sample last xs now + every)
  next n last now [] g h = let e : n + 0 ≡ n = omega arith in (rw e h, g)
  next n last now (x ∷ xs) g h =
      let k : suc n ≤ n + suc (length xs) = omega arith in
      (omega (arith, suc-mul n every, mul-le-mul_right every k), omega arith)

  in_good_time : (n last : ℕ) (j : Journal) (es : List (Call × Answer)) → SampledEvery every last j es → j.time ≤ last + every
      → last ≤ start + n * every → (journal_of j es).time ≤ start + suc (n + length (loads_in es)) * every
  unfolding journal_of loads_in
  in_good_time n last j [] s g h = let e : suc (n + 0) ≡ suc n = omega arith in rw e (omega (arith, suc-mul n every))
  in_good_time n last j (e ∷ es) s g h =
      let xs = accepted_load e.0 e.1 in
      let t = next n last (fed j e.0 e.1).time xs s.0 h in
      let many : suc (n + length (xs ++ loads_in es)) ≡ suc (n + length xs + length (loads_in es)) =
      omega (arith, length-append xs (loads_in es)) in
      rw many (in_good_time (n + length xs) _ (fed j e.0 e.1) es s.1 t.1 t.0)

pub recovers : Recovers by_model
recovers every samples r calls s h =
    let n = length (loads_since by_model r calls) in
    let start = (journal r).time in
    let late = in_good_time every start 0 start (journal r) (by_model.since r calls) s (omega arith) (omega arith) in
    let many : suc (0 + n) ≡ suc n = omega arith in
    split (leb samples n) (λ e. omega tested)
    (λ e.
    let few : suc n ≤ samples = omega tested in
    absurd (omega (arith, rw many at late, mul-le-mul_right every few)))
