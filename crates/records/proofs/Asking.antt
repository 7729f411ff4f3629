-- Where a whole record stands, that 16 bytes tell it, and what a record of each kind asks: the definitions at that number.
use Prim.Native.Nat.{ℕ, ◌+◌, ◌<◌, ◌≤◌}
use mathlib.Core.Path.{◌≡◌}
use mathlib.Core.List.{List}
use native.Mathlib.Nat.{add_assoc, add-zero}
use native.Mathlib.Omega.{arith}
use borrow.Author.Tests.{ne_eqb, eqb-true, eqb-false, le-leb}
use lib.Dec.{eqb}
use lib.ListN.{length}
use Rattle.rules.proofs.Cases.{split}
use Rattle.model.specs.Calls.{Call, count, offer, poll}
use Rattle.records.specs.declared.Record.{Record}
use Rattle.records.specs.Records.{record_bytes, byte_at, two_at, four_at, record_at, whole_record_at}
use Rattle.records.specs.Records.{makes, calls, unknown, profile_in, making_in, offer_in, probes_in, asked_by}

-- 16 bytes from a place on are a record
pub whole_record : (log : List ℕ) (at : ℕ) → at + record_bytes ≤ length log → whole_record_at log at ≡ record_at log at
unfolding whole_record_at
whole_record log at h = rw (le-leb (at + record_bytes) (length log) h)

-- two logs that agree on the 16 bytes of a record have the same record there
pub same_record :
    (a b : List ℕ) (i j : ℕ) → ((k : ℕ) → k < record_bytes → byte_at a (i + k) ≡ byte_at b (j + k)) → record_at a i
    ≡ record_at b j
unfolding record_at four_at two_at
same_record a b i j h =
    let first : byte_at a i ≡ byte_at b j = rw (add-zero i, add-zero j) at (h 0 (omega arith)) in
    simp (
      first,
      add_assoc,
      h 1 (omega arith),
      h 2 (omega arith),
      h 3 (omega arith),
      h 4 (omega arith),
      h 5 (omega arith),
      h 6 (omega arith),
      h 7 (omega arith),
      h 8 (omega arith),
      h 9 (omega arith),
      h 10 (omega arith),
      h 11 (omega arith),
      h 12 (omega arith),
      h 13 (omega arith),
      h 14 (omega arith),
      h 15 (omega arith),
    )

pub asks_make : (rec : Record) → rec.kind ≡ 0 → asked_by rec ≡ makes (making_in rec)
unfolding asked_by
asks_make rec e = simp e

pub asks_count : (rec : Record) → rec.kind ≡ 1 → asked_by rec ≡ calls (count rec.stamp rec.id (probes_in rec.lifetime))
unfolding asked_by
asks_count rec e = simp e

pub asks_offer : (rec : Record) → rec.kind ≡ 2 → asked_by rec ≡ calls (offer rec.stamp (offer_in rec))
unfolding asked_by
asks_offer rec e = simp e

pub asks_poll : (rec : Record) → rec.kind ≡ 3 → asked_by rec ≡ calls (poll rec.stamp)
unfolding asked_by
asks_poll rec e = simp e

pub asks_nothing : (rec : Record) → 3 < rec.kind → asked_by rec ≡ unknown
unfolding asked_by
asks_nothing rec h =
    simp (
      ne_eqb rec.kind 0 (λ e. omega arith),
      ne_eqb rec.kind 1 (λ e. omega arith),
      ne_eqb rec.kind 2 (λ e. omega arith),
      ne_eqb rec.kind 3 (λ e. omega arith),
    )

-- a record of kind 1 to 3 asks some call
pub asks_call : (rec : Record) → 0 < rec.kind → rec.kind ≤ 3 → (c : Call) × (asked_by rec ≡ calls c)
asks_call rec a b =
    split (eqb rec.kind 1)
    (λ e. (_, asks_count rec (eqb-true rec.kind 1 e)))
    (λ not1. split (eqb rec.kind 2)
    (λ e. (_, asks_offer rec (eqb-true rec.kind 2 e)))
    (λ not2. (_, asks_poll rec (omega (arith, eqb-false rec.kind 1 not1, eqb-false rec.kind 2 not2)))))

-- a profile that is not 5 is asked for as it is
pub other_profile : (profile : ℕ) → (profile ≡ 5 → ⊥) → profile_in profile ≡ profile
unfolding profile_in
other_profile profile other = rw (ne_eqb profile 5 other)
