-- The writer's statements (document 02, W-206), from their proofs, at calls that meet what they ask: one that says less fails
-- here, and one whose hypothesis nothing meets.
use Prim.Native.Nat.{ℕ, zero, suc, ◌+◌, ◌≤◌}
use mathlib.Core.Path.{◌≡◌, refl, ap}
use mathlib.Core.Bool.{true}
use mathlib.Core.List.{List, [], ◌∷◌, ◌++◌}
use native.Mathlib.Omega.{arith}
use borrow.Author.Tests.{ltb-true}
use lib.Dec.{ltb}
use lib.ListN.{take, drop, get_or, replicate}
use Rattle.rules.proofs.Cases.{both}
use Rattle.packing.specs.Packing.{all_are}
use Rattle.machine.specs.Levels.{no_levels}
use Rattle.model.specs.Calls.{words, count, offer, poll, making_of}
use Rattle.model.proofs.Computing.{of_samples}
use Rattle.records.specs.Records.{two_at, four_at, record_at, Asked, makes, calls, asked_by}
use Rattle.records.specs.Writing.{little_endian, bytes_of, probes_field, record_of, argument_checks, write_number, log_after}
use Rattle.records.specs.Writing.{AllWritten, Plain, Bytes, WritesBack, Alike}
use Rattle.records.proofs.Alike.{share_record}
use Rattle.records.proofs.Reading.{reads_back, writes_behind}
use Rattle.records.proofs.Back.{back_exactly}

unfoldable of_writes : Type 0
unfolding of_samples little_endian bytes_of probes_field record_of argument_checks write_number log_after
of_writes = Unit {0}

-- two different samples of 65 probes, two of them busy: the first two; the first and the last
abbrev pub first_two : List ℕ
first_two = 3 ∷ 0 ∷ []

abbrev pub first_and_last : List ℕ
first_and_last = 1 ∷ 1 ∷ []

pub different : first_two ≡ first_and_last → ⊥
different e = let n = ap (λ (ws : List ℕ). get_or ws 0 0) e in omega arith

pub alike : Alike 65 first_two first_and_last
unfolding of_samples
alike = record { good = refl; good' = refl; busy = refl }

-- "two good ones with the same count and stamp share a record", at every place of every log
module _ (log : List ℕ) (at stamp : ℕ) where
  abbrev one : Asked
  one = calls (words stamp 65 first_two)

  abbrev other : Asked
  other = calls (words stamp 65 first_and_last)

  shared : (record_of one ≡ record_of other) × (write_number log at one ≡ write_number log at other)
      × (log_after log at one ≡ log_after log at other)
  shared = let s = share_record log at stamp 65 first_two first_and_last alike in (s.fields, s.answer, s.bytes)

-- a call of each kind, its numbers the widest that fit
abbrev pub made : Asked
made = makes (making_of 255 1 no_levels 4294967295)

abbrev pub sampled : Asked
sampled = calls (words 4294967295 65 first_and_last)

abbrev pub counted : Asked
counted = calls (count 4294967295 4294967295 4294967295)

abbrev pub offered : Asked
offered = calls (offer 4294967295 (record { id = 4294967295; priority = 255; ontime = 65535; lifetime = 4294967295 }))

abbrev pub polled : Asked
polled = calls (poll 4294967295)

-- "The trailer should record its own calls.": none of these is refused
pub all-written : AllWritten (made ∷ sampled ∷ counted ∷ offered ∷ polled ∷ [])
unfolding of_writes AllWritten
all-written = (
  omega arith,
  (refl, (refl, (refl, tt))),
  (
    (omega arith, tt),
    (refl, tt),
    (
      (omega arith, tt),
      (refl, (refl, (refl, tt))),
      (
        (omega arith, omega arith),
        (refl, (refl, (refl, tt))),
        ((omega arith, tt), tt, tt),
      ),
    ),
  ),
)

-- "Reading what was written gives back the call, a sample by words as one by its count", in the last 16 bytes of a buffer
abbrev read_again : Asked → Asked
read_again a = asked_by (record_at (log_after (replicate 19 255) 3 a) 3)

read_again_lem :
    (read_again made ≡ made)
    × (read_again sampled ≡ calls (count 4294967295 2 65))
    × (read_again counted ≡ counted)
    × (read_again offered ≡ offered)
    × (read_again polled ≡ polled)
unfolding of_writes
read_again_lem = (
  reads_back (replicate 19 255) 3 made (omega arith) refl,
  reads_back (replicate 19 255) 3 sampled (omega arith, tt) refl,
  reads_back (replicate 19 255) 3 counted (omega arith, tt) refl,
  reads_back (replicate 19 255) 3 offered (omega arith, omega arith) refl,
  reads_back (replicate 19 255) 3 polled (omega arith, tt) refl,
)

-- a write behind two bytes that are written already, with room for a byte more
behind :
    log_after ((7 ∷ 8 ∷ []) ++ replicate 17 9) 2 polled
    ≡ 7 ∷ 8 ∷ 3 ∷ 0 ∷ 0 ∷ 0 ∷ 0 ∷ 0 ∷ 0 ∷ 0 ∷ 0 ∷ 0 ∷ 0 ∷ 0 ∷ 255 ∷ 255 ∷ 255 ∷ 255 ∷ 9 ∷ []
unfolding of_writes
behind = writes_behind (7 ∷ 8 ∷ []) (replicate 17 9) polled tt (omega arith)

-- a log each of whose numbers is below 256
below : (log : List ℕ) → all_are (λ (b : ℕ). ltb b 256) log ≡ true → Bytes log
unfolding all_are
below [] e k = omega arith
below (b ∷ log) e zero = ltb-true b 256 (both (ltb b 256) _ e).0
below (b ∷ log) e (suc k) = below log (both (ltb b 256) _ e).1 k

-- a make in the old way, a sample of 3 probes, an offer and a poll
log : List ℕ
log =
    (0 ∷ 77 ∷ 0 ∷ 0 ∷ 1 ∷ 0 ∷ 0 ∷ 0 ∷ 0 ∷ 0 ∷ 0 ∷ 0 ∷ 9 ∷ 0 ∷ 0 ∷ 0 ∷ [])
    ++ (1 ∷ 0 ∷ 0 ∷ 0 ∷ 3 ∷ 0 ∷ 0 ∷ 0 ∷ 2 ∷ 0 ∷ 0 ∷ 0 ∷ 9 ∷ 0 ∷ 0 ∷ 0 ∷ [])
    ++ (2 ∷ 3 ∷ 4 ∷ 5 ∷ 6 ∷ 7 ∷ 8 ∷ 9 ∷ 10 ∷ 11 ∷ 12 ∷ 13 ∷ 14 ∷ 15 ∷ 16 ∷ 255 ∷ [])
    ++ (3 ∷ 0 ∷ 0 ∷ 0 ∷ 0 ∷ 0 ∷ 0 ∷ 0 ∷ 0 ∷ 0 ∷ 0 ∷ 0 ∷ 9 ∷ 0 ∷ 0 ∷ 0 ∷ [])

all_bytes : Bytes log
unfolding log all_are
all_bytes = below log refl

of_reads : Type 0
unfolding record_at two_at four_at
of_reads = Unit {0}

plain_make : Plain (record_at log 0)
unfolding log of_reads
plain_make =
    record {
      known = omega arith;
      make = λ e. (λ z. omega arith, omega arith, refl, refl);
      sample = λ e. absurd (omega arith);
      poll = λ e. absurd (omega arith);
    }

plain_sample : Plain (record_at log 16)
unfolding log of_reads
plain_sample =
    record {
      known = omega arith;
      make = λ e. absurd (omega arith);
      sample = λ e. (refl, refl, λ z. omega arith);
      poll = λ e. absurd (omega arith);
    }

plain_offer : Plain (record_at log 32)
unfolding log of_reads
plain_offer =
    record {
      known = omega arith;
      make = λ e. absurd (omega arith);
      sample = λ e. absurd (omega arith);
      poll = λ e. absurd (omega arith);
    }

plain_poll : Plain (record_at log 48)
unfolding log of_reads
plain_poll =
    record {
      known = omega arith;
      make = λ e. absurd (omega arith);
      sample = λ e. absurd (omega arith);
      poll = λ e. (refl, refl, refl, refl);
    }

-- "a record of kind 0 to 3 with ignored fields zero, and 0 or 1 as a kind 0's lifetime, reads and writes back to the same bytes"
abbrev again : (at : ℕ) → List ℕ
again at = log_after (replicate 17 255) 1 (asked_by (record_at log at))

back : (at : ℕ) → at + 16 ≤ 64 → Plain (record_at log at) → WritesBack log at (replicate 17 255) 1
unfolding log
back at room plain = (back_exactly log at all_bytes room).back plain (replicate 17 255) 1 (omega arith)

all_back :
    (again 0 ≡ 255 ∷ take 16 log)
    × (again 16 ≡ 255 ∷ take 16 (drop 16 log))
    × (again 32 ≡ 255 ∷ take 16 (drop 32 log))
    × (again 48 ≡ 255 ∷ take 16 (drop 48 log))
unfolding log
all_back = (
  (back 0 (omega arith) plain_make).bytes,
  (back 16 (omega arith) plain_sample).bytes,
  (back 32 (omega arith) plain_offer).bytes,
  (back 48 (omega arith) plain_poll).bytes,
)
