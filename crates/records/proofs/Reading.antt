-- Reading back: 16 bytes at a place are read as the record that was written there, and a call's record asks that call, a
-- sample by words the one by its count, a make the one without its list.
use Prim.Native.Nat.{ℕ, ◌+◌, ◌*◌, ◌/◌, ◌%◌, ◌≤◌, ◌<◌}
use mathlib.Core.Path.{◌≡◌, refl, sym, ap, ap₂, ◌∙◌}
use mathlib.Core.Bool.{Bool, true, false, not, cond}
use mathlib.Core.List.{List, [], ◌∷◌, ◌++◌}
use native.Mathlib.Nat.{zero-add}
use native.Mathlib.Omega.{arith}
use borrow.Author.Tests.{eq-eqb, ne_eqb, eqb-true, eqb-false, leb-false, ltb-false, not-false}
use lib.Dec.{eqb}
use lib.ListN.{length, get_or, take, drop, length-append, get_or-append}
use lib.Seq.{length-take-le, get_or-append-add, take-append_seam, drop-append-add}
use Rattle.rules.specs.Refusals.{Check, first_of, NoneHolds}
use Rattle.rules.specs.Samples.{most_probes, usual_probes, busy_of, good_words}
use Rattle.rules.proofs.Cases.{clash, split, on_cond}
use Rattle.rules.proofs.Probes.{busy_le, good_probes_lem, good_words_lem}
use Rattle.rules.proofs.Refusals.{Numbered, exact, none_of, of_none, first_append}
use Rattle.machine.specs.Levels.{no_levels}
use Rattle.model.specs.Calls.{words, count, offer, poll, making_of}
use Rattle.records.specs.declared.Record.{Record}
use Rattle.records.specs.Records.{record_bytes, byte_at, two_at, four_at, record_at, Asked, makes, calls, unknown}
use Rattle.records.specs.Records.{probes_in, asked_by}
use Rattle.records.specs.Buffers.{written}
use Rattle.records.specs.Writing.{little_endian, bytes_of, probes_field, record_of, argument_checks, place_checks, write_checks}
use Rattle.records.specs.Writing.{write_number, log_after, WritesExactly, Narrow, carried, ReadsBack, WritesBehind}
use Rattle.records.proofs.Writing.{numbered, place_passed, passed, room}
use Rattle.records.proofs.Asking.{same_record, other_profile}

-- a record whose numbers fit its fields
pub record Fitting (rec : Record) : Type 0 where
  pub kind : rec.kind < 256
  pub priority : rec.priority < 256
  pub ontime : rec.ontime < 65536
  pub lifetime : rec.lifetime < 4294967296
  pub id : rec.id < 4294967296
  pub stamp : rec.stamp < 4294967296

pub length_record : (rec : Record) → length (bytes_of rec) ≡ 16
unfolding bytes_of little_endian
length_record rec = refl

-- its bytes are read as itself
pub read_bytes : (rec : Record) → Fitting rec → record_at (bytes_of rec) 0 ≡ rec
unfolding record_at two_at four_at bytes_of little_endian
read_bytes rec f =
    let two : (n : ℕ) → n < 65536 → n % 256 + 256 * (n / 256 % 256) ≡ n = λ n h. omega arith in
    let four : (n : ℕ) → n < 4294967296
    → n % 256 + 256 * (n / 256 % 256) + 65536 * (n / 256 / 256 % 256) + 16777216 * (n / 256 / 256 / 256 % 256) ≡ n =
    λ n h. omega arith in
    let kind : rec.kind % 256 ≡ rec.kind = omega arith in
    let priority : rec.priority % 256 ≡ rec.priority = omega arith in
    simp (
      four rec.lifetime f.lifetime,
      four rec.id f.id,
      four rec.stamp f.stamp,
      two rec.ontime f.ontime,
      kind,
      priority,
    )

-- what is read at a place is what was written there
module _ (log : List ℕ) (at : ℕ) (text : List ℕ) (h : at + record_bytes ≤ length log) (e : length text ≡ record_bytes) where
  byte_written : (k : ℕ) → k < record_bytes → byte_at (written log at text) (at + k) ≡ byte_at text k
  byte_written k l =
      let front : length (take at log) ≡ at = length-take-le at log (omega arith) in
      let both : at + k < length (take at log ++ text) = omega (arith, length-append (take at log) text) in
      get_or-append (take at log ++ text) (drop (at + length text) log) 0 (at + k) both
      ∙ ap (λ (n : ℕ). get_or (take at log ++ text) (n + k) 0) (sym front)
      ∙ get_or-append-add (take at log) text k 0

  pub read_written : record_at (written log at text) at ≡ record_at text 0
  read_written =
      same_record (written log at text) text at 0
      (λ k l. byte_written k l ∙ ap (byte_at text) (sym (zero-add k)))

pub record_written :
    (log : List ℕ) (at : ℕ) (rec : Record) → at + record_bytes ≤ length log → Fitting rec
    → record_at (written log at (bytes_of rec)) at ≡ rec
record_written log at rec h f = read_written log at (bytes_of rec) h (length_record rec) ∙ read_bytes rec f

-- a write that is not refused: no row of its arguments holds, the place has room, and the record is put
pub table : (log : List ℕ) (at : ℕ) (a : Asked)
    → write_number log at a
    ≡ cond (eqb (first_of (argument_checks a)) 0) (first_of (place_checks (length log) at)) (first_of (argument_checks a))
unfolding write_number
table log at a = first_append (argument_checks a) (place_checks (length log) at) (numbered a)

module _ (log : List ℕ) (at : ℕ) (a : Asked) (z : write_number log at a ≡ 0) where
  pub none-held : NoneHolds (argument_checks a)
  none-held =
      of_none (argument_checks a) (numbered a)
      (passed (first_of (argument_checks a)) (write_number log at a) (first_of (place_checks (length log) at)) (table log at a) z)

  pub has_room : at + record_bytes ≤ length log
  has_room = room (length log) at (first_of (argument_checks a)) (write_number log at a) (table log at a) z

  pub put : log_after log at a ≡ written log at (bytes_of (record_of a))
  unfolding log_after
  put = ap (λ (u : Bool). cond u (written log at (bytes_of (record_of a))) log) (eq-eqb (write_number log at a) 0 z)

-- a sample's field is at most its probe count
field_le : (probes : ℕ) → probes_field probes ≤ probes
unfolding probes_field
field_le probes = on_cond (λ (n : ℕ). n ≤ probes) (eqb probes usual_probes) (λ e. omega arith) (λ e. omega arith)

-- and is read as that, which is not 0
field_read : (probes : ℕ) → (probes ≡ 0 → ⊥) → probes_in (probes_field probes) ≡ probes
unfolding probes_in probes_field
field_read probes some =
    split (eqb probes usual_probes)
    (λ e. rw e (sym (eqb-true probes usual_probes e)))
    (λ e. rw (e, ne_eqb probes 0 some) refl)

-- the probe count of words that are not refused
words_probes : (probes : ℕ) (ws : List ℕ) → not (good_words probes ws) ≡ false → (1 ≤ probes) × (probes ≤ most_probes)
words_probes probes ws h = good_probes_lem probes (good_words_lem probes ws (not-false (good_words probes ws) h)).count

-- then its numbers fit
pub fits : (a : Asked) → Narrow a → NoneHolds (argument_checks a) → Fitting (record_of a)
unfolding argument_checks record_of
fits (makes m) n h =
    record {
      kind = omega arith;
      priority = omega (arith, leb-false 256 m.profile h.0);
      ontime = omega arith;
      lifetime = omega (arith, ltb-false 1 m.oldway h.1.1.0);
      id = omega arith;
      stamp = omega arith;
    }
fits (calls (words stamp probes ws)) n h =
    let few : probes ≤ most_probes = (words_probes probes ws h.0).1 in
    record {
      kind = omega arith;
      priority = omega arith;
      ontime = omega arith;
      lifetime = omega (arith, field_le probes);
      id = omega (arith, busy_le ws probes);
      stamp = omega (arith, n.0);
    }
fits (calls (count stamp busy probes)) n h =
    record {
      kind = omega arith;
      priority = omega arith;
      ontime = omega arith;
      lifetime = omega (arith, field_le probes, leb-false 4294967296 probes h.1.0);
      id = omega (arith, leb-false 4294967296 busy h.0);
      stamp = omega (arith, n.0);
    }
fits (calls (offer stamp o)) n h =
    record {
      kind = omega arith;
      priority = omega (arith, leb-false 256 o.priority h.0);
      ontime = omega (arith, leb-false 65536 o.ontime h.1.0);
      lifetime = omega (arith, leb-false 4294967296 o.lifetime h.1.1.0);
      id = omega (arith, n.1);
      stamp = omega (arith, n.0);
    }
fits (calls (poll stamp)) n h =
    record {
      kind = omega arith;
      priority = omega arith;
      ontime = omega arith;
      lifetime = omega arith;
      id = omega arith;
      stamp = omega (arith, n.0);
    }
fits unknown n h = clash (let e : true ≡ false = h.0 in cc)

-- a call's record asks it
pub asks : (a : Asked) → NoneHolds (argument_checks a) → asked_by (record_of a) ≡ carried a
unfolding argument_checks asked_by record_of
asks (makes m) h =
    ap (λ (profile : ℕ). makes (making_of profile m.oldway no_levels m.stamp))
    (other_profile m.profile (eqb-false m.profile 5 h.1.0))
asks (calls (words stamp probes ws)) h =
    ap (λ (n : ℕ). calls (count stamp (busy_of ws probes) n))
    (field_read probes (λ z. absurd (omega (arith, (words_probes probes ws h.0).0))))
asks (calls (count stamp busy probes)) h =
    ap (λ (n : ℕ). calls (count stamp busy n)) (field_read probes (eqb-false probes 0 h.1.1.0))
asks (calls (offer stamp o)) h = refl
asks (calls (poll stamp)) h = refl
asks unknown h = refl

-- the record read where a call was written is the call's
pub read_after :
    (log : List ℕ) (at : ℕ) (a : Asked) → Narrow a → write_number log at a ≡ 0 → record_at (log_after log at a) at ≡ record_of a
read_after log at a n z =
    ap (λ (l : List ℕ). record_at l at) (put log at a z)
    ∙ record_written log at (record_of a) (has_room log at a z) (fits a n (none-held log at a z))

pub reads_back : ReadsBack
reads_back log at a n z = ap asked_by (read_after log at a n z) ∙ asks a (none-held log at a z)

pub writes_behind : WritesBehind
unfolding log_after
writes_behind done room a h r =
    let z : write_number (done ++ room) (length done) a ≡ 0 =
    table (done ++ room) (length done) a
    ∙ ap (λ (k : ℕ). cond (eqb k 0) (first_of (place_checks (length (done ++ room)) (length done))) k)
    (none_of (argument_checks a) h)
    ∙ place_passed (length (done ++ room)) (length done) (omega (arith, length-append done room)) in
    put (done ++ room) (length done) a z
    ∙ ap₂ (λ (x y : List ℕ). x ++ bytes_of (record_of a) ++ y)
    (take-append_seam done room)
    (ap (λ (n : ℕ). drop (length done + n) (done ++ room)) (length_record (record_of a)) ∙ drop-append-add done room 16)

numbered_append : (xs ys : List Check) → Numbered xs → Numbered ys → Numbered (xs ++ ys)
numbered_append [] ys m n = n
numbered_append (x ∷ xs) ys m n = (m.0, numbered_append xs ys m.1 n)

pub writes_exactly : WritesExactly
writes_exactly log at a =
    exact (write_checks log at a)
    (numbered_append (argument_checks a) (place_checks (length log) at) (numbered a) (omega arith, tt))
