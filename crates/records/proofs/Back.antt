-- There and back: a record goes back to its own bytes if the record of what it asks is itself, which it is exactly if it is
-- plain; and the record of a call that is not refused is plain.
use Prim.Native.Nat.{ℕ, zero, suc, ◌+◌, ◌*◌, ◌%◌, ◌≤◌, ◌<◌}
use mathlib.Core.Path.{◌≡◌, refl, sym, ap, ap₂, ◌∙◌, subst, subst⁻¹}
use mathlib.Core.Bool.{true, false, cond}
use mathlib.Core.List.{List, [], ◌∷◌}
use native.Mathlib.Nat.{add_assoc, add-zero, add-suc, zero-add, add-mul-mod_self_left, mod-eq_of_lt}
use native.Mathlib.Nat.{add-mul-div_left, div-eq_of_lt}
use native.Mathlib.Omega.{arith}
use borrow.Author.Tests.{lt-leb, le-ltb, ltb-false, eqb-true, eqb-false, ne_eqb}
use lib.Dec.{eqb}
use lib.ListN.{length, take, drop, length-drop}
use lib.Seq.{length-take-le, drop-cons, get_or-take, get_or-drop}
use Rattle.rules.specs.Refusals.{first_of, NoneHolds}
use Rattle.rules.specs.Samples.{usual_probes}
use Rattle.rules.proofs.Cases.{split, clash, on_cond}
use Rattle.model.specs.Calls.{words, count, offer, poll}
use Rattle.records.specs.declared.Record.{Record}
use Rattle.records.specs.Records.{record_bytes, byte_at, two_at, four_at, record_at, Asked, makes, calls, unknown}
use Rattle.records.specs.Records.{probes_in, asked_by}
use Rattle.records.specs.Buffers.{written}
use Rattle.records.specs.Writing.{little_endian, bytes_of, record_of, argument_checks, place_checks, write_number, log_after}
use Rattle.records.specs.Writing.{probes_field, Narrow, Plain, Bytes, sixteen_at, WritesBack, BackExactly}
use Rattle.records.proofs.Asking.{asks_nothing, other_profile}
use Rattle.records.proofs.Asking.{same_record}
use Rattle.records.proofs.Writing.{place_passed}
use Rattle.records.proofs.Reading.{Fitting, read_written, record_written, table, none-held, has_room, put, fits}

-- the bytes of a log from a place on, one by one
row : List ℕ → (at k n : ℕ) → List ℕ
row log at k zero = []
row log at k (suc n) = byte_at log (at + k) ∷ row log at (suc k) n

row_is : (log : List ℕ) (at k n : ℕ) → at + k + n ≤ length log → take n (drop (at + k) log) ≡ row log at k n
unfolding row
row_is log at k zero h = refl
row_is log at k (suc n) h =
    ap (take (suc n)) (drop-cons log (at + k) 0 (omega arith))
    ∙ ap (λ (l : List ℕ). byte_at log (at + k) ∷ l)
    (ap (λ (p : ℕ). take n (drop p log)) (sym (add-suc at k)) ∙ row_is log at (suc k) n (omega arith))

-- the bytes of a number in front of which a byte stands
byte_first : (width b n : ℕ) → b < 256 → little_endian (suc width) (b + 256 * n) ≡ b ∷ little_endian width n
unfolding little_endian
byte_first width b n h =
    ap₂ (λ (c m : ℕ). c ∷ little_endian width m) (add-mul-mod_self_left b 256 n ∙ mod-eq_of_lt h)
    (add-mul-div_left b n {y = 256} (omega arith) ∙ ap (λ (q : ℕ). q + n) (div-eq_of_lt h) ∙ zero-add n)

-- a number read from a log's bytes has these bytes
module _ (log : List ℕ) (bytes : Bytes log) where
  one_of : (p : ℕ) → little_endian 1 (byte_at log p) ≡ byte_at log p ∷ []
  unfolding little_endian
  one_of p = let e : byte_at log p % 256 ≡ byte_at log p = omega (arith, bytes p) in ap (λ (b : ℕ). b ∷ []) e

  two-of : (p : ℕ) → little_endian 2 (two_at log p) ≡ byte_at log p ∷ byte_at log (p + 1) ∷ []
  unfolding two_at
  two-of p =
      byte_first 1 (byte_at log p) (byte_at log (p + 1)) (bytes p) ∙ ap (λ (l : List ℕ). byte_at log p ∷ l) (one_of (p + 1))

  four-of :
      (p : ℕ) → little_endian 4 (four_at log p) ≡ byte_at log p ∷ byte_at log (p + 1) ∷ byte_at log (p + 2) ∷ byte_at log (p + 3)
      ∷ []
  unfolding four_at
  four-of p =
      let b₀ = byte_at log p in
      let b₁ = byte_at log (p + 1) in
      let b₂ = byte_at log (p + 2) in
      let b₃ = byte_at log (p + 3) in
      let nested : four_at log p ≡ b₀ + 256 * (b₁ + 256 * (b₂ + 256 * b₃)) = omega arith in
      ap (little_endian 4) nested
      ∙ byte_first 3 b₀ (b₁ + 256 * (b₂ + 256 * b₃)) (bytes p)
      ∙ ap (λ (l : List ℕ). b₀ ∷ l) (byte_first 2 b₁ (b₂ + 256 * b₃) (bytes (p + 1)))
      ∙ ap (λ (l : List ℕ). b₀ ∷ b₁ ∷ l) (byte_first 1 b₂ b₃ (bytes (p + 2)))
      ∙ ap (λ (l : List ℕ). b₀ ∷ b₁ ∷ b₂ ∷ l) (one_of (p + 3))

  -- so the record read at a place has the bytes there
  bytes_read : (at : ℕ) → at + record_bytes ≤ length log → bytes_of (record_at log at) ≡ sixteen_at log at
  unfolding bytes_of record_at row
  bytes_read at h =
      simp (one_of, two-of, four-of, add_assoc)
      (sym (ap (λ (p : ℕ). take 16 (drop p log)) (sym (add-zero at)) ∙ row_is log at 0 16 (omega arith) ∙ simp add-zero))

  fits_read : (at : ℕ) → Fitting (record_at log at)
  unfolding record_at two_at four_at
  fits_read at =
      record {
        kind = bytes at;
        priority = bytes (at + 1);
        ontime = omega (arith, bytes (at + 2), bytes (at + 2 + 1));
        lifetime = omega (arith, bytes (at + 4), bytes (at + 4 + 1), bytes (at + 4 + 2), bytes (at + 4 + 3));
        id = omega (arith, bytes (at + 8), bytes (at + 8 + 1), bytes (at + 8 + 2), bytes (at + 8 + 3));
        stamp = omega (arith, bytes (at + 12), bytes (at + 12 + 1), bytes (at + 12 + 2), bytes (at + 12 + 3));
      }

-- a lifetime field other than 1,000 is that of the probes that it is read as, which are some and fit
read_field : (lifetime : ℕ) → (lifetime ≡ usual_probes → ⊥) → probes_field (probes_in lifetime) ≡ lifetime
unfolding probes_in probes_field
read_field lifetime other =
    split (eqb lifetime 0)
    (λ e. rw e (sym (eqb-true lifetime 0 e)))
    (λ e. rw (e, ne_eqb lifetime usual_probes other) refl)

read_some : (lifetime : ℕ) → probes_in lifetime ≡ 0 → ⊥
unfolding probes_in
read_some lifetime =
    on_cond (λ (n : ℕ). n ≡ 0 → ⊥) (eqb lifetime 0) (λ e z. absurd (omega arith)) (λ e. eqb-false lifetime 0 e)

read_lt : (lifetime : ℕ) → lifetime < 4294967296 → probes_in lifetime < 4294967296
unfolding probes_in
read_lt lifetime h = on_cond (λ (n : ℕ). n < 4294967296) (eqb lifetime 0) (λ e. omega arith) (λ e. h)

-- and no sample's field says 1,000
field_other : (probes : ℕ) → probes_field probes ≡ usual_probes → ⊥
unfolding probes_field
field_other probes =
    on_cond (λ (n : ℕ). n ≡ usual_probes → ⊥) (eqb probes usual_probes)
    (λ e z. absurd (omega arith))
    (λ e. eqb-false probes usual_probes e)

-- the record of what a plain record asks is itself, and its numbers are refused by no row; said of six numbers
module _ (kind priority ontime lifetime id stamp : ℕ) where
  abbrev given : Record
  given = record { kind = kind; priority = priority; ontime = ontime; lifetime = lifetime; id = id; stamp = stamp }

  -- by kinds
  by_kind : {P : Type 0} → (kind ≡ 0 → P) → (kind ≡ 1 → P) → (kind ≡ 2 → P) → (kind ≡ 3 → P) → (3 < kind → P) → P
  by_kind k₀ k₁ k₂ k₃ above =
      split (eqb kind 0) (λ e. k₀ (eqb-true kind 0 e))
      (λ n₀. split (eqb kind 1) (λ e. k₁ (eqb-true kind 1 e))
      (λ n₁. split (eqb kind 2) (λ e. k₂ (eqb-true kind 2 e))
      (λ n₂. split (eqb kind 3) (λ e. k₃ (eqb-true kind 3 e))
      (λ n₃.
      above (omega (arith, eqb-false kind 0 n₀, eqb-false kind 1 n₁, eqb-false kind 2 n₂, eqb-false kind 3 n₃))))))

  itself : Plain given → record_of (asked_by given) ≡ given
  unfolding asked_by record_of
  itself p =
      by_kind
      (λ e. let z = p.make e in simp (e, z.2, z.3, other_profile priority z.0))
      (λ e. let z = p.sample e in simp (e, z.0, z.1, read_field lifetime z.2))
      (λ e. simp e)
      (λ e. let z = p.poll e in simp (e, z.0, z.1, z.2, z.3))
      (λ h. absurd (omega (arith, p.known)))

  accepts : Plain given → Fitting given → first_of (argument_checks (asked_by given)) ≡ 0
  unfolding asked_by argument_checks first_of
  accepts p f =
      by_kind
      (λ e.
      let z = p.make e in
      simp (
        e,
        other_profile priority z.0,
        lt-leb 256 priority f.priority,
        ne_eqb priority 5 z.0,
        le-ltb 1 lifetime z.1,
      ))
      (λ e.
      simp (
        e,
        lt-leb 4294967296 id f.id,
        lt-leb 4294967296 (probes_in lifetime) (read_lt lifetime f.lifetime),
        ne_eqb (probes_in lifetime) 0 (read_some lifetime),
      ))
      (λ e.
      simp (
        e,
        lt-leb 256 priority f.priority,
        lt-leb 65536 ontime f.ontime,
        lt-leb 4294967296 lifetime f.lifetime,
      ))
      (λ e. simp e)
      (λ h. absurd (omega (arith, p.known)))

  narrow : Fitting given → Narrow (asked_by given)
  unfolding asked_by
  narrow f =
      by_kind
      (λ e. simp e f.stamp)
      (λ e. simp e (f.stamp, tt))
      (λ e. simp e (f.stamp, f.id))
      (λ e. simp e (f.stamp, tt))
      (λ h. subst⁻¹ Narrow (asks_nothing given h) tt)

-- a call's record is plain
plain : (a : Asked) → NoneHolds (argument_checks a) → Plain (record_of a)
unfolding argument_checks record_of
plain (makes m) h =
    record {
      known = omega arith;
      make = λ e. (eqb-false m.profile 5 h.1.0, ltb-false 1 m.oldway h.1.1.0, refl, refl);
      sample = λ e. absurd (omega arith);
      poll = λ e. absurd (omega arith);
    }
plain (calls (words stamp probes ws)) h =
    record {
      known = omega arith;
      make = λ e. absurd (omega arith);
      sample = λ e. (refl, refl, field_other probes);
      poll = λ e. absurd (omega arith);
    }
plain (calls (count stamp busy probes)) h =
    record {
      known = omega arith;
      make = λ e. absurd (omega arith);
      sample = λ e. (refl, refl, field_other probes);
      poll = λ e. absurd (omega arith);
    }
plain (calls (offer stamp o)) h =
    record {
      known = omega arith;
      make = λ e. absurd (omega arith);
      sample = λ e. absurd (omega arith);
      poll = λ e. absurd (omega arith);
    }
plain (calls (poll stamp)) h =
    record {
      known = omega arith;
      make = λ e. absurd (omega arith);
      sample = λ e. absurd (omega arith);
      poll = λ e. (refl, refl, refl, refl);
    }
plain unknown h = clash (let e : true ≡ false = h.0 in cc)

-- the record of the 16 bytes from a place on is the one at that place
read_sixteen : (log : List ℕ) (at : ℕ) → record_at (sixteen_at log at) 0 ≡ record_at log at
read_sixteen log at =
    same_record (sixteen_at log at) log 0 at
    (λ k l.
    ap (byte_at (sixteen_at log at)) (zero-add k) ∙ get_or-take 16 (drop at log) k 0 l ∙ get_or-drop at log k 0)

module _ (log : List ℕ) (at : ℕ) (bytes : Bytes log) (h : at + record_bytes ≤ length log) where
  abbrev asked : Asked
  asked = asked_by (record_at log at)

  goes_back :
      Plain (record_at log at) → (buffer : List ℕ) (place : ℕ) → place + record_bytes ≤ length buffer
      → WritesBack log at buffer place
  goes_back p buffer place r =
      let rec = record_at log at in
      let f = fits_read log bytes at in
      let mine = accepts rec.kind rec.priority rec.ontime rec.lifetime rec.id rec.stamp p f in
      let z : write_number buffer place asked ≡ 0 =
      table buffer place asked
      ∙ ap (λ (k : ℕ). cond (eqb k 0) (first_of (place_checks (length buffer) place)) k) mine
      ∙ place_passed (length buffer) place r in
      record {
        accepted = z;
        bytes =
            put buffer place asked z
            ∙ ap (λ (x : Record). written buffer place (bytes_of x))
            (itself rec.kind rec.priority rec.ontime rec.lifetime rec.id rec.stamp p)
            ∙ ap (written buffer place) (bytes_read log bytes at h);
      }

  only_plain : (buffer : List ℕ) (place : ℕ) → WritesBack log at buffer place → Plain (record_at log at)
  only_plain buffer place w =
      let rec = record_at log at in
      let z = w.accepted in
      let r = has_room buffer place asked z in
      let none = none-held buffer place asked z in
      let n =
      narrow rec.kind rec.priority rec.ontime rec.lifetime rec.id rec.stamp (fits_read log bytes at) in
      let mine : record_at (log_after buffer place asked) place ≡ record_of asked =
      ap (λ (l : List ℕ). record_at l place) (put buffer place asked z)
      ∙ record_written buffer place (record_of asked) r (fits asked n none) in
      let sixteen : length (sixteen_at log at) ≡ 16 = length-take-le 16 (drop at log) (omega (arith, length-drop at log)) in
      let theirs : record_at (log_after buffer place asked) place ≡ rec =
      ap (λ (l : List ℕ). record_at l place) w.bytes
      ∙ read_written buffer place (sixteen_at log at) r sixteen
      ∙ read_sixteen log at in
      subst Plain (sym mine ∙ theirs) (plain asked none)

pub back_exactly : BackExactly
back_exactly log at bytes h = record { back = goes_back log at bytes h; only = only_plain log at bytes h }
