-- Fields put one behind the other are the record's bytes; and a write is judged by the arguments' table first, then the place's.
use Prim.Native.Nat.{ℕ, zero, suc, ◌+◌, ◌/◌, ◌≤◌, ◌<◌}
use mathlib.Core.Path.{◌≡◌, refl, sym, ap, ◌∙◌}
use mathlib.Core.Bool.{Bool, cond}
use mathlib.Core.List.{List, ◌++◌}
use native.Mathlib.Omega.{arith}
use borrow.Author.Tests.{lt-ltb, le-ltb, ltb-true, ltb-false, eqb-true, ne_eqb}
use lib.Dec.{eqb, ltb}
use lib.ListN.{length, take}
use Rattle.std.specs.Int.{w32, to_le_bytes}
use Rattle.rules.specs.declared.refusal.Refusal.{Refusal}
use Rattle.rules.specs.Refusals.{first_of, number_of}
use Rattle.rules.proofs.Cases.{split}
use Rattle.rules.proofs.Refusals.{Numbered, first_append, some_number}
use Rattle.model.specs.Calls.{words, count, offer, poll}
use Rattle.records.specs.declared.Record.{Record}
use Rattle.records.specs.Records.{Asked, makes, calls, unknown}
use Rattle.records.specs.Buffers.{written}
use Rattle.records.specs.Writing.{little_endian, bytes_of, record_of, argument_checks, place_checks}
use Rattle.records.specs.Writing.{write_number, unless_refused, log_after, Wrote}
use Rattle.records.proofs.Buffers.{next}

pub length_bytes : (width n : ℕ) → length (little_endian width n) ≡ width
unfolding little_endian
length_bytes zero n = refl
length_bytes (suc width) n = ap suc (length_bytes width (n / 256))

-- the library's bytes of a number, as many as a field has
pub low_bytes : (width n : ℕ) → width ≤ 4 → take width (to_le_bytes w32 n) ≡ little_endian width n
unfolding little_endian
low_bytes zero n h = refl
low_bytes (suc zero) n h = refl
low_bytes (suc (suc zero)) n h = refl
low_bytes (suc (suc (suc zero))) n h = let two : n / 65536 ≡ n / 256 / 256 = omega arith in rw two refl
low_bytes (suc (suc (suc (suc zero)))) n h =
    let two : n / 65536 ≡ n / 256 / 256 = omega arith in
    let three : n / 16777216 ≡ n / 256 / 256 / 256 = omega arith in
    rw (two, three) refl
low_bytes (suc (suc (suc (suc (suc width))))) n h = absurd (omega arith)

-- a text put behind another, at a place k
more :
    (d l l' : List ℕ) (at k : ℕ) (s t : List ℕ) → at ≤ length d → k ≡ at + length s
    → l ≡ written d at s → l' ≡ written l k t → l' ≡ written d at (s ++ t)
more d l l' at k s t h p e f = (next h (record { place = p; bytes = e }) (record { place = refl; bytes = f })).bytes

-- the fields put one behind the other are the record's bytes
pub fields :
    (d l₁ l₂ l₃ l₄ l₅ l₆ : List ℕ) (at : ℕ) (rec : Record) → at ≤ length d
    → l₁ ≡ written d at (little_endian 1 rec.kind)
    → l₂ ≡ written l₁ (at + 1) (little_endian 1 rec.priority)
    → l₃ ≡ written l₂ (at + 2) (little_endian 2 rec.ontime)
    → l₄ ≡ written l₃ (at + 4) (little_endian 4 rec.lifetime)
    → l₅ ≡ written l₄ (at + 8) (little_endian 4 rec.id)
    → l₆ ≡ written l₅ (at + 12) (little_endian 4 rec.stamp)
    → l₆ ≡ written d at (bytes_of rec)
unfolding little_endian bytes_of
fields d l₁ l₂ l₃ l₄ l₅ l₆ at rec h p₁ e₂ e₃ e₄ e₅ e₆ =
    let s₁ = little_endian 1 rec.kind in
    let s₂ = s₁ ++ little_endian 1 rec.priority in
    let s₃ = s₂ ++ little_endian 2 rec.ontime in
    let s₄ = s₃ ++ little_endian 4 rec.lifetime in
    let s₅ = s₄ ++ little_endian 4 rec.id in
    let p₂ = more d l₁ l₂ at (at + 1) s₁ (little_endian 1 rec.priority) h refl p₁ e₂ in
    let p₃ = more d l₂ l₃ at (at + 2) s₂ (little_endian 2 rec.ontime) h refl p₂ e₃ in
    let p₄ = more d l₃ l₄ at (at + 4) s₃ (little_endian 4 rec.lifetime) h refl p₃ e₄ in
    let p₅ = more d l₄ l₅ at (at + 8) s₄ (little_endian 4 rec.id) h refl p₄ e₅ in
    more d l₅ l₆ at (at + 12) s₅ (little_endian 4 rec.stamp) h refl p₅ e₆

pub place_refused : (bytes at : ℕ) → bytes < at + 16 → first_of (place_checks bytes at) ≡ 12
unfolding first_of
place_refused bytes at h = simp (lt-ltb bytes (at + 16) h)

pub place_passed : (bytes at : ℕ) → at + 16 ≤ bytes → first_of (place_checks bytes at) ≡ 0
unfolding first_of
place_passed bytes at h = simp (le-ltb bytes (at + 16) h)

pub numbered : (a : Asked) → Numbered (argument_checks a)
unfolding argument_checks
numbered (makes m) = (omega arith, (omega arith, (omega arith, tt)))
numbered (calls (words stamp probes ws)) = (omega arith, tt)
numbered (calls (count stamp busy probes)) = (omega arith, (omega arith, (omega arith, tt)))
numbered (calls (offer stamp o)) = (omega arith, (omega arith, (omega arith, tt)))
numbered (calls (poll stamp)) = tt
numbered unknown = (omega arith, tt)

-- no refusal in the end is none of the call's own
pub passed : (refusal number place : ℕ) → number ≡ cond (eqb refusal 0) place refusal → number ≡ 0 → refusal ≡ 0
passed refusal number place n z =
    split (eqb refusal 0) (eqb-true refusal 0)
    (λ f. sym (n ∙ ap (λ (u : Bool). cond u place refusal) f) ∙ z)

-- and the place has room
pub room :
    (bytes at refusal number : ℕ) → number ≡ cond (eqb refusal 0) (first_of (place_checks bytes at)) refusal → number ≡ 0
    → at + 16 ≤ bytes
room bytes at refusal number n z =
    split (ltb bytes (at + 16))
    (λ t.
    let mine : refusal ≡ 0 = passed refusal number (first_of (place_checks bytes at)) n z in
    let e : number ≡ 12 = (rw mine at n) ∙ place_refused bytes at (ltb-true bytes (at + 16) t) in
    absurd (omega arith))
    (ltb-false bytes (at + 16))

-- a refusal writes nothing
pub kept :
    (refusal : Refusal) (log : List ℕ) (at : ℕ) (rec : Record) → log ≡ unless_refused (number_of refusal) log at rec
kept refusal log at rec = rw (ne_eqb (number_of refusal) 0 (some_number refusal))

-- a write is refused by the call's own numbers
pub refused :
    (log : List ℕ) (at : ℕ) (a : Asked) (refusal : Refusal) → number_of refusal ≡ first_of (argument_checks a)
    → Wrote log at a (number_of refusal) log
unfolding write_number log_after
refused log at a refusal r =
    let answer : number_of refusal ≡ write_number log at a =
    sym
    (first_append (argument_checks a) (place_checks (length log) at) (numbered a)
    ∙ rw (sym r, ne_eqb (number_of refusal) 0 (some_number refusal)) refl) in
    record { answer = answer; bytes = rw answer at (kept refusal log at (record_of a)) }

-- and where they pass by its place, where nothing is refused, the record is the call's
pub placed :
    (log : List ℕ) (at : ℕ) (a : Asked) (number : ℕ) (rec : Record) (after : List ℕ)
    → 0 ≡ first_of (argument_checks a)
    → rec ≡ record_of a
    → number ≡ first_of (place_checks (length log) at)
    → after ≡ unless_refused number log at rec
    → Wrote log at a number after
unfolding write_number log_after
placed log at a number rec after r same n e =
    let answer : number ≡ write_number log at a =
    n
    ∙ sym
    (first_append (argument_checks a) (place_checks (length log) at) (numbered a) ∙ rw (sym r) refl) in
    record { answer = answer; bytes = e ∙ rw (same, answer) refl }
