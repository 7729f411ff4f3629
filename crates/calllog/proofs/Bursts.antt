-- A burst's records one at a time: what a record of each kind does, that its answer is told by one byte, and that a byte stored
-- behind the answers so far is one more answer.
use Prim.Native.Nat.{ℕ, zero, suc, ◌/◌, ◌%◌, ◌<◌, ◌≤◌, min}
use mathlib.Core.Path.{◌≡◌, refl, sym, ap, ◌∙◌}
use mathlib.Core.List.{List, [], ◌∷◌, ◌++◌}
use native.Mathlib.Nat.{zero-add}
use native.Mathlib.Omega.{arith}
use borrow.Author.Tests.{eqb-true, eqb-false, ne_eqb, ltb-false}
use lib.Dec.{eqb, ltb}
use lib.ListN.{length, get_or, set, drop, length-append, get_or-append}
use lib.Seq.{drop-cons, set_at, get_or_at, append_snoc}
use Rattle.rules.specs.Refusals.{Check, first_of}
use Rattle.rules.proofs.Cases.{split, on_cond}
use Rattle.model.specs.declared.Offer.{Offer}
use Rattle.model.specs.declared.Answer.{Answer}
use Rattle.model.specs.declared.Answer.TheVariants.{Refused}
use Rattle.model.specs.Queues.{in_queues}
use Rattle.model.specs.Calls.{offer, is_refused}
use Rattle.model.specs.State.{View}
use Rattle.model.specs.Effects.{Result, effect}
use Rattle.model.specs.Gate.{checks, call}
use Rattle.gate.specs.declared.State.{State}
use Rattle.gate.specs.declared.Outcome.{Outcome}
use Rattle.gate.specs.Layout.{view_of, sound_state, outcome, call_on}
use Rattle.records.specs.declared.Record.{Record}
use Rattle.records.specs.Records.{record_bytes}
use Rattle.records.specs.Buffers.{written}
use Rattle.calllog.specs.Bursts.{offer_of, offered_by, answer_byte, offered_at, offered_to, answers_to, burst_number, answer_of}

pub offered_call : (s : State) (rec : Record) → rec.kind ≡ 2 → offered_by s rec ≡ call_on s (offer_of rec)
unfolding offered_by
offered_call s rec e = simp e

pub offered_other : (s : State) (rec : Record) → (rec.kind ≡ 2 → ⊥) → offered_by s rec ≡ outcome s (Refused 10)
unfolding offered_by
offered_other s rec e = simp (ne_eqb rec.kind 2 e)

-- a burst that is taken has room for its answers
pub has_room : (bytes room : ℕ) → burst_number bytes room ≡ 0 → bytes / record_bytes ≤ room
unfolding burst_number first_of
has_room bytes room z =
    split (eqb (bytes % record_bytes) 0)
    (λ e. split (ltb room (bytes / record_bytes))
    (λ f. absurd (omega (arith, rw (e, f) at z)))
    (λ f. omega (arith, ltb-false room (bytes / record_bytes) f)))
    (λ e. absurd (omega (arith, rw e at z)))

-- no row has a number over 255
abbrev pub Small : List Check → Type 0
Small [] = Unit {0}
Small (c ∷ cs) = (c.number < 256) × Small cs

pub first_small : (table : List Check) → Small table → first_of table < 256
unfolding first_of
first_small [] h = omega arith
first_small (c ∷ cs) h = on_cond (λ (n : ℕ). n < 256) c.holds (λ e. h.0) (λ e. first_small cs h.1)

-- an answer that its byte tells
pub record Told (a : Answer) : Type 0 where
  pub byte : answer_byte a < 256
  pub back : answer_of (answer_byte a) ≡ a

-- and its byte is the number itself
pub fits : (n : ℕ) → n < 256 → min n 255 ≡ n
fits n h = omega arith

answer_refused : (n : ℕ) → (n ≡ 0 → ⊥) → answer_of n ≡ Refused n
answer_refused zero h = absurd (h refl)
answer_refused (suc n) h = refl

refused_told : (n : ℕ) → (n ≡ 0 → ⊥) → n < 256 → Told (Refused n)
unfolding answer_byte
refused_told n h small = record { byte = small; back = answer_refused n h }

view_told : (v : View) (stamp : ℕ) (o : Offer) → Told (call v (offer stamp o)).answer
unfolding call effect checks answer_byte
view_told v stamp o =
    on_cond (λ (r : Result in_queues). Told r.answer) (eqb (first_of (checks v (offer stamp o))) 0)
    (λ e. record { byte = omega arith; back = refl })
    (λ e. refused_told _ (eqb-false _ _ e) (first_small (checks v (offer stamp o)) (omega arith)))

-- an offer is answered TAKEN or with a refusal number that a byte holds
pub offer_told : (s : State) (stamp : ℕ) (o : Offer) → Told (call_on s (offer stamp o)).answer
unfolding call_on
offer_told s stamp o =
    on_cond (λ (x : Outcome). Told x.answer) (sound_state s)
    (λ e. on_cond (λ (x : Outcome). Told x.answer) (is_refused (call (view_of s) (offer stamp o)).answer)
    (λ r. view_told (view_of s) stamp o) (λ r. view_told (view_of s) stamp o))
    (λ e. refused_told 9 (λ z. omega arith) (omega arith))

-- so is every record
pub record_told : (s : State) (rec : Record) → Told (offered_by s rec).answer
unfolding offered_by
record_told s rec =
    on_cond (λ (x : Outcome). Told x.answer) (eqb rec.kind 2)
    (λ e. offer_told s _ _)
    (λ e. refused_told 10 (λ z. omega arith) (omega arith))

-- the answer byte of record k
abbrev pub byte_of : State → List ℕ → ℕ → ℕ
byte_of s records k = answer_byte (offered_at (offered_to s records k) records k).answer

pub answers_length : (s : State) (records : List ℕ) (n : ℕ) → length (answers_to s records n) ≡ n
unfolding answers_to
answers_length s records zero = refl
answers_length s records (suc n) =
    omega (arith, answers_length s records n, length-append (answers_to s records n) (byte_of s records n ∷ []))

-- from place 0 on, what is written is the text and what lies past it
pub from_start : (d t : List ℕ) → written d 0 t ≡ t ++ drop (length t) d
from_start d t = ap (λ (k : ℕ). t ++ drop k d) (zero-add (length t))

-- a byte stored behind a text makes it one longer
pub behind : (d t : List ℕ) (n byte : ℕ) → length t ≡ n → n < length d
    → set (written d 0 t) n byte ≡ written d 0 (t ++ (byte ∷ []))
behind d t n byte e h =
    let n' : length (t ++ (byte ∷ [])) ≡ suc n = omega (arith, length-append t (byte ∷ []), e) in
    ap (λ (l : List ℕ). set l n byte)
    (from_start d t ∙ ap (λ (k : ℕ). t ++ drop k d) e ∙ ap (λ (l : List ℕ). t ++ l) (drop-cons d n 0 h))
    ∙ set_at t (get_or d n 0) (drop (suc n) d) byte n e
    ∙ sym (append_snoc t byte (drop (suc n) d))
    ∙ sym (from_start d (t ++ (byte ∷ [])) ∙ ap (λ (k : ℕ). t ++ (byte ∷ []) ++ drop k d) n')

pub answer_at_lem : (s : State) (records : List ℕ) (n k : ℕ) → k < n → get_or (answers_to s records n) k 0 ≡ byte_of s records k
unfolding answers_to
answer_at_lem s records zero k h = absurd (omega arith)
answer_at_lem s records (suc n) k h =
    split (eqb k n)
    (λ e.
    let same : k ≡ n = eqb-true k n e in
    get_or_at (answers_to s records n) (byte_of s records n) [] 0 k (answers_length s records n ∙ sym same)
    ∙ ap (byte_of s records) (sym same))
    (λ e.
    let other : k < n = omega (arith, eqb-false k n e) in
    get_or-append (answers_to s records n) (byte_of s records n ∷ []) 0 k (omega (arith, answers_length s records n))
    ∙ answer_at_lem s records n k other)
