-- No table of a burst has a row of number 0, so the general law on refusal tables holds of each; and an answer byte, which tells
-- TAKEN from a refusal, is the number of the record's table.
use Prim.Native.Nat.{ℕ, zero, suc, ◌*◌, ◌<◌}
use mathlib.Core.Path.{◌≡◌, refl, sym, ap, ◌∙◌}
use mathlib.Core.List.{List}
use native.Mathlib.Omega.{arith}
use lib.Dec.{eqb}
use lib.ListN.{length}
use borrow.Author.Tests.{eqb-true, eqb-false}
use Rattle.rules.specs.Refusals.{Check, first_of, FirstHolds}
use Rattle.rules.proofs.Cases.{split}
use Rattle.rules.proofs.Refusals.{of_first, first_of_lem, exact}
use Rattle.model.specs.declared.Answer.{Answer}
use Rattle.model.specs.declared.Answer.TheVariants.{Refused}
use Rattle.gate.specs.declared.State.{State}
use Rattle.gate.specs.Runs.{checks_on}
use Rattle.gate.proofs.Runs.{refused_exactly}
use Rattle.records.specs.declared.Record.{Record}
use Rattle.records.specs.Records.{record_bytes, record_at}
use Rattle.calllog.specs.Bursts.{is_offer, offer_of, offered_by, answer_byte, offered_to, burst_checks, answer_of}
use Rattle.calllog.specs.Exactly.{record_checks, checks_at, BurstsAreExact}
use Rattle.calllog.proofs.Bursts.{Told, offer_told}
use Rattle.calllog.proofs.Bursting.{byte_at}

-- an answer that its byte tells, and that is a refusal exactly by a table: the byte is the table's number
module _ (a : Answer) (table : List Check) (told : Told a)
    (exactly : (n : ℕ) → (a ≡ Refused n → FirstHolds n table) × (FirstHolds n table → a ≡ Refused n)) where
  by_byte : (b : ℕ) → answer_byte a ≡ b → b ≡ first_of table
  unfolding answer_byte
  by_byte zero e =
      split (eqb (first_of table) 0) (λ z. sym (eqb-true _ _ z))
      (λ z. let some : 0 < first_of table = omega (arith, eqb-false (first_of table) 0 z) in
      sym e ∙ ap answer_byte ((exactly (first_of table)).1 (of_first (first_of table) table some refl)))
  by_byte (suc b) e = sym (first_of_lem (suc b) table ((exactly (suc b)).0 (sym told.back ∙ ap answer_of e)))

record_byte : (s : State) (rec : Record) → answer_byte (offered_by s rec).answer ≡ first_of (record_checks s rec)
unfolding offered_by answer_byte first_of
record_byte s rec = split (is_offer rec) (λ e. rw e
    (by_byte _ (checks_on s (offer_of rec)) (offer_told s _ _) (refused_exactly s (offer_of rec)) _ refl)) (λ e. rw e)

pub bursts_are_exact : BurstsAreExact
bursts_are_exact s records answers =
    record {
      refused = exact (burst_checks (length records) (length answers)) (omega arith);
      bytes =
          λ accepted k h.
          byte_at s records answers k accepted h ∙ record_byte (offered_to s records k) (record_at records (record_bytes * k));
      exact = λ k. exact (checks_at s records k) (omega arith);
    }
