use Prim.Native.Nat.{ℕ, ◌*◌, ◌/◌, ◌<◌, min}
use mathlib.Core.Path.{◌≡◌, refl, sym, ap, ap₂, ◌∙◌}
use mathlib.Core.List.{List}
use native.Mathlib.Numerals.{add-one}
use native.Mathlib.Omega.{arith}
use borrow.Author.Tests.{eq-eqb, ne_eqb}
use lib.ListN.{length, set, length-set}
use Rattle.records.specs.Records.{record_bytes, record_at}
use Rattle.rules.proofs.Refusals.{some_number}
use Rattle.records.proofs.Asking.{whole_record}
use Rattle.calllog.specs.Bursts.{answer_byte}
use Rattle.calllog.proofs.Bursts.{has_room, fits, behind}
use Rattle.plain.specs.declared.Outcome.{Outcome}
use Rattle.plain.specs.Bursts.{offered_by, offered_at, offered_to, answers_to, burst_state, burst_answers}
use Rattle.plain.proofs.Bursts.{record_told, answers_length}
use Rattle.plain.proofs.burst.Goals as goal

-- a refused burst
pub returns-in-Err : goal.returns-in-Err
unfolding burst_state burst_answers
returns-in-Err c =
    let e = c.in-Err.ensures in
    let left = ne_eqb _ _ (λ z. some_number c.in-Err.refusal (e ∙ z)) in record {
      number = c.number.ensures ∙ e;
      state = sym (rw left);
      answers = sym (rw left);
    }

pub loop-i-init : goal.loop-i-init
unfolding offered_to answers_to
loop-i-init c = (refl, refl, refl)

pub bounds-answers-i : goal.bounds-answers-i
bounds-answers-i c =
    let lies-inside : c.loop-i.i
    < length c.args.answers.now =
    omega (
      arith,
      has_room (length c.args.records.now) (length c.args.answers.now) (sym c.in_default.ensures),
      c.loop-i-test.true,
    ) in
    omega (arith, lies-inside, c.loop-i.invariant.0)

pub loop-i-preserved : goal.loop-i-preserved
unfolding offered_to answers_to
loop-i-preserved c =
    let lies-inside : c.loop-i.i
    < length c.args.answers.now =
    omega (
      arith,
      has_room (length c.args.records.now) (length c.args.answers.now) (sym c.in_default.ensures),
      c.loop-i-test.true,
    ) in
    let l = c.loop-i in
    let i = l.i in
    let records = c.args.records.now in
    let given = c.args.state in
    let answers = c.args.answers.now in
    let done = c.offered-outcome in
    let rec : c.record_at.result ≡ record_at records (record_bytes * i) =
    c.record_at.ensures ∙ whole_record records (record_bytes * i) (omega arith) in
    let e : done.result ≡ offered_at (offered_to given records i) records i =
    done.ensures ∙ ap₂ offered_by l.invariant.1 rec in
    let told = record_told (offered_to given records i) (record_at records (record_bytes * i)) in
    let byte : c.answer_byte.result ≡ answer_byte (offered_at (offered_to given records i) records i).answer =
    c.answer_byte.ensures ∙ ap (λ (x : Outcome). min (answer_byte x.answer) 255) e ∙ fits _ told in (
      length-set l.answers i c.answer_byte.result ∙ l.invariant.0,
      rw add-one (ap (λ (x : Outcome). x.state) e),
      rw add-one
          (ap₂ (λ (d : List ℕ) (b : ℕ). set d i b) l.invariant.2 byte
          ∙ behind answers (answers_to given records i) i _ (answers_length given records i) lies-inside),
    )

pub returns : goal.returns
unfolding burst_state burst_answers
returns c =
    let none = c.in_default.ensures in
    let taken = eq-eqb _ _ (sym none) in
    let l = c.loop-i in
    let records = c.args.records.now in
    let whole : l.i ≡ length records / 16 = omega arith in record {
      number = none;
      state = rw taken (rw whole at l.invariant.1);
      answers = rw taken (rw whole at l.invariant.2);
    }
