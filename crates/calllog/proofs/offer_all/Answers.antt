use Rattle.std.proofs.Common.{ℕ, ◌≡◌, ◌*◌, ◌<◌, ◌∙◌, min, List, refl, ap, ap₂, length, set, add-one, arith}
use Rattle.gate.specs.declared.Outcome.{Outcome}
use Rattle.gate.specs.Lent.{state_on}
use Rattle.gate.proofs.SameRows.{same_rows, same_rows_on}
use Rattle.records.specs.Records.{record_bytes, record_at}
use Rattle.calllog.specs.Bursts.{offered_by, answer_byte, offered_at, offered_to, answers_to, records_in}
use Rattle.calllog.proofs.Bursts.{record_told, fits, answers_length, behind}
use Rattle.calllog.proofs.offer_all.Goals as goal

pub loop-i-init : goal.loop-i-init
unfolding offered_to answers_to
loop-i-init c =
    record {
      state = refl;
      answers = refl;
      tested = record { roomy = c.requires.roomy; told = c.is_sound-sound.ensures.exact };
      lent = same_rows _;
    }

pub offer_in-requires : goal.offer_in-requires
offer_in-requires c = c.loop-i.invariant.tested

pub loop-i-preserved : goal.loop-i-preserved
unfolding offered_to answers_to
loop-i-preserved c =
    let a = c.args in
    let l = c.loop-i in
    let i = l.i in
    let t = c.offer_in in
    let b = c.answer_byte in
    let records = a.records.now in
    let given = state_on a.gate.now in
    let lies-inside : i < length a.answers.now = omega (arith, c.loop-i-test.true, c.requires.fits) in
    let met = offered_to given records i in
    let e = t.ensures.offered ∙ ap₂ offered_by l.invariant.state c.read_record-rec.ensures in
    let told = record_told met (record_at records (record_bytes * i)) in
    let byte : b.result ≡ answer_byte (offered_at met records i).answer =
    b.ensures ∙ ap (λ (x : Outcome). min (answer_byte x.answer) 255) e ∙ fits _ told.byte in
    record {
      state = rw add-one (ap (λ (x : Outcome). x.state) e);
      answers = rw add-one
          (ap₂ (λ (d : List ℕ) (x : ℕ). set d i x) l.invariant.answers byte
          ∙ behind a.answers.now (answers_to given records i) i _ (answers_length given records i) lies-inside);
      tested = t.ensures.tested;
      lent = same_rows_on l.invariant.lent t.ensures.lent;
    }

pub returns : goal.returns
returns c =
    let l = c.loop-i in
    let whole : l.i ≡ records_in c.args.records.now = omega (arith, c.loop-i-test.false) in
    record { state = rw whole at l.invariant.state; answers = rw whole at l.invariant.answers; lent = l.invariant.lent }
