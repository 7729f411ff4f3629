-- A burst that is refused leaves all as it was; of one that is taken the head is read, and the one reached is put in its place.
use mathlib.Core.Path.{sym, ap, ◌∙◌}
use borrow.Author.Tests.{eq-eqb, ne_eqb}
use borrow.Author.Rules.{rules}
use lib.ListN.{length}
use Rattle.gate.specs.declared.Head.{Head}
use Rattle.gate.specs.declared.State.{State}
use Rattle.gate.specs.Layout.{state_with}
use Rattle.calllog.specs.Bursts.{records_in, offered_to, answers_to, burst_state, burst_answers}
use Rattle.records.specs.Buffers.{written}
use Rattle.rules.proofs.Refusals.{some_number}
use Rattle.calllog.proofs.Bursts.{has_room}
use Rattle.calllog.proofs.presscurlew_gate_burst.Goals as goal

pub returns-in-Err : goal.returns-in-Err
unfolding burst_state burst_answers
returns-in-Err c =
    let left = ne_eqb _ _ (λ z. some_number c.in-Err.refusal (c.in-Err.ensures ∙ z)) in record {
      number = c.number.ensures ∙ c.in-Err.ensures;
      state = sym (rw left);
      answers = sym (rw left);
    }

pub offer_all-requires-clause-fits : goal.offer_all-requires-clause-fits
offer_all-requires-clause-fits c =
    has_room (length c.args.records.now) (length c.args.answers.now)
    (sym c.in_default.ensures)

pub returns : goal.returns
unfolding burst_state burst_answers
returns c =
    let none = sym c.in_default.ensures in
    let taken = eq-eqb _ _ none in
    let t = c.offer_all in
    let a = c.args in
    let records = a.records.now in
    let rows : Head → State =
    λ x. state_with x a.queues.now a.came.now a.air.now a.loads.now a.above.now a.waits.now in record {
      number = sym none;
      state = rw taken
          (search (rules, c.keep.ensures, t.ensures.lent)
          ∙ t.ensures.state
          ∙ ap (λ (x : Head). offered_to (rows x) records (records_in records)) c.head_at-head.ensures);
      answers = rw taken
          (t.ensures.answers
          ∙ ap (λ (x : Head). written a.answers.now 0 (answers_to (rows x) records (records_in records))) c.head_at-head.ensures);
    }
