-- One group after the other: the first that fails makes the state unsound, and the ledger decides.
use mathlib.Core.Path.{sym, ◌∙◌}
use Rattle.checks.proofs.Judged.{in_good_time}
use Rattle.gate.specs.declared.State.{State}
use Rattle.gate.specs.Layout.{state_with}
use Rattle.gate.proofs.Judged.{lent, by_ledger, queues-held, laid_out}
use Rattle.gate.proofs.Head.is_sound.Goals as goal

pub count-requires : goal.count-requires
count-requires c =
    let a = c.args in
    let given : State = state_with a.self a.queues.now a.came.now a.air.now a.loads.now a.above.now a.waits.now in
    let roomy = lent given c.told-queues c.told-came c.told-air c.told-loads c.told-above c.told-waits in
    queues-held given roomy (sym c.if-not-are_queues_sound.ensures)

pub is_sound-requires : goal.is_sound-requires
is_sound-requires c = record { time_le_end_of_time = in_good_time _ (sym c.if-passes_end.ensures) }

pub returns : goal.returns
returns c =
    let a = c.args in
    let given : State = state_with a.self a.queues.now a.came.now a.air.now a.loads.now a.above.now a.waits.now in
    let roomy = lent given c.told-queues c.told-came c.told-air c.told-loads c.told-above c.told-waits in
    let exact = c.is_sound.ensures
    ∙ sym (by_ledger given _ c.count.ensures c.if-self-ne1.false c.if-self-gt1.false c.if-not-is_tuning_sound.ensures
    c.if-not-is_listing_sound.ensures c.if-passes_end.ensures c.if-not-is_last_sound.ensures
    c.if-not-are_queues_sound.ensures c.if-not-are_counts_sound.ensures) in
    record {
      exact = exact;
      given = λ z. record { roomy = roomy; judged_sound = sym exact ∙ z };
      tight = λ z. laid_out given roomy (sym c.if-not-are_queues_sound.ensures) (sym c.is_sound.ensures ∙ z);
    }
