-- In profile 5 the load is noted and the level follows the loads as noted; in every other both stay.
use borrow.Author.Rules.{rules}
use Rattle.machine.specs.Loads.{noted_if}
use Rattle.checks.proofs.Sampling.{sampled-listed, sampled-unlisted}
use Rattle.gate.proofs.Sampling.{noted_few, control_for, steered_by}
use Rattle.gate.proofs.Head.steer.Goals as goal

pub returns-then-self-ne-LISTED-clause-done : goal.returns-then-self-ne-LISTED-clause-done
returns-then-self-ne-LISTED-clause-done c =
    let a = c.args in
    steered_by a.self.now a.load a.above.now a.loads.now _ _ _
    (sampled-unlisted (control_for a.self.now a.above.now a.loads.now) a.load _ _ c.tuning_after-self.ensures
    c.if-self-ne-LISTED.true)

pub overflow_cast-self-3 : goal.overflow_cast-self-3
overflow_cast-self-3 c = search (rules, noted_few _ _ _ _ c.note_load-n.ensures)

pub returns-clause-done : goal.returns-clause-done
unfolding noted_if
returns-clause-done c =
    let a = c.args in
    steered_by a.self.now a.load a.above.now a.loads.now _ _ _
    (sampled-listed (control_for a.self.now a.above.now a.loads.now) a.load _ _ c.tuning_after-self-2.ensures _
    c.if-self-ne-LISTED.false c.note_load-n.ensures c.level_after-level.ensures)
