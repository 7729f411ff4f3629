-- In profile 5 the load is noted and the level follows the loads as noted; in every other both stay.
use mathlib.Core.Path.{ap, sym, ◌∙◌}
use Rattle.machine.specs.declared.Loads.{Loads}
use Rattle.machine.specs.Levels.{thresholds}
use Rattle.machine.specs.Loads as held
use Rattle.machine.specs.Moves.{level_after}
use Rattle.control.specs.Control.{control_of}
use Rattle.checks.proofs.Sampling.{sampled-listed, sampled-unlisted}
use Rattle.plain.specs.Layout.{control_on}
use Rattle.plain.proofs.Doing.{steers}
use Rattle.plain.proofs.State.steer.Goals as goal
use Rattle.plain.proofs.State.steer.Goals.{then-self-eq-LISTED, else-self-eq-LISTED}

pub tuning_after-self-requires : goal.tuning_after-self-requires
tuning_after-self-requires c = record {
  steerable = c.requires.steerable;
  load_le_full_load = c.requires.load_le_full_load;
}

pub returns : goal.returns
returns c =
    let k = control_on c.args.self.now in
    let t = c.tuning_after-self in
    steers c.args.self.now _ t.result _ c.requires.laid_out
    (elim c.if-self-eq-LISTED.branch [
      | then-self-eq-LISTED w ↦
          sampled-listed k c.args.load _ t.result t.ensures _ w.if-self-eq-LISTED.true (w.loads-is ∙ w.note-loads.ensures)
          (w.level-is ∙ w.level_after-level.ensures
          ∙ ap (λ (l : Loads). level_after (thresholds k.levels) (held.loads l) k.tuning.level) (sym w.loads-is))
      | else-self-eq-LISTED w ↦
          ap (control_of k.profile t.result k.levels) w.loads-is
          ∙ sampled-unlisted k c.args.load _ t.result t.ensures w.if-self-eq-LISTED.false
    ])
