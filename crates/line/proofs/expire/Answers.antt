use Rattle.std.proofs.Common.{ap, sym, ◌∙◌, arith}
use Rattle.model.specs.Packets.{without_expired}
use Rattle.line.specs.Layout.{packed}
use Rattle.line.proofs.Building.{begun, passed, taken, built}
use Rattle.line.proofs.Steps.{kept_live, not_kept, none_live}
use Rattle.line.proofs.expire.Goals as goal
use Rattle.line.proofs.expire.Goals.{then-is_unexpired, else-is_unexpired}

pub loop-p-init : goal.loop-p-init
loop-p-init c = begun _ _ c.empty-left.ensures

pub loop-p-preserved : goal.loop-p-preserved
loop-p-preserved c =
    let ps = c.waiting-p-items.result.now in
    let i = c.loop-p.p-index in
    let now = c.args.now in
    let live = sym c.is_unexpired.ensures in
    elim c.if-is_unexpired.branch [
      | then-is_unexpired w ↦
          rw w.left-is
          (taken _ _ _ i _ _ _ (omega arith) (kept_live ps i c.loop-p-test.true now (live ∙ w.if-is_unexpired.true))
          w.keep.ensures c.loop-p.invariant)
      | else-is_unexpired w ↦
          rw w.left-is
          (passed _ _ _ i _ (not_kept ps i c.loop-p-test.true now (live ∙ w.if-is_unexpired.false)) c.loop-p.invariant)
    ]

pub returns : goal.returns
returns c =
    let ps = c.waiting-p-items.result.now in
    built _ _ _ _ (none_live ps c.loop-p.p-index c.loop-p-test.false c.args.now) c.loop-p.invariant
    ∙ ap (λ qs. packed (without_expired c.args.now qs)) c.waiting-p-items.ensures.0
