use Rattle.std.proofs.Common.{ap, ◌∙◌, get_or, arith}
use Rattle.model.specs.Packets.{no_packet}
use Rattle.line.specs.Line.{without}
use Rattle.line.specs.Layout.{packed}
use Rattle.line.proofs.Building.{begun, passed, taken, built}
use Rattle.line.proofs.Steps.{after_gone, goes_now, stays, no-rest}
use Rattle.line.proofs.remove.Goals as goal
use Rattle.line.proofs.remove.Goals.{then-not-gone+then-p-priority, else-not-gone}
use Rattle.line.proofs.remove.Goals.{else-not-gone-via-then-not-gone+else-p-priority, else-not-gone-via-else-not-gone}

pub loop-p-init : goal.loop-p-init
loop-p-init c = begun _ _ c.empty-left.ensures

pub loop-p-preserved : goal.loop-p-preserved
loop-p-preserved c =
    let ps = c.waiting-p-items.result.now in
    let i = c.loop-p.p-index in
    let k = c.args.priority in
    let h = c.loop-p-test.true in
    elim c.if-not-gone.branch [
      | then-not-gone+then-p-priority w ↦
          rw (w.left-is, w.gone-is)
          (passed _ _ _ i _ (goes_now ps i h _ k w.if-not-gone.true w.if-p-priority.true) c.loop-p.invariant)
      | else-not-gone w ↦
          rw (w.left-is, w.gone-is)
          (taken _ _ _ i _ (get_or ps i no_packet) _ (omega arith)
          (elim w.else-not-gone.branch [
            | else-not-gone-via-then-not-gone+else-p-priority v ↦ stays ps i h _ k v.if-not-gone.true v.if-p-priority.false
            | else-not-gone-via-else-not-gone v ↦ after_gone ps i h _ k v.if-not-gone.false
          ])
          w.keep.ensures c.loop-p.invariant)
    ]

pub returns : goal.returns
returns c =
    let ps = c.waiting-p-items.result.now in
    built _ _ _ _ (no-rest ps c.loop-p.p-index c.loop-p-test.false c.loop-p.gone c.args.priority) c.loop-p.invariant
    ∙ ap (λ qs. packed (without c.args.priority qs)) c.waiting-p-items.ensures.0
