use Rattle.std.proofs.Common.{◌∙◌, sym, ap}
use Rattle.model.specs.Packets.{in_order}
use Rattle.line.specs.Line.{allowed_packet}
use Rattle.line.proofs.Steps.{turn, over}
use Rattle.line.proofs.are_packets_sound.Goals as goal

pub returns-then-not-is_packet_sound : goal.returns-then-not-is_packet_sound
unfolding in_order
returns-then-not-is_packet_sound c =
    let ps = c.waiting-p-items.result.now in
    sym (ap (in_order (allowed_packet c.args.profile c.args.now) 0) (sym c.waiting-p-items.ensures.0)
    ∙ c.loop-p.invariant
    ∙ rw (
      turn ps c.loop-p.p-index c.loop-p-test.true,
      sym c.is_packet_sound.ensures ∙ c.if-not-is_packet_sound.true,
    ))

pub loop-p-preserved : goal.loop-p-preserved
unfolding in_order
loop-p-preserved c =
    c.loop-p.invariant
    ∙ rw (
      turn c.waiting-p-items.result.now c.loop-p.p-index c.loop-p-test.true,
      sym c.is_packet_sound.ensures ∙ c.if-not-is_packet_sound.false,
    )

pub returns : goal.returns
unfolding in_order
returns c =
    sym (ap (in_order (allowed_packet c.args.profile c.args.now) 0) (sym c.waiting-p-items.ensures.0)
    ∙ c.loop-p.invariant
    ∙ rw (over c.waiting-p-items.result.now c.loop-p.p-index c.loop-p-test.false))
