-- The loop's invariant: the answer is the answer at the packets that are left.
use Rattle.std.proofs.Common.{◌≡◌, drop}
use Rattle.model.specs.Packets.{in_order}
use Rattle.line.specs.Line.{allowed_packet}
use Rattle.line.proofs.are_packets_sound.Given as goal

abbrev pub invariant-loop-p : goal.invariant-loop-p
invariant-loop-p l =
    in_order (allowed_packet l.profile l.now) 0 l.p-items
    ≡ in_order (allowed_packet l.profile l.now) l.since (drop l.p-index l.p-items)
