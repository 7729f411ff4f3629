-- The loop's invariant: what is kept so far and what expiry keeps of the packets that are left make the whole.
use Rattle.std.proofs.Common.{drop}
use Rattle.model.specs.Packets.{without_expired}
use Rattle.line.proofs.Building.{Building}
use Rattle.line.proofs.expire.Given as goal

abbrev pub invariant-loop-p : goal.invariant-loop-p
invariant-loop-p l =
    Building (without_expired l.now l.p-items) (without_expired l.now (drop l.p-index l.p-items)) l.p-index l.left
