-- The loop's invariant: the air allows the packet from when it does, those passed having aged, at those that are left.
use Rattle.std.proofs.Common.{◌≤◌}
use Rattle.ledger.proofs.Walking.{Allowing}
use Rattle.ledger.proofs.allowed_from.Given as goal

abbrev pub invariant-loop-word : goal.invariant-loop-word
invariant-loop-word l =
    Allowing l.base l.words l.ontime l.time l.rest l.from l.word-index × (l.rest ≤ 4294997295)
