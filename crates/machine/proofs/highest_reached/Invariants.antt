-- The loop's invariant: the answer is the answer at the levels that are left.
use Rattle.std.proofs.Common.{◌≤◌, ◌≡◌, length}
use Rattle.machine.specs.Levels.{listed}
use Rattle.machine.specs.Moves.{highest, highest_to}
use Rattle.machine.proofs.highest_reached.Given as goal

abbrev pub invariant-loop-k : goal.invariant-loop-k
invariant-loop-k l =
    let ts = listed l.n l.above in
    (l.k ≤ length ts) × (highest ts l.load ≡ highest_to ts l.load l.k)
