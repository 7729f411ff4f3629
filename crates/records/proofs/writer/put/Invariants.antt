-- The loop keeps: the first i of the number's bytes are in their place.
use Rattle.std.proofs.Common.{◌≡◌}
use lib.Seq.{paste}
use Rattle.records.proofs.writer.put.Given as goal

abbrev pub invariant-loop-i : goal.invariant-loop-i
invariant-loop-i g l = l.log ≡ paste l.initial.log l.at l.bytes l.i
