-- The loop keeps: the state and the answers are those of the first i records.
use Rattle.std.proofs.Common.{◌≡◌, length}
use Rattle.records.specs.Buffers.{written}
use Rattle.plain.specs.Bursts.{offered_to, answers_to}
use Rattle.plain.proofs.burst.Given as goal

abbrev pub invariant-loop-i : goal.invariant-loop-i
invariant-loop-i l =
    (length l.answers ≡ length l.initial.answers) × (l.state ≡ offered_to l.initial.state l.records l.i)
    × (l.answers ≡ written l.initial.answers 0 (answers_to l.initial.state l.records l.i))
