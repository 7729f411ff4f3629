-- The loop keeps: the state and the answers are those of the first i records, the test made at the start still tells whether that
-- state is sound, and the rows are those that were lent.
use Rattle.std.proofs.Common.{◌≡◌}
use Rattle.gate.specs.Lent.{state_on, SameRows}
use Rattle.records.specs.Buffers.{written}
use Rattle.calllog.specs.Steps.{Tested}
use Rattle.calllog.specs.Bursts.{offered_to, answers_to}
use Rattle.calllog.proofs.offer_all.Given as goal

abbrev pub invariant-loop-i : goal.invariant-loop-i
invariant-loop-i l =
    let given = state_on l.initial.gate in
    record {
      state : state_on l.gate ≡ offered_to given l.records l.i;
      answers : l.answers ≡ written l.initial.answers 0 (answers_to given l.records l.i);
      tested : Tested (state_on l.gate) l.sound;
      lent : SameRows l.initial.gate l.gate;
    }
