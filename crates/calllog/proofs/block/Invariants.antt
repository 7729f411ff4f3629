-- The loop keeps: the state and the lines are those of the first i records, and the flag says whether that state is sound.
use Rattle.std.proofs.Common.{◌≡◌}
use Rattle.gate.specs.Layout.{sound_state}
use Rattle.records.specs.Buffers.{Put}
use Rattle.calllog.specs.Text.{reached_from, lines_from}
use Rattle.calllog.proofs.block.Given as goal

abbrev pub invariant-loop-i : goal.invariant-loop-i
invariant-loop-i l =
    record {
      state : l.state ≡ reached_from l.initial.state l.input l.i;
      lines : Put l.initial.out 0 (lines_from l.initial.state l.input l.i) l.end l.out;
      told : l.sound ≡ sound_state l.state;
    }
