-- Before the first turn the log is empty; a turn makes it longer.
use Rattle.std.proofs.Common.{[], arith}
use borrow.Author.Tests.{not-false}
use Rattle.calllog.specs.Text.{reached_from}
use Rattle.replay.proofs.Program.{reached_on}
use Rattle.replay.proofs.replay.Goals as goal

pub loop-init : goal.loop-init
unfolding reached_from
loop-init c = record { log = []; state = c.start-state.ensures; cut = λ e. omega arith }

pub loop-preserved : goal.loop-preserved
loop-preserved c = reached_on c.loop.invariant (not-false c.loop.at.more c.if-not-at.false) c.step-at.ensures

pub returns-then-not-at : goal.returns-then-not-at
returns-then-not-at c = c.loop.invariant

pub returns-after-loop : goal.returns-after-loop
returns-after-loop c = c.loop.invariant
