-- The wanted level is above, below or at the level, and each case is one line of the definition.
use Rattle.std.proofs.Common.{arith}
use Rattle.rules.proofs.Levels.{steps_up, steps_down, stays}
use Rattle.rules.proofs.level_step.Goals as goal

pub returns-then-level-wanted : goal.returns-then-level-wanted
returns-then-level-wanted c = let a = c.args in omega (arith, steps_up a.level a.wanted (omega arith))

pub returns-then-wanted-level : goal.returns-then-wanted-level
returns-then-wanted-level c = let a = c.args in omega (arith, steps_down a.level a.wanted (omega arith))

pub returns : goal.returns
returns c = let a = c.args in omega (arith, stays a.level a.wanted (omega arith))
