-- The range's test is the definition's two comparisons.
use Rattle.std.proofs.Common.{arith}
use Rattle.std.proofs.lemmas.Grind.{common_steps}
use Rattle.rules.specs.Profiles.{within}
use Rattle.rules.proofs.lies_within.Goals as goal

pub returns : goal.returns
unfolding within
returns c = grind (arith, common_steps)
