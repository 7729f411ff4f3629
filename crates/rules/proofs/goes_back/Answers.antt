-- The comparison is the definition.
use Rattle.std.proofs.Common.{refl}
use Rattle.rules.specs.Clock.{goes_back}
use Rattle.rules.proofs.goes_back.Goals as goal

pub returns : goal.returns
unfolding goes_back
returns c = refl
