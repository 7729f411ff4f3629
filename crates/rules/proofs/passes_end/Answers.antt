-- The comparison is the definition.
use Rattle.std.proofs.Common.{refl}
use Rattle.rules.specs.Clock.{passes_end}
use Rattle.rules.proofs.passes_end.Goals as goal

pub returns : goal.returns
unfolding passes_end
returns c = refl
