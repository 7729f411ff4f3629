-- Twenty empty places are no packet, packed.
use Rattle.packing.specs.Packing.{filled}
use Rattle.line.specs.Layout.{packed}
use borrow.Author.Rules.{rules}
use Rattle.line.proofs.empty.Goals as goal

pub returns : goal.returns
unfolding packed filled
returns c = search rules
