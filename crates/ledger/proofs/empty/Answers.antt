-- Forty zeros are no admission, packed.
use borrow.Author.Rules.{rules}
use Rattle.packing.specs.Packing.{filled}
use Rattle.ledger.specs.Layout.{packed}
use Rattle.ledger.proofs.empty.Goals as goal

pub returns : goal.returns
unfolding packed filled
returns c = search rules
