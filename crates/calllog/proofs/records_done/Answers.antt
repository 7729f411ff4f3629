-- The smaller of the two counts.
use Rattle.calllog.specs.Text.{records_done}
use Rattle.calllog.proofs.records_done.Goals as goal

pub returns : goal.returns
unfolding records_done
returns c = c.min.ensures
