-- The profile's factor times the on-time, as in the definition.
use Rattle.std.proofs.Common.{◌*◌, ap}
use Rattle.rules.specs.declared.Limits.{Limits}
use Rattle.rules.specs.Wait.{start_of}
use Rattle.rules.proofs.wait_start.Goals as goal

pub returns : goal.returns
unfolding start_of
returns c = ap (λ (l : Limits). l.fromend * c.args.ontime) c.limits_of-limits.ensures
