-- The choice is the definition's.
use mathlib.Core.Path.{◌≡◌}
use Rattle.records.specs.Records.{probes_in}
use Rattle.records.proofs.probes_in.Goals as goal

pub returns : goal.returns
unfolding probes_in
returns c =
    let read : c.pick.result ≡ probes_in c.args.lifetime = c.pick.ensures in
    read
