-- The choice is the definition's.
use mathlib.Core.Path.{◌≡◌}
use Rattle.records.specs.Records.{profile_in}
use Rattle.records.proofs.profile_in.Goals as goal

pub returns : goal.returns
unfolding profile_in
returns c =
    let read : c.pick.result ≡ profile_in c.args.priority = c.pick.ensures in
    read
