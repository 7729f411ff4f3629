-- The choice is the definition's.
use mathlib.Core.Path.{◌≡◌}
use Rattle.records.specs.Writing.{probes_field}
use Rattle.records.proofs.writer.probes_field.Goals as goal

pub returns : goal.returns
unfolding probes_field
returns c =
    let field : c.pick.result ≡ probes_field c.args.probes = c.pick.ensures in
    field
