-- The number is that of what is read.
use Rattle.std.proofs.Common.{◌∙◌, ap}
use Rattle.std.specs.Prelude.{ℕ, Option}
use Rattle.std.specs.Option.{unwrap_or}
use Rattle.host.proofs.Counting.{number_read}
use Rattle.host.proofs.presscurlew_busy.Goals as goal

pub returns : goal.returns
returns c =
    c.unwrap_or.ensures
    ∙ ap (λ (read : Option ℕ). unwrap_or read 4294967295) c.read_sample.ensures
    ∙ number_read c.args.probes c.args.ws.now
