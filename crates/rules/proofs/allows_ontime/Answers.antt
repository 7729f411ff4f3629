-- The profile's longest on-time is the upper of the two limits.
use Rattle.std.proofs.Common.{ℕ, ap, ◌∙◌}
use Rattle.rules.specs.Profiles.{within, ontime_allowed}
use Rattle.rules.proofs.allows_ontime.Goals as goal

pub returns : goal.returns
unfolding ontime_allowed
returns c = c.lies_within.ensures
    ∙ ap (λ (most : ℕ). within 1 most c.args.ontime) c.most_ontime-most.ensures
