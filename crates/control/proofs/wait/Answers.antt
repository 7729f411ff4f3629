-- One arm for each profile, each the wait of its own leaf.
use borrow.Author.Tests.{eq-eqb}
use Rattle.rules.proofs.Profiles.{duty_within}
use Rattle.rules.proofs.Tests.{tests}
use Rattle.control.specs.Wait.{wait_with}
use Rattle.control.proofs.wait.Goals as goal

pub adaptive_wait-requires : goal.adaptive_wait-requires
adaptive_wait-requires c = record {
  ontime_le_ontime = c.requires.ontime_le_ontime;
  leastduty_le_duty = duty_within c.args.t.duty c.requires.steerable.duty;
}

pub harmonised_wait-requires : goal.harmonised_wait-requires
harmonised_wait-requires c =
    (c.requires.ontime_le_ontime, c.requires.steerable.latest)

pub returns-in-1 : goal.returns-in-1
unfolding wait_with
returns-in-1 c = simp (eq-eqb _ _ c.in-1.is, c.wait.ensures, c.constants.ensures)

pub returns-in-2 : goal.returns-in-2
unfolding wait_with
returns-in-2 c = simp (c.in-2.is, c.wait-in-2.ensures, c.constants-in-2.ensures)

pub returns-in-3 : goal.returns-in-3
unfolding wait_with
returns-in-3 c = simp (c.in-3.is, c.adaptive_wait.ensures)

pub returns-in-4 : goal.returns-in-4
unfolding wait_with
returns-in-4 c =
    simp (c.in-4.is, c.harmonised_wait.ensures)

pub returns-in_default : goal.returns-in_default
unfolding wait_with
returns-in_default c = search tests
