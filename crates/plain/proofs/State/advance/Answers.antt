-- The clock moves, and the ledger is without what has aged.
use Rattle.plain.proofs.Views.{known}
use Rattle.plain.proofs.Doing.{advanced}
use Rattle.plain.proofs.State.advance.Goals as goal

pub clock_at-clock-requires : goal.clock_at-clock-requires
clock_at-clock-requires c = (known _ c.requires).groups.time

pub age-requires : goal.age-requires
age-requires c =
    let k = known _ c.requires in record {
      packed = k.ledger_tight;
      in_order = k.ordered;
    }

pub returns : goal.returns
returns c =
    advanced c.args.self.now c.args.stamp _ _ c.requires.0 c.clock_at-clock.ensures c.age.ensures
