-- A test of the way, then of how many live packets wait.
use mathlib.Core.Path.{ap}
use lib.Dec.{leb}
use borrow.Author.Tests.{eq-eqb}
use Rattle.rules.specs.Profiles.{room}
use Rattle.waiting.specs.Layout.{rows}
use Rattle.gate.proofs.Offering.{live_count}
use Rattle.gate.proofs.Head.is_full.Goals as goal

pub returns : goal.returns
returns c =
    rw (eq-eqb c.args.self.oldway 1 c.if-self-ne1.false)
    (ap (leb room) (live_count (rows c.args.queues.now c.args.came.now) c.args.k c.args.time _ c.requires.k_bound
    c.count_live_of.ensures))
