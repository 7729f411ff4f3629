-- Where five wait the front one leaves; then the packet is at the back.
use mathlib.Core.Path.{refl}
use Rattle.gate.proofs.Offering.{joins}
use Rattle.gate.proofs.Head.join.Goals as goal

pub returns-clause-done : goal.returns-clause-done
returns-clause-done c =
    joins c.args.self.now c.args.o _ _ _ _ _ c.requires c.make_room-gone.ensures refl c.push_to.ensures
