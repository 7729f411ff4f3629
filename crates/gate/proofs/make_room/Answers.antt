-- Fewer than five wait, or the front one leaves.
use Rattle.waiting.specs.Layout.{rows}
use Rattle.gate.proofs.Offering.{has_room, makes_room}
use Rattle.gate.proofs.make_room.Goals as goal

pub returns-then-len_of-lt-ROOM : goal.returns-then-len_of-lt-ROOM
returns-then-len_of-lt-ROOM c =
    has_room (rows c.args.queues.now c.args.came.now) c.args.k c.requires.k_bound c.requires.held _ c.len_of.ensures
    c.if-len_of-lt-ROOM.true

pub returns : goal.returns
returns c =
    makes_room (rows c.args.queues.now c.args.came.now) c.args.k c.requires.k_bound c.requires.held _ c.len_of.ensures
    c.if-len_of-lt-ROOM.false _ c.pop_from.ensures
