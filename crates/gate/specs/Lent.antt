-- A gate lent: its numbers and its rows where a host keeps them (document 01, "State and calls").
use Rattle.std.specs.Prelude.{◌≡◌}
use Rattle.gate.specs.declared.lent.Gate.{Gate}
use Rattle.gate.specs.declared.State.{State}
use Rattle.gate.specs.Layout.{state_with}

-- the state that lies there
abbrev pub state_on : Gate → State
state_on g =
    state_with g.head.now g.queues.now g.came.now g.air.now g.loads.now g.above.now g.waits.now

-- the numbers and the rows are those that were lent, and the list was only read
pub record SameRows (before after : Gate) : Type 0 where
  pub head : after.head.ghost_name ≡ before.head.ghost_name
  pub queues : after.queues.ghost_name ≡ before.queues.ghost_name
  pub came : after.came.ghost_name ≡ before.came.ghost_name
  pub air : after.air.ghost_name ≡ before.air.ghost_name
  pub loads : after.loads.ghost_name ≡ before.loads.ghost_name
  pub above : after.above ≡ before.above
  pub waits : after.waits ≡ before.waits
