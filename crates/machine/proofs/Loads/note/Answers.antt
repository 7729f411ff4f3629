-- One more is noted, in a copy of the places.
use Rattle.machine.specs.Loads.{noted_if}
use Rattle.machine.proofs.Loads.note.Goals as goal

pub returns : goal.returns
unfolding noted_if
returns c = c.note_load.ensures
