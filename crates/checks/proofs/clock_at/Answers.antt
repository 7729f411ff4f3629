-- The step is added to the clock, as the two leaves say.
use Rattle.checks.proofs.clock_at.Goals as goal

pub returns : goal.returns
returns c = rw (c.later-time.ensures, c.step-step.ensures)
