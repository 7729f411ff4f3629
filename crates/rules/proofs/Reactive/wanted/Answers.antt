-- Each number is picked as the definition picks it, from the last test to the first.
use Rattle.rules.specs.Levels.{wanted_by}
use Rattle.rules.proofs.Reactive.wanted.Goals as goal

pub returns : goal.returns
unfolding wanted_by
returns c =
    simp (c.pick.ensures, c.pick-above0.ensures, c.pick-above1.ensures, c.pick-above2.ensures)
