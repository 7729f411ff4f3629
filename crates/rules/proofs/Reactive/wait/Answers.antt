-- Each number is picked as the definition picks it, from the last test to the first.
use Rattle.rules.specs.Levels.{wait_by}
use Rattle.rules.proofs.Reactive.wait.Goals as goal

pub returns : goal.returns
unfolding wait_by
returns c =
    simp (c.pick.ensures, c.pick-from1.ensures, c.pick-from2.ensures, c.pick-from3.ensures)
