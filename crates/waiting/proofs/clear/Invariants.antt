-- Zeros are stored one by one, then the length.
use Rattle.waiting.specs.Layout.{rows}
use Rattle.waiting.proofs.Keeping.{Clearing}
use Rattle.waiting.proofs.clear.Given as goal

abbrev pub invariant-loop-i : goal.invariant-loop-i
invariant-loop-i l =
    Clearing l.n (rows l.initial.words l.initial.came) l.i (rows l.words l.came)
