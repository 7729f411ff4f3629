-- All of it where nothing waits, else place by place; the first that fails makes the queue unsound.
use mathlib.Core.Path.{◌≡◌}
use Rattle.waiting.specs.Layout.{rows, len_in}
use Rattle.waiting.proofs.Judging.{Fitting}
use Rattle.waiting.proofs.is_queue_sound.Given as goal

abbrev pub invariant-loop-i : goal.invariant-loop-i
invariant-loop-i l =
    (l.n ≡ len_in (rows l.words l.came)) × Fitting l.most l.time (rows l.words l.came) l.since l.i
