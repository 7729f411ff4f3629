-- The loop's invariant: the answer is the answer at the numbers that are left, behind the last one seen.
use Rattle.std.proofs.Common.{◌≡◌, drop}
use Rattle.machine.specs.Levels.{rising}
use Rattle.machine.proofs.do_rise.Given as goal

abbrev pub invariant-loop-x : goal.invariant-loop-x
invariant-loop-x l = rising 0 l.xs ≡ rising l.before (drop l.x-index l.xs)
