-- Queue after queue.
use Rattle.waiting.specs.Layout.{rows}
use Rattle.waiting.proofs.Searching.{Expiring}
use Rattle.waiting.proofs.expire_all.Given as goal

abbrev pub invariant-loop-k : goal.invariant-loop-k
invariant-loop-k l = Expiring l.time (rows l.initial.words l.initial.came) l.k l.gone (rows l.words l.came)
