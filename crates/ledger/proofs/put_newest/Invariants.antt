-- The loop's invariant: the words passed are older by the gap, the others as they were. A store behind them follows.
use Rattle.std.proofs.Common.{◌≡◌}
use Rattle.ledger.proofs.Moved.{moved}
use Rattle.ledger.proofs.put_newest.Given as goal

abbrev pub invariant-loop-word : goal.invariant-loop-word
invariant-loop-word l = l.word-items ≡ moved l.gap l.word-index l.initial.word-items
