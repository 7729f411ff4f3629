-- The loop's invariant: the words so far are in step, so the answer is that of the words that are left, and the sum likewise.
use Rattle.ledger.proofs.Walking.{Stepped}
use Rattle.ledger.proofs.are_few_kept.Given as goal

abbrev pub invariant-loop-word : goal.invariant-loop-word
invariant-loop-word l = Stepped l.words l.first l.most 0 l.before l.air l.word-index
