-- The loop's invariant: the answer, at the bits so far and the words that are left, and the sum likewise.
use Rattle.ledger.proofs.Walking.{Stepped}
use Rattle.ledger.proofs.are_many_kept.Given as goal

abbrev pub invariant-loop-word : goal.invariant-loop-word
invariant-loop-word l = Stepped l.words l.first l.most l.bits l.before l.air l.word-index
