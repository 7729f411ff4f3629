-- The clock moves, and the ledger is without what has aged.
use borrow.Author.Rules.{rules}
use Rattle.gate.proofs.Moving.{aged_few}
use Rattle.gate.proofs.Head.advance.Goals as goal

pub overflow_cast-self-2 : goal.overflow_cast-self-2
overflow_cast-self-2 c =
    search (
      rules,
      aged_few c.args.self.now c.args.air.now _ _ _ c.requires.tight c.age-n.ensures,
    )
