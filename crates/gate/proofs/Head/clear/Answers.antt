-- The queues without their expired packets, and these counted.
use native.Mathlib.Omega.{arith}
use Rattle.waiting.specs.Layout.{rows}
use Rattle.waiting.proofs.Searching.{twenty}
use Rattle.gate.proofs.Moving.{cleared_by}
use Rattle.gate.proofs.Head.clear.Goals as goal

pub overflow_add-self : goal.overflow_add-self
overflow_add-self c =
    let few = twenty (rows c.args.queues.now c.args.came.now) c.requires.held.size in
    omega (arith, c.requires.expired, c.expire_all.ensures.gone, few)

pub returns-clause-done : goal.returns-clause-done
returns-clause-done c =
    let e = c.expire_all.ensures in
    cleared_by c.args.self.now _ _ _ e.gone e.left
