use mathlib.Core.Path.{refl}
use native.Mathlib.Omega.{arith}
use Rattle.waiting.proofs.Wholes.{part_tight, lent_short}
use Rattle.waiting.proofs.Searching.{held_now, expires_next, few_gone, all-expired}
use Rattle.waiting.proofs.expire_all.Goals as goal

pub overflow_add-gone : goal.overflow_add-gone
overflow_add-gone c =
    let l = c.loop-k in
    let e = c.expire.ensures in
    let n = expires_next _ _ c.requires l.k l.gone _ (omega arith) l.invariant _ _ _ e.left e.gone refl in
    omega (arith, few_gone _ _ c.requires _ _ _ n)

pub loop-k-preserved : goal.loop-k-preserved
loop-k-preserved c =
    let l = c.loop-k in
    let e = c.expire.ensures in
    expires_next _ _ c.requires l.k l.gone _ (omega arith) l.invariant _ _ _ e.left e.gone refl

pub expire-requires-clause-packed : goal.expire-requires-clause-packed
expire-requires-clause-packed c =
    let l = c.loop-k in
    part_tight _ (held_now _ _ c.requires l.k l.gone _ (omega arith) l.invariant) l.k (omega arith)

pub expire-requires-clause-came_bound : goal.expire-requires-clause-came_bound
expire-requires-clause-came_bound c =
    let l = c.loop-k in
    lent_short _ (held_now _ _ c.requires l.k l.gone _ (omega arith) l.invariant) l.k (omega arith)

pub returns-clause-gone : goal.returns-clause-gone
returns-clause-gone c =
    let l = c.loop-k in
    (all-expired c.args.time _ c.requires l.k l.gone _ (omega arith) l.invariant).0

pub returns-clause-left : goal.returns-clause-left
returns-clause-left c =
    let l = c.loop-k in
    (all-expired c.args.time _ c.requires l.k l.gone _ (omega arith) l.invariant).1
