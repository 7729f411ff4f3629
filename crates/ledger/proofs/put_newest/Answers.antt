use Rattle.std.proofs.Common.{arith, eq-eqb}
use borrow.Author.Tests.{ne_eqb}
use Rattle.ledger.specs.Layout.{put_newest}
use Rattle.ledger.proofs.Moved.{move_next, next_fits, all_moved}
use Rattle.ledger.proofs.put_newest.Goals as goal

pub returns-then-more-eq0 : goal.returns-then-more-eq0
unfolding put_newest
returns-then-more-eq0 c = rw (eq-eqb _ _ c.if-more-eq0.true)

pub overflow_cast-word : goal.overflow_cast-word
overflow_cast-word c =
    omega (
      arith,
      next_fits c.args.gap c.loop-word.word-index _ _ c.loop-word-test.true c.loop-word.invariant
          (c.requires.n_bound (omega arith)).1,
    )

pub overflow_mul-word : goal.overflow_mul-word
overflow_mul-word c =
    omega (
      arith,
      next_fits c.args.gap c.loop-word.word-index _ _ c.loop-word-test.true c.loop-word.invariant
          (c.requires.n_bound (omega arith)).1,
    )

pub overflow_add-word : goal.overflow_add-word
overflow_add-word c =
    omega (
      arith,
      next_fits c.args.gap c.loop-word.word-index _ _ c.loop-word-test.true c.loop-word.invariant
          (c.requires.n_bound (omega arith)).1,
    )

pub loop-word-preserved : goal.loop-word-preserved
loop-word-preserved c =
    move_next c.args.gap c.loop-word.word-index _ _ c.loop-word-test.true c.loop-word.invariant

pub returns : goal.returns
unfolding put_newest
returns c =
    let moved = all_moved c.args.gap c.loop-word.word-index _ _ c.loop-word-test.false c.loop-word.invariant in
    rw (ne_eqb _ _ c.if-more-eq0.false, moved)
