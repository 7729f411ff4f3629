use Rattle.std.proofs.Common.{◌≡◌, refl, arith, get_or}
use Rattle.ledger.specs.Layout.{admission, admission_in}
use Rattle.ledger.proofs.Word.{same_admission}
use Rattle.ledger.proofs.Walking.{allow_begun, next_air, next_timely, allow_here, allow_next, allow_done}
use Rattle.ledger.proofs.allowed_from.Goals as goal

pub loop-word-init : goal.loop-word-init
loop-word-init c = (
  allow_begun c.args.base _ c.args.ontime c.args.time _ (omega (arith, c.requires.sum_value)) c.requires.timely,
  omega arith,
)

pub returns-then-rest-le-MOST_AIR : goal.returns-then-rest-le-MOST_AIR
returns-then-rest-le-MOST_AIR c =
    allow_here c.args.base _ c.args.ontime c.args.time c.loop-word.rest c.loop-word.from c.loop-word.word-index
    c.loop-word.invariant.0 c.loop-word-test.true c.if-rest-le-MOST_AIR.true

pub overflow_add-from : goal.overflow_add-from
overflow_add-from c =
    let t = next_timely c.args.base _ c.args.ontime c.args.time c.loop-word.rest c.loop-word.from c.loop-word.word-index
    c.loop-word.invariant.0 c.loop-word-test.true
    (admission_in c.args.base (get_or c.args.words.now c.loop-word.word-index 0)) refl in
    omega (arith, t.0, c.time_in-from.ensures)

-- the next admission, as the code has it
pub overflow_sub-rest : goal.overflow_sub-rest
overflow_sub-rest c =
    let l = c.loop-word in
    let as_read : admission c.time_in-from.result c.ontime_in.result
    ≡ admission_in c.args.base (get_or c.args.words.now l.word-index 0) =
    same_admission _ _ c.time_in-from.ensures c.ontime_in.ensures in
    let air = next_air c.args.base _ c.args.ontime c.args.time l.rest l.from l.word-index l.invariant.0
    c.loop-word-test.true (admission c.time_in-from.result c.ontime_in.result) as_read in
    omega (arith, air, c.from-rest.ensures)

pub loop-word-preserved : goal.loop-word-preserved
loop-word-preserved c =
    let l = c.loop-word in
    let as_read : admission c.time_in-from.result c.ontime_in.result
    ≡ admission_in c.args.base (get_or c.args.words.now l.word-index 0) =
    same_admission _ _ c.time_in-from.ensures c.ontime_in.ensures in (
      rw c.from-rest.ensures (allow_next c.args.base _ c.args.ontime c.args.time l.rest l.from l.word-index l.invariant.0
          c.loop-word-test.true (admission c.time_in-from.result c.ontime_in.result) as_read c.if-rest-le-MOST_AIR.false),
      omega (arith, l.invariant.1),
    )

pub returns : goal.returns
returns c =
    allow_done c.args.base _ c.args.ontime c.args.time c.loop-word.rest c.loop-word.from c.loop-word.word-index
    c.loop-word.invariant.0 c.loop-word-test.false
