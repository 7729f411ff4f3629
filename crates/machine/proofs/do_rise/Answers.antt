use Rattle.std.proofs.Common.{◌∙◌, sym, get_or, arith, lt-ltb, le-ltb}
use Rattle.packing.proofs.Walk.{next, done}
use Rattle.machine.specs.Levels.{rising}
use Rattle.machine.proofs.do_rise.Goals as goal

pub returns-then-x-before : goal.returns-then-x-before
unfolding rising
returns-then-x-before c =
    let xs = c.args.xs.now in
    let l = c.loop-x in
    let i = l.x-index in
    sym (l.invariant ∙ rw (next 0 xs i (omega arith), le-ltb l.before (get_or xs i 0) c.if-x-before.true))

pub loop-x-preserved : goal.loop-x-preserved
unfolding rising
loop-x-preserved c =
    let xs = c.args.xs.now in
    let l = c.loop-x in
    let i = l.x-index in
    l.invariant ∙ rw (next 0 xs i (omega arith), lt-ltb l.before (get_or xs i 0) c.if-x-before.false)

pub returns : goal.returns
unfolding rising
returns c =
    let l = c.loop-x in
    sym (l.invariant ∙ rw (done 0 c.args.xs.now l.x-index (omega arith)))
