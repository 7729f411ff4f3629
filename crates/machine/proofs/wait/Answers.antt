-- Level 0 has its own wait; another has the wait at its place, or the longest past the list.
use Prim.Native.Nat.{◌-◌}
use mathlib.Core.Path.{sym, ◌∙◌}
use native.Mathlib.Omega.{arith}
use Rattle.machine.specs.Levels.{most_listed, listed, wait_at}
use Rattle.machine.proofs.Parts.{length-listed, listed_at, wait_above, past_end, before_end}
use Rattle.machine.proofs.wait.Goals as goal

pub returns-then-level-eq0 : goal.returns-then-level-eq0
unfolding wait_at
returns-then-level-eq0 c = rw c.if-level-eq0.true

pub returns-then-m-k : goal.returns-then-m-k
returns-then-m-k c =
    let ws = listed c.args.n c.args.waits.now in
    let e = length-listed c.args.n c.args.waits.now in
    sym (wait_above c.args.own c.args.level ws (omega (arith, c.if-level-eq0.false))
    ∙ past_end ws (c.args.level - 1) most_listed (omega (arith, c.if-m-k.true)))

pub returns : goal.returns
returns c =
    let ws = listed c.args.n c.args.waits.now in
    let k = c.args.level - 1 in
    let e = length-listed c.args.n c.args.waits.now in
    sym (wait_above c.args.own c.args.level ws (omega (arith, c.if-level-eq0.false))
    ∙ before_end ws k most_listed 0 (omega arith) ∙ listed_at c.args.n k 0 c.args.waits.now (omega arith))
