-- A store behind the packets, and the length.
use Rattle.waiting.specs.Layout.{rows}
use Rattle.waiting.proofs.Keeping.{pushes}
use Rattle.waiting.proofs.push.Goals as goal

pub returns : goal.returns
returns c =
    let r = rows c.args.words.now c.args.came.now in
    pushes r c.args.c _ _ _ _ c.requires.sized c.requires.packed c.requires.came_bound
    c.len-n.ensures c.put.ensures c.put_len.ensures
