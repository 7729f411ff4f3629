-- The part of the queue, changed and put back.
use mathlib.Core.List.{List, [], ◌∷◌, ◌++◌}
use native.Mathlib.Omega.{arith}
use Rattle.waiting.specs.declared.Cell.{Cell}
use Rattle.waiting.specs.Layout.{rows}
use Rattle.waiting.proofs.Wholes.{part_tight, lent_len, put_back}
use Rattle.waiting.proofs.push_to.Goals as goal

pub returns : goal.returns
returns c =
    let r = rows c.args.words.now c.args.came.now in
    put_back r c.requires.held c.args.k c.requires.k_bound (λ (q : List Cell). q ++ (c.args.c ∷ [])) _
    c.push.ensures

pub push-requires-clause-packed : goal.push-requires-clause-packed
push-requires-clause-packed c =
    part_tight (rows c.args.words.now c.args.came.now) c.requires.held c.args.k c.requires.k_bound

pub push-requires-clause-came_bound : goal.push-requires-clause-came_bound
push-requires-clause-came_bound c =
    omega (
      arith,
      lent_len (rows c.args.words.now c.args.came.now) c.requires.held c.args.k c.requires.k_bound,
      c.requires.k_len_bound,
    )
