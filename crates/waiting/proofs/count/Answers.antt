-- The lengths of the four.
use Prim.Native.Nat.{ℕ}
use mathlib.Core.Path.{refl, ◌∙◌}
use Rattle.std.proofs.Common.{rules, arith, length}
use Rattle.std.specs.List.{range_with_len}
use Rattle.std.proofs.lemmas.Iterator.{YieldsList-from_map, YieldsList-from_range}
use Rattle.std.proofs.lemmas.Iterator.Consumers.{YieldsList-at, sum_by_from_yields_List, fits_by_from_yields_list}
use Rattle.waiting.specs.Layout.{rows, queues, queue_of}
use Rattle.waiting.proofs.Wholes.{count_four}
use Rattle.waiting.proofs.Searching.{twenty}
use Rattle.waiting.proofs.count.Goals as goal

pub sum-requires-clause-fits : goal.sum-requires-clause-fits
sum-requires-clause-fits c =
    let r = rows c.args.words.now c.args.came.now in
    let h = λ (k : ℕ). length (queue_of (queues r) k) in
    fits_by_from_yields_list h (range_with_len 0 4) c.map.result _
    (YieldsList-from_map _ h (YieldsList-at c.map.ensures.source (YieldsList-from_range 0 4 4 refl refl)) c.map.ensures.closure
    (λ x u q k. search rules))
    (omega (arith, count_four r, twenty r c.requires.size))

pub returns : goal.returns
returns c =
    let r = rows c.args.words.now c.args.came.now in
    let h = λ (k : ℕ). length (queue_of (queues r) k) in
    sum_by_from_yields_List h (range_with_len 0 4) c.map.result c.sum.result c.sum.ensures.ran
    (YieldsList-from_map _ h (YieldsList-at c.map.ensures.source (YieldsList-from_range 0 4 4 refl refl)) c.map.ensures.closure
    (λ x u q k. search rules))
    ∙ omega (arith, count_four r)
