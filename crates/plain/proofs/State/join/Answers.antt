-- Where five of its priority wait the first of those leaves; then the packet is at the back.
use Prim.Native.Nat.{◌≤◌, ◌<◌}
use mathlib.Core.Path.{◌∙◌}
use native.Mathlib.Omega.{arith}
use Rattle.line.specs.Line.{count_of}
use Rattle.line.specs.Layout.{items}
use Rattle.line.proofs.Packing.{pushes}
use Rattle.plain.proofs.Views.{known}
use Rattle.plain.proofs.Doing.{room_full, room_free, joins_full, joins_free}
use Rattle.plain.proofs.State.join.Goals as goal
use Rattle.plain.proofs.State.join.Goals.{then-count_of-ge-MOST_OF_A_PRIORITY, else-count_of-ge-MOST_OF_A_PRIORITY}

pub overflow_add-counts : goal.overflow_add-counts
overflow_add-counts c = let k = known _ c.requires.given in omega (arith, k.groups.most)

pub overflow_add-counts-then-count_of-ge-MOST_OF_A_PRIORITY : goal.overflow_add-counts-then-count_of-ge-MOST_OF_A_PRIORITY
overflow_add-counts-then-count_of-ge-MOST_OF_A_PRIORITY c = let k = known _ c.requires.given in
    omega (arith, k.sum, k.groups.most)

pub returns : goal.returns
returns c =
    let k = known _ c.requires.given in
    let p = c.args.p in
    elim c.if-count_of-ge-MOST_OF_A_PRIORITY.branch [
      | then-count_of-ge-MOST_OF_A_PRIORITY w ↦
          let full : 5 ≤ count_of p.priority (items c.args.self.now.line) =
          omega (arith, w.if-count_of-ge-MOST_OF_A_PRIORITY.true, c.count_of.ensures) in
          let g = room_full c.args.self.now p.priority _ k full (w.line-is ∙ w.remove-line.ensures) in
          joins_full c.args.self.now p _ _ _ c.requires.given.0 (c.push-self.ensures ∙ pushes _ p g.0 g.1) full
          (w.line-is ∙ w.remove-line.ensures) w.counts-is
      | else-count_of-ge-MOST_OF_A_PRIORITY w ↦
          let free : count_of p.priority (items c.args.self.now.line) < 5 =
          omega (arith, w.if-count_of-ge-MOST_OF_A_PRIORITY.false, c.count_of.ensures) in
          let g = room_free c.args.self.now p.priority _ k c.requires.priority_le_last_priority free w.line-is in
          let put = c.push-self.ensures ∙ pushes _ p g.0 g.1 in
          joins_free c.args.self.now p _ _ _ c.requires.given.0 put free w.line-is w.counts-is
    ]
