use mathlib.Core.Path.{sym, ◌∙◌}
use native.Mathlib.Omega.{arith}
use Rattle.waiting.specs.Layout.{rows}
use Rattle.waiting.proofs.Wholes.{lent_short}
use Rattle.waiting.proofs.Searching.{seek_in, found_here, not_here, none_in, none_found}
use Rattle.waiting.proofs.choose.Goals as goal

pub loop-i-init : goal.loop-i-init
loop-i-init c =
    let l = c.search in
    (l.invariant.0, omega arith, c.len-n.ensures, seek_in _ _ c.requires l.k (omega arith) l.invariant.1)

pub loop-i-preserved : goal.loop-i-preserved
loop-i-preserved c =
    let l = c.loop-i in (
      l.invariant.0,
      l.invariant.1,
      l.invariant.2,
      not_here _ _ c.requires _ l.invariant.1 l.i l.invariant.3 (omega (arith, l.invariant.2)) _ c.cell_at-c.ensures
          (sym c.is_live.ensures ∙ c.if-is_live.false),
    )

pub search-preserved : goal.search-preserved
search-preserved c =
    let l = c.loop-i in
    (l.invariant.0, none_in _ _ c.requires _ l.invariant.1 l.i l.invariant.3 (omega (arith, l.invariant.2)))

pub returns-after-search : goal.returns-after-search
returns-after-search c =
    let l = c.search in
    l.invariant.0 ∙ sym (none_found _ _ l.k l.invariant.1 (omega arith))

pub returns-then-is_live : goal.returns-then-is_live
returns-then-is_live c =
    let l = c.loop-i in
    sym (found_here _ _ c.requires _ l.invariant.1 l.i l.invariant.3 (omega (arith, l.invariant.2)) _
    c.cell_at-c.ensures (sym c.is_live.ensures ∙ c.if-is_live.true))

pub cell_at-c-requires-clause-i_lt_room : goal.cell_at-c-requires-clause-i_lt_room
cell_at-c-requires-clause-i_lt_room c =
    omega (
      arith,
      c.loop-i.invariant.2,
      lent_short (rows c.args.words.now c.args.came.now) c.requires c.search.k (omega arith),
    )
