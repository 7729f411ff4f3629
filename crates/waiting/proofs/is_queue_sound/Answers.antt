use mathlib.Core.Path.{sym, ◌∙◌}
use native.Mathlib.Omega.{arith}
use Rattle.waiting.proofs.Judging.{too_long, none-waits, fitting, bad_place, good_place, all_fit}
use Rattle.waiting.proofs.is_queue_sound.Goals as goal

pub returns-then-n-eq0 : goal.returns-then-n-eq0
returns-then-n-eq0 c =
    c.is_queue_zero.ensures ∙ sym (none-waits _ _ _ c.requires (sym c.len-n.ensures ∙ c.if-n-eq0.true))

pub returns-then-n-gt-PLACES : goal.returns-then-n-gt-PLACES
returns-then-n-gt-PLACES c =
    sym (too_long _ _ _ c.requires (omega (arith, c.len-n.ensures)))

pub loop-i-init : goal.loop-i-init
loop-i-init c =
    let n = c.len-n.ensures in
    (n, fitting _ _ _ c.requires (omega (arith, n)))

pub returns-then-not-is_place_sound : goal.returns-then-not-is_place_sound
returns-then-not-is_place_sound c =
    let l = c.loop-i in
    sym (bad_place c.args.most c.args.time _ c.requires _ l.invariant.0 l.since l.i l.invariant.1 (omega arith) _
    c.cell_at-c.ensures (sym c.is_place_sound.ensures ∙ c.if-not-is_place_sound.true))

pub loop-i-preserved : goal.loop-i-preserved
loop-i-preserved c =
    let l = c.loop-i in (
      l.invariant.0,
      good_place c.args.most c.args.time _ c.requires _ l.invariant.0 l.since l.i l.invariant.1 (omega arith) _
          c.cell_at-c.ensures (sym c.is_place_sound.ensures ∙ c.if-not-is_place_sound.false),
    )

pub returns : goal.returns
returns c =
    let l = c.loop-i in
    sym (all_fit c.args.most c.args.time _ c.requires l.since l.i l.invariant.1 (omega arith))
