-- The count, the own wait and both arrays are zero, all joined: how they are grouped is nothing to the answer.
use mathlib.Core.Path.{◌≡◌, refl}
use mathlib.Core.Bool.{Bool, true, false, ◌&&◌}
use lib.Dec.{eqb}
use Rattle.packing.specs.Packing.{all_are, is_unused}
use Rattle.machine.specs.Levels.{none_listed}
use Rattle.machine.proofs.Levels.is_none.Goals as goal

regroup : (a b v w : Bool) → (((a && b) && v) && w) ≡ (a && (b && (v && (w && true))))
regroup false b v w = refl
regroup true false v w = refl
regroup true true false w = refl
regroup true true true false = refl
regroup true true true true = refl

pub returns : goal.returns
unfolding none_listed
returns c =
    let l = c.args.self in
    rw (c.are_zero-above.ensures, c.are_zero-waits.ensures)
    (regroup (eqb l.len 0) (eqb l.wait 0) (all_are is_unused l.above) (all_are is_unused l.waits))
