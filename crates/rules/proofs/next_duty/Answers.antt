-- 123 / 125 is 984 / 1,000. 6 / 5 of the target is whole, so the target less the load, both scaled, is the offset for either
-- sign of the gap.
use Rattle.std.proofs.Common.{◌≡◌, ◌*◌, ◌/◌, sym, ◌∙◌, arith}
use Rattle.rules.specs.Profiles.{profile3}
use Rattle.rules.proofs.Duty.{scaled}
use Rattle.rules.proofs.next_duty.Goals as goal

pub returns : goal.returns
returns c =
    let a = c.args in
    let load = c.scaled_load in
    let law = scaled profile3 a.duty a.smoothed 816000 load.result
    (omega arith) (omega arith) (omega arith) (omega arith) load.ensures.0 load.ensures.1 in
    let least : 123 * a.duty / 125 ≡ 984 * a.duty / 1000 = omega arith in
    c.hold.ensures ∙ simp (c.hold-load.ensures, least) (sym law)
