-- The rows are wiped, and the list that is kept is put there, unless the make is refused.
use Rattle.std.proofs.Common.{refl, ap, sym}
use borrow.Author.Rules.{rules}
use Rattle.rules.proofs.Refusals.{some_number}
use Rattle.machine.specs.declared.Levels.{Levels}
use Rattle.machine.specs.Levels.{levels_of}
use Rattle.gate.proofs.Made.{refused, made, kept_few}
use Rattle.gate.proofs.making.make_in.Goals as goal

pub returns-in-Err : goal.returns-in-Err
returns-in-Err c =
    let a = c.args in
    let list = levels_of a.n a.calm a.thresholds.now a.pauses.now in
    refused a.profile a.oldway a.stamp list (search rules) (search rules) (search rules) (search rules) (search rules)
    (search rules) (search rules) _ c.from.ensures c.in-Err.ensures (some_number c.in-Err.refusal)

pub fresh_head-requires : goal.fresh_head-requires
fresh_head-requires c =
    let a = c.args in
    let list = levels_of a.n a.calm a.thresholds.now a.pauses.now in
    rw (ap (λ (l : Levels). l.len) c.keep_list-levels.ensures) (kept_few a.profile list)

pub returns : goal.returns
returns c =
    let a = c.args in
    let list = levels_of a.n a.calm a.thresholds.now a.pauses.now in
    made a.profile a.oldway a.stamp list (search rules) (search rules) (search rules) (search rules) _
    c.keep_list-levels.ensures refl refl (c.fresh_head.ensures a.above.now a.waits.now) (sym c.in_default.ensures)
