-- The sum of the words is the air time of their admissions.
use Rattle.std.proofs.Common.{◌≡◌, ◌∙◌, sym, take, arith}
use Rattle.model.specs.Ledger.{air_of}
use Rattle.ledger.specs.Layout.{read_from}
use Rattle.ledger.proofs.Meaning.{air_added}
use Rattle.ledger.proofs.air_left.Goals as goal

pub air_of-requires : goal.air_of-requires
air_of-requires c =
    omega (arith, air_added c.args.base (take c.args.n c.args.slots.now), c.requires.slots_bound)

pub allowed_from-from-requires : goal.allowed_from-from-requires
allowed_from-from-requires c =
    let e : c.air_of.result ≡ air_of (read_from c.args.base (take c.args.n c.args.slots.now)) =
    c.air_of.ensures ∙ sym (air_added c.args.base (take c.args.n c.args.slots.now)) in
    record { sum_value = e; sum_le_most_air = omega arith; timely = c.requires.timely }
