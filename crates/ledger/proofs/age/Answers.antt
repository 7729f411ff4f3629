-- As many words are dropped as have aged.
use native.Mathlib.Omega.{arith}
use Rattle.ledger.specs.Layout.{ledger_of}
use Rattle.ledger.proofs.Settling.{in_order_lem, few, old_most, drops_by}
use Rattle.ledger.proofs.age.Goals as goal

pub count_aged-gone-requires : goal.count_aged-gone-requires
count_aged-gone-requires c =
    let ordered = in_order_lem c.args.base (ledger_of c.args.n c.args.slots.now) c.requires.packed c.requires.in_order in
    record { n_bound = few c.args.base c.args.time (ledger_of c.args.n c.args.slots.now) ordered }

pub drop_oldest-requires : goal.drop_oldest-requires
drop_oldest-requires c =
    let ordered = in_order_lem c.args.base (ledger_of c.args.n c.args.slots.now) c.requires.packed c.requires.in_order in
    let most = old_most c.args.base c.args.time (ledger_of c.args.n c.args.slots.now) ordered in record {
      n_bound = λ h. (
        few c.args.base c.args.time (ledger_of c.args.n c.args.slots.now) ordered,
        omega (arith, most, c.count_aged-gone.ensures),
      );
    }

pub overflow_sub-result : goal.overflow_sub-result
overflow_sub-result c =
    let ordered = in_order_lem c.args.base (ledger_of c.args.n c.args.slots.now) c.requires.packed c.requires.in_order in
    omega (arith, old_most c.args.base c.args.time (ledger_of c.args.n c.args.slots.now) ordered, c.count_aged-gone.ensures)

pub returns : goal.returns
returns c =
    let ordered = in_order_lem c.args.base (ledger_of c.args.n c.args.slots.now) c.requires.packed c.requires.in_order in
    drops_by c.args.base c.args.time (ledger_of c.args.n c.args.slots.now) ordered _ _ c.count_aged-gone.ensures
    c.drop_oldest.ensures
