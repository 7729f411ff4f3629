-- None has aged, so the words fit when they are moved; the admission stands behind them.
use Rattle.ledger.specs.declared.Ledger.{Ledger}
use Rattle.ledger.specs.Layout.{ledger_of}
use Rattle.ledger.proofs.Settling.{moves, notes}
use Rattle.ledger.proofs.note.Goals as goal

pub put_newest-requires : goal.put_newest-requires
put_newest-requires c =
    let given : Ledger =
    ledger_of c.args.n c.args.slots.now in
    let h = c.requires in record {
      n_bound = λ z. (h.n_lt_places, moves c.args.base c.args.at given h.base_le_at h.packed h.slots_value);
    }

pub returns : goal.returns
returns c =
    let given : Ledger =
    ledger_of c.args.n c.args.slots.now in
    let h = c.requires in
    notes c.args.base c.args.at given h.base_le_at h.packed c.args.ontime _ h.n_lt_places
    c.put_newest.ensures
