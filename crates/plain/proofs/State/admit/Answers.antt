-- The packet leaves the line and is noted, as the last admission and in the ledger.
use native.Mathlib.Omega.{arith}
use Rattle.plain.proofs.Views.{known}
use Rattle.plain.proofs.Doing.{admitted}
use Rattle.plain.proofs.State.admit.Goals as goal

pub note-requires : goal.note-requires
note-requires c =
    let k = known _ c.requires.given in record {
      packed = k.ledger_tight;
      len_lt_forty = c.requires.len_lt_forty;
      base_le_at = k.groups.last_past;
      l_value = k.groups.none-aged;
    }

pub overflow_add-self : goal.overflow_add-self
overflow_add-self c = let k = known _ c.requires.given in omega (arith, k.sum, k.groups.most)

pub returns : goal.returns
returns c = admitted c.args.self.now c.args.p _ _
    c.remove-self.ensures c.note.ensures
