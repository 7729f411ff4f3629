-- The front packet leaves its queue and is noted, as the last admission and in the ledger.
use mathlib.Core.Path.{◌∙◌, refl}
use Rattle.waiting.specs.Layout.{rows}
use Rattle.waiting.proofs.Meaning.{rows_popped}
use Rattle.gate.proofs.Head.admit.Goals as goal

pub returns : goal.returns
returns c =
    record {
      head = refl;
      ledger = c.note.ensures;
      rows = c.pop_from.ensures ∙ rows_popped (rows c.args.queues.now c.args.came.now) c.args.k c.requires.queue;
    }
