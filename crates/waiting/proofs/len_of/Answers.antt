-- The part of the queue has its length.
use mathlib.Core.Path.{◌∙◌}
use Rattle.waiting.specs.Layout.{rows}
use Rattle.waiting.proofs.Wholes.{lent_len}
use Rattle.waiting.proofs.len_of.Goals as goal

pub returns : goal.returns
returns c =
    c.len.ensures ∙ lent_len (rows c.args.words.now c.args.came.now) c.requires.held c.args.k c.requires.k_bound
