-- A sound ledger has forty places, and nothing but zeros behind its admissions.
use mathlib.Core.Path.{sym, ◌∙◌}
use native.Mathlib.Omega.{arith}
use Rattle.ledger.proofs.Sound.{sound-packed}
use Rattle.plain.proofs.is_ledger_sound.Goals as goal

pub returns-clause-tight : goal.returns-clause-tight
returns-clause-tight c =
    let a = c.args in λ z. sound-packed a.profile a.time a.last a.l.now (sym c.is_sound.ensures ∙ z) (omega arith)
