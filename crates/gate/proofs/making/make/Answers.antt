-- Make's outcome is the model's, laid out, and so every run from it keeps demand 3.
use mathlib.Core.Path.{◌≡◌, ◌∙◌, subst⁻¹}
use Rattle.model.specs.Calls.{Making}
use Rattle.gate.specs.declared.Outcome.{Outcome}
use Rattle.gate.specs.Layout.{make_state}
use Rattle.gate.specs.Runs.{Runs}
use Rattle.gate.proofs.Runs.{make_runs}
use Rattle.gate.proofs.making.make.Goals as goal

both-clauses : (o : Outcome) (m : Making) → o ≡ make_state m → (o ≡ make_state m) × Runs o m
both-clauses o m e = (e, subst⁻¹ (λ (x : Outcome). Runs x m) e (make_runs m))

pub returns : goal.returns
returns c = let all = both-clauses _ _ c.make_in-turn.ensures in record { exact = all.0; runs = all.1 }
