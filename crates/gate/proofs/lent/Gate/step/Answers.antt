-- Unsound, or as on a sound state.
use mathlib.Core.Path.{sym, ◌∙◌, ap}
use Rattle.gate.specs.Layout.{outcome}
use Rattle.gate.specs.Lent.{state_on}
use Rattle.checks.specs.Checks.{call_of}
use Rattle.gate.proofs.Runs.{unsound_gets_nine}
use Rattle.gate.proofs.lent.Gate.step.Goals as goal

pub returns-then-not-is_sound-clause-done : goal.returns-then-not-is_sound-clause-done
returns-then-not-is_sound-clause-done c =
    let given = state_on c.args.self.now in
    ap (outcome given) c.from.ensures
    ∙ sym (unsound_gets_nine given (call_of c.args.request c.args.stamp)
    (sym c.is_sound.ensures.exact ∙ c.if-not-is_sound.true))
