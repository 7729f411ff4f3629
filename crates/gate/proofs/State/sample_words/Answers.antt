-- The words are read, and the sample is a step by their busy count.
use mathlib.Core.Path.{◌∙◌, sym}
use Rattle.checks.proofs.Entry.{on_words, on_bad_words, one-of-none}
use Rattle.gate.specs.Layout.{sound_state, call_on}
use Rattle.gate.proofs.Views.{engine}
use Rattle.gate.proofs.State.sample_words.Goals as goal

pub returns-in-Some : goal.returns-in-Some
unfolding call_on sound_state
returns-in-Some c =
    c.step.ensures
    ∙ on_words engine c.args.self c.args.stamp c.args.probes c.args.ws.now _
    (sym c.read_sample.ensures ∙ c.in-Some.is)

pub returns-in-None : goal.returns-in-None
unfolding call_on sound_state
returns-in-None c =
    c.step-in-None.ensures
    ∙ on_bad_words engine c.args.self c.args.stamp 1 0 c.args.probes c.args.ws.now one-of-none
    (sym c.read_sample.ensures ∙ c.in-None.is)
