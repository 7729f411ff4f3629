-- The gate answers a good sample by words by its counts alone, so that two with the same counts are answered alike. No record
-- goes by a make's list, and no gate of another profile than 5 does.
use Prim.Native.Nat.{ℕ}
use mathlib.Core.Path.{◌≡◌, refl, sym, ap, ◌∙◌}
use mathlib.Core.Bool.{true, cond}
use mathlib.Core.List.{List, ◌∷◌}
use borrow.Author.Tests.{ne_eqb}
use Rattle.rules.specs.Refusals.{first_of}
use Rattle.rules.specs.Samples.{busy_of, good_words}
use Rattle.control.specs.Control.{list_kept}
use Rattle.model.specs.declared.Answer.TheVariants.{Refused}
use Rattle.model.specs.Queues.{in_queues}
use Rattle.model.specs.Calls.{Call, words, count}
use Rattle.model.specs.Effects.{Result}
use Rattle.model.specs.Gate.{make_in}
use Rattle.model.proofs.Sampling.{good_alike}
use Rattle.gate.specs.declared.State.{State}
use Rattle.gate.specs.declared.Outcome.{Outcome}
use Rattle.gate.specs.Layout.{view_of, sound_state, outcome, outcome_of, call_on, make_state}
use Rattle.gate.specs.Runs.{state_after, events_on}
use Rattle.records.specs.Writing.{record_of, argument_checks, write_number, log_after}
use Rattle.calllog.specs.Writing.{ListsLeftOut, answers_on, SameAfter, CountAnswersAlike, AlikeAnswerAlike}

-- a good sample by words is answered as the one by its count
pub count_for_words :
    (s : State) (stamp probes : ℕ) (ws : List ℕ) → good_words probes ws ≡ true
    → call_on s (count stamp (busy_of ws probes) probes) ≡ call_on s (words stamp probes ws)
unfolding call_on
count_for_words s stamp probes ws g =
    ap (λ (r : Result in_queues). cond (sound_state s) (outcome_of s r) (outcome s (Refused 9)))
    (good_alike (view_of s) stamp probes ws g)

-- a make with its list and without it
pub lists_left_out : ListsLeftOut
unfolding record_of write_number argument_checks log_after make_state make_in first_of list_kept
lists_left_out m =
    record {
      shared = λ log at. record { fields = refl; answer = refl; bytes = refl };
      made = λ other. simp (ne_eqb m.profile 5 other);
    }

-- calls that are answered alike lead on alike
alike_after : (s : State) (a b : Call) (behind : List Call) → call_on s a ≡ call_on s b → SameAfter s a b behind
unfolding state_after events_on
alike_after s a b behind e =
    record {
      answers = ap (λ (o : Outcome). o.answer ∷ answers_on o.state behind) e;
      state = ap (λ (o : Outcome). state_after o.state behind) e;
    }

pub count_answers_alike : CountAnswersAlike
count_answers_alike s stamp probes ws g behind =
    alike_after s (words stamp probes ws) (count stamp (busy_of ws probes) probes) behind
    (sym (count_for_words s stamp probes ws g))

pub alike_answer_alike : AlikeAnswerAlike
alike_answer_alike s stamp probes ws ws' same behind =
    alike_after s (words stamp probes ws) (words stamp probes ws') behind
    (sym (count_for_words s stamp probes ws same.good)
    ∙ ap (λ (busy : ℕ). call_on s (count stamp busy probes)) same.busy
    ∙ count_for_words s stamp probes ws' same.good')
