-- What gate::make promises of every run of its state has the answers of the whole run; its states read as the model's, so calls
-- from any point of it on are answered alike too.
use mathlib.Core.Path.{◌≡◌, refl, ap, sym, ◌∙◌, subst}
use mathlib.Core.Bool.{true}
use mathlib.Core.List.{List, []}
use Rattle.model.specs.Calls.{Call}
use Rattle.model.specs.State.{View}
use Rattle.model.specs.Gate.{make, call}
use Rattle.model.specs.Claims.{view_after, events}
use Rattle.model.proofs.Demand3.{demand3}
use Rattle.gate.specs.Layout.{view_of, sound_state, make_state}
use Rattle.gate.specs.Runs.{state_after, StateRun}
use Rattle.gate.proofs.Views.{view_state}
use Rattle.gate.proofs.Runs.{run_reads, call_reads, make_runs}
use Rattle.label.specs.Trailer.{Run, view_at_end, by_model}
use Rattle.label.specs.Label.{Label}
use Rattle.label.proofs.Label.{label_holds}
use Rattle.coded.specs.Coded.{SameMakes, state_at_end, by_code, SameAnswers, CodeKeepsLabel}

pub same_makes : SameMakes
unfolding make_state
same_makes m = refl

module _ (r : Run) where
  abbrev first : View
  first = (make r.making).view

  -- what make promises of any calls on its state
  promised : (calls : List Call) → StateRun r.making (make_state r.making).state calls
  promised = make_runs r.making (same_makes r.making ∙ r.ready)

  begins : sound_state (make_state r.making).state ≡ true
  unfolding state_after
  begins = (promised []).stays_sound

  -- make's state reads as the model's
  back : view_of (make_state r.making).state ≡ first
  unfolding make_state view_after
  back = view_state first (demand3 r.making [] r.ready).sound_throughout

  reads : view_of (state_at_end r) ≡ view_at_end r
  reads = (run_reads (make_state r.making).state r.calls begins).view ∙ ap (λ (v : View). view_after v r.calls) back

  same_all : by_code.all r ≡ by_model.all r
  same_all = (promised r.calls).answers ∙ ap (λ (v : View). events v r.calls) back

  same_since : (calls : List Call) → by_code.since r calls ≡ by_model.since r calls
  same_since calls =
      (run_reads (state_at_end r) calls (promised r.calls).stays_sound).answers ∙ ap (λ (v : View). events v calls) reads

  same_next : (c : Call) → by_code.next r c ≡ by_model.next r c
  same_next c =
      (call_reads (state_at_end r) c (promised r.calls).stays_sound).1 ∙ ap (λ (v : View). (call v c).answer) reads

pub same_answers : SameAnswers
same_answers i =
    record {
      all = λ (r : Run). same_all r i;
      since = λ (r : Run) (calls : List Call). same_since r calls i;
      next = λ (r : Run) (c : Call). same_next r c i;
    }

pub code_keeps_label : CodeKeepsLabel
code_keeps_label = subst Label (sym same_answers) label_holds
