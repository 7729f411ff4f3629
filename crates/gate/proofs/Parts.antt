-- A run in two parts: calls behind other calls.
use mathlib.Core.Path.{◌≡◌, refl, ap}
use mathlib.Core.List.{List, [], ◌∷◌, ◌++◌}
use Rattle.model.specs.declared.Answer.{Answer}
use Rattle.model.specs.Calls.{Call}
use Rattle.gate.specs.declared.State.{State}
use Rattle.gate.specs.Layout.{call_on}
use Rattle.gate.specs.Runs.{state_after, events_on}

pub after_append : (s : State) (cs ds : List Call) → state_after s (cs ++ ds) ≡ state_after (state_after s cs) ds
unfolding state_after
after_append s [] ds = refl
after_append s (c ∷ cs) ds = after_append (call_on s c).state cs ds

pub events-append : (s : State) (cs ds : List Call) → events_on s (cs ++ ds) ≡ events_on s cs ++ events_on (state_after s cs) ds
unfolding state_after events_on
events-append s [] ds = refl
events-append s (c ∷ cs) ds =
    ap (λ (l : List (Call × Answer)). (c, (call_on s c).answer) ∷ l) (events-append (call_on s c).state cs ds)
