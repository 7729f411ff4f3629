-- Demands 1 and 2 of the states that the plain engine's code holds (document 01, "Refusal numbers"): as for
-- the gate, in gate/specs/Runs.
use Rattle.std.specs.Prelude.{ℕ, ◌≡◌, true, false, List}
use Rattle.rules.specs.Refusals.{Check, FirstHolds}
use Rattle.model.specs.declared.Answer.TheVariants.{Refused}
use Rattle.model.specs.Calls.{Call, stamp_of, is_refused}
use Rattle.model.specs.Gate.{own_checks, clock_checks}
use Rattle.plain.specs.declared.State.{State}
use Rattle.plain.specs.Layout.{view_of, sound_state, outcome, call_on}

-- demand 1: "A refusal hands back the given state unchanged, clock included."
abbrev pub RefusedUnchanged : Type 0
RefusedUnchanged = (s : State) (c : Call) → is_refused (call_on s c).answer ≡ true → (call_on s c).state ≡ s

-- "Any other state is refused with 9."
abbrev pub UnsoundGetsNine : Type 0
UnsoundGetsNine = (s : State) (c : Call) → sound_state s ≡ false → call_on s c ≡ outcome s (Refused 9)

-- the table of a call on a state: NO-STATE is judged on all of the state, its unused places too
abbrev pub checks_on : State → Call → List Check
checks_on s c = clock_checks (sound_state s) s.clock (stamp_of c) (own_checks (view_of s) c)

-- demand 2: "exactly if"; number n is answered exactly if n's check is the first of the table that holds
abbrev pub RefusedExactly : Type 0
RefusedExactly =
    (s : State) (c : Call) (n : ℕ)
    → ((call_on s c).answer ≡ Refused n → FirstHolds n (checks_on s c))
    × (FirstHolds n (checks_on s c) → (call_on s c).answer ≡ Refused n)
