-- The sum of the two leaves.
use Prim.Native.Nat.{ℕ, ◌+◌}
use mathlib.Core.Path.{ap₂, ◌∙◌}
use Rattle.control.proofs.closed_after.Goals as goal

pub wait_start-requires : goal.wait_start-requires
wait_start-requires c = c.requires.ontime_le_ontime

pub wait-requires : goal.wait-requires
wait-requires c = c.requires

pub returns : goal.returns
returns c =
    ap₂ (λ (a b : ℕ). a + b) (c.from-start.ensures ∙ c.wait_start.ensures) (c.from-wait.ensures ∙ c.wait.ensures)
