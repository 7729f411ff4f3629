-- The level is that of the loads as noted, and those in their room are those loads.
use Prim.Native.Nat.{ℕ}
use mathlib.Core.Path.{ap, ◌∙◌}
use mathlib.Core.List.{List}
use Rattle.machine.specs.declared.Loads.{Loads}
use Rattle.machine.specs.Levels.{thresholds}
use Rattle.machine.specs.Loads.{loads, noted}
use Rattle.machine.specs.Moves.{level_after, moved_by}
use Rattle.machine.proofs.Noted.{loads-packed}
use Rattle.machine.proofs.Levels.sample.Goals as goal

pub returns : goal.returns
unfolding moved_by
returns c =
    let a = c.args in
    let ts = thresholds a.self in
    let n = c.note-loads.ensures in
    let level =
    c.level_after.ensures ∙ ap (λ (l : Loads). level_after ts (loads l) a.level) n
    ∙ ap (λ (xs : List ℕ). level_after ts xs a.level) (loads-packed (noted (loads a.held) a.load)) in
    λ i. record { level = level i; loads = n i }
