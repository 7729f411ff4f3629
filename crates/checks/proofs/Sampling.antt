-- What a load makes of what samples steer: in profile 5 it is noted, and the level is that of the loads as noted; in every other
-- nothing is noted, and the level told is not looked at.
use Prim.Native.Nat.{ℕ}
use mathlib.Core.Path.{◌≡◌, ap, ◌∙◌}
use mathlib.Core.List.{List}
use borrow.Author.Tests.{ne_eqb, eq-eqb}
use Rattle.machine.specs.declared.Loads.{Loads}
use Rattle.machine.specs.Levels.{thresholds}
use Rattle.machine.specs.Loads as held
use Rattle.machine.specs.Moves.{level_after, moved_by}
use Rattle.machine.proofs.Noted.{loads-packed}
use Rattle.control.specs.declared.Tuning.{Tuning}
use Rattle.control.specs.Control.{Control, control_of, tuned, moved_in, loads_after, sampled}

module _ (k : Control) (load level : ℕ) (t : Tuning) (e : t ≡ tuned k.profile k.tuning level load) where
  pub sampled-listed : (l : Loads) → k.profile ≡ 5 → l ≡ held.packed (held.noted (held.loads k.loads) load)
      → level ≡ level_after (thresholds k.levels) (held.loads l) k.tuning.level
      → control_of k.profile t k.levels l ≡ sampled k load
  unfolding sampled moved_by
  sampled-listed l five f g =
      let xs = held.noted (held.loads k.loads) load in
      let noted : held.loads l ≡ xs = ap (λ (x : Loads). held.loads x) f ∙ loads-packed xs in
      let as-noted : t ≡ tuned k.profile k.tuning (level_after (thresholds k.levels) xs k.tuning.level) load =
      e ∙ ap (λ (n : ℕ). tuned k.profile k.tuning n load)
      (g ∙ ap (λ (ns : List ℕ). level_after (thresholds k.levels) ns k.tuning.level) noted) in
      rw (eq-eqb k.profile 5 five) (λ i. control_of k.profile (as-noted i) k.levels (f i))

  pub sampled-unlisted : (k.profile ≡ 5 → ⊥) → control_of k.profile t k.levels k.loads ≡ sampled k load
  unfolding sampled tuned
  sampled-unlisted other =
      let n = ne_eqb k.profile 5 other in
      let same : t ≡ tuned k.profile k.tuning (moved_in k load).level load = e ∙ rw n in
      let none : k.loads ≡ loads_after k load = rw n in
      λ i. control_of k.profile (same i) k.levels (none i)
