-- The first test that fails makes the line unsound; else the last says.
use Rattle.std.proofs.Common.{refl, sym, ◌∙◌, arith}
use Rattle.line.proofs.Packing.{tidy-Packed}
use Rattle.line.proofs.Judged.{by_parts}
use Rattle.line.proofs.is_sound.Goals as goal
use Rattle.line.proofs.is_sound.Goals.{then-is_tidy, else-is_tidy}

pub returns-then-are_packets_sound-clause-exact : goal.returns-then-are_packets_sound-clause-exact
returns-then-are_packets_sound-clause-exact c =
    elim c.if-is_tidy.branch [
      | then-is_tidy w ↦
          sym (by_parts _ _ c.args.l c.is_tidy.ensures w.are_packets_sound.ensures c.are_counts_sound.ensures
          ∙ rw (w.if-is_tidy.true, sym w.value-is ∙ c.if-are_packets_sound.true) refl)
      | else-is_tidy w ↦ cc
    ]

pub returns-then-are_packets_sound-clause-tight : goal.returns-then-are_packets_sound-clause-tight
returns-then-are_packets_sound-clause-tight c =
    elim c.if-is_tidy.branch [
      | then-is_tidy w ↦ λ z. tidy-Packed c.args.l (omega arith) (sym c.is_tidy.ensures ∙ w.if-is_tidy.true)
      | else-is_tidy w ↦ cc
    ]

pub returns-else-are_packets_sound-clause-exact : goal.returns-else-are_packets_sound-clause-exact
returns-else-are_packets_sound-clause-exact c =
    elim c.if-is_tidy.branch [
      | then-is_tidy w ↦
          w.value-is
          ∙ sym (by_parts _ _ c.args.l c.is_tidy.ensures w.are_packets_sound.ensures refl
          ∙ rw (w.if-is_tidy.true, sym w.value-is ∙ c.if-are_packets_sound.false) refl)
      | else-is_tidy w ↦
          w.value-is ∙ sym (by_parts _ _ c.args.l c.is_tidy.ensures refl refl ∙ rw w.if-is_tidy.false refl)
    ]
