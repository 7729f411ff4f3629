-- A line is sound by three tests: of its places, of its packets, and of how many wait of each priority.
use Rattle.std.proofs.Common.{ℕ, ◌≡◌, sym, Bool, ◌&&◌, [], ◌∷◌}
use Rattle.std.specs.List.{list_all}
use Rattle.model.specs.Packets.{in_order}
use Rattle.line.specs.declared.Line.{Line}
use Rattle.line.specs.Line.{allowed_packet, at_most_five}
use Rattle.line.specs.Layout.{items, tidy, sound_line}

module _ (profile now : ℕ) (l : Line) where
  pub by_parts : {t o n : Bool} → t ≡ tidy l → o ≡ in_order (allowed_packet profile now) 0 (items l)
      → n ≡ list_all (λ k. at_most_five k (items l)) (0 ∷ 1 ∷ 2 ∷ 3 ∷ []) → sound_line profile now l ≡ (t && (o && n))
  unfolding sound_line
  by_parts d e f = λ i. sym d i && (sym e i && sym f i)
