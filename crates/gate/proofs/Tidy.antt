-- Rows laid out are tidy.
use Prim.Native.Nat.{ℕ, ◌≤◌, ◌<◌}
use mathlib.Core.Path.{◌≡◌, refl, ap, ◌∙◌}
use mathlib.Core.Bool.{true}
use mathlib.Core.List.{List, [], ◌∷◌}
use native.Mathlib.Omega.{arith}
use lib.ListN.{length, length-map}
use Rattle.rules.specs.Profiles.{room}
use Rattle.packing.specs.Packing.{filled, padded}
use Rattle.packing.proofs.Packing.{filled-padded}
use Rattle.model.specs.declared.Packet.{Packet}
use Rattle.model.specs.Fours.{Four}
use Rattle.waiting.specs.declared.Cell.{Cell}
use Rattle.waiting.specs.Layout.{Rows, no_cell, packed, cell_of, is_zero, tidy_queue, part, laid, queue_of, cells_of, rows_for}
use Rattle.waiting.specs.Layout.{tidy}
use Rattle.waiting.proofs.Places.{cells-rows}
use Rattle.waiting.proofs.Wholes.{Short, part-laid}
use Rattle.waiting.proofs.Meaning.{AllOwned}

queue_tidy : (cs : List Cell) → length cs ≤ room → tidy_queue (packed cs) ≡ true
unfolding packed
queue_tidy cs h =
    ap (padded is_zero room (length cs)) (cells-rows (length cs) (filled room no_cell cs))
    ∙ filled-padded room no_cell is_zero refl cs h

module _ (a b c d : List Cell) (h : Short (a ∷ b ∷ c ∷ d ∷ [])) where
  part-tidy : (k : ℕ) → k < 4 → length (queue_of (a ∷ b ∷ c ∷ d ∷ []) k) ≤ room
      → tidy_queue (part k (laid (a ∷ b ∷ c ∷ d ∷ []))) ≡ true
  part-tidy k l n =
      ap (λ (r : Rows). tidy_queue r) (part-laid (a ∷ b ∷ c ∷ d ∷ []) h k l) ∙ queue_tidy (queue_of (a ∷ b ∷ c ∷ d ∷ []) k) n

  laid-tidy : tidy (laid (a ∷ b ∷ c ∷ d ∷ [])) ≡ true
  unfolding tidy
  laid-tidy =
      rw (
        part-tidy 0 (omega arith) h.0,
        part-tidy 1 (omega arith) h.1.0,
        part-tidy 2 (omega arith) h.1.1.0,
        part-tidy 3 (omega arith) h.1.1.1.0,
      )

pub rows-tidy : (q : Four Packet) → AllOwned q → tidy (rows_for q) ≡ true
unfolding rows_for
rows-tidy q o =
    laid-tidy (cells_of q.c0) (cells_of q.c1) (cells_of q.c2) (cells_of q.c3)
    (short q.c0 o.c0.0, (short q.c1 o.c1.0, (short q.c2 o.c2.0, (short q.c3 o.c3.0, tt))))
  where
    short : (ps : List Packet) → length ps ≤ room → length (cells_of ps) ≤ room
    short ps h = omega (arith, length-map ps (λ (p : Packet). cell_of p))
