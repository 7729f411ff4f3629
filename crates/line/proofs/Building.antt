-- A line that is built of a list, packet by packet: what it holds and what is to come make the whole.
use Rattle.std.proofs.Common.{ℕ, ◌+◌, ◌≤◌, ◌<◌, ◌≡◌, ap, sym, ◌∙◌, List, [], ◌∷◌, ◌++◌}
use Rattle.std.proofs.Common.{append_assoc, append-nil, length-append, arith}
use mathlib.Core.Path.{subst⁻¹}
use Rattle.model.specs.declared.Packet.{Packet}
use Rattle.model.specs.Packets.{at_back}
use Rattle.line.specs.declared.Line.{Line}
use Rattle.line.specs.Layout.{places, items, packed, Packed, pushed}
use Rattle.line.proofs.Packing.{items-packed, packed-Packed, packed-length, pushes}

pub record Building (whole rest : List Packet) (most : ℕ) (left : Line) : Type 0 where
  pub tight : Packed left
  pub joined : items left ++ rest ≡ whole
  pub short : left.len ≤ most

pub begun : (whole : List Packet) (left : Line) → left ≡ packed [] → Building whole whole 0 left
unfolding packed
begun whole left e =
    record {
      tight = subst⁻¹ Packed e (packed-Packed []);
      joined = ap (λ (l : Line). items l ++ whole) e;
      short = omega (arith, ap (λ (l : Line). l.len) e);
    }

module _ (whole before rest : List Packet) (most : ℕ) (left : Line) where
  pub passed : before ≡ rest → Building whole before most left → Building whole rest (most + 1) left
  passed e b =
      record {
        tight = b.tight;
        joined = ap (λ (ps : List Packet). items left ++ ps) (sym e) ∙ b.joined;
        short = omega (arith, b.short);
      }

  pub taken : (p : Packet) (more : Line) → most < places → before ≡ p ∷ rest → more ≡ pushed p left
      → Building whole before most left → Building whole rest (most + 1) more
  unfolding packed
  taken p more h e g b =
      let m : more ≡ packed (at_back p (items left)) = g ∙ pushes left p b.tight (omega (arith, b.short)) in
      record {
        tight = subst⁻¹ Packed m (packed-Packed (at_back p (items left)));
        joined =
            ap (λ (l : Line). items l ++ rest) m
            ∙ ap (λ (ps : List Packet). ps ++ rest) (items-packed (at_back p (items left)))
            ∙ append_assoc (items left) (p ∷ []) rest ∙ ap (λ (ps : List Packet). items left ++ ps) (sym e) ∙ b.joined;
        short =
            omega (arith, ap (λ (l : Line). l.len) m, length-append (items left) (p ∷ []), packed-length left b.tight, b.short);
      }

-- where nothing is to come, it is the whole
pub built : (whole rest : List Packet) (most : ℕ) (left : Line) → rest ≡ [] → Building whole rest most left → left ≡ packed whole
built whole rest most left e b =
    b.tight
    ∙ ap packed (sym (append-nil (items left)) ∙ ap (λ (ps : List Packet). items left ++ ps) (sym e) ∙ b.joined)
