-- A line and its list: `items` and `packed` undo each other, and a store behind the packets is one packet more, by the laws of
-- packing for twenty places. A tidy line with twenty places is packed, since its unused room is zero.
use Prim.Native.Nat.{◌≤◌, ◌<◌}
use mathlib.Core.Path.{◌≡◌, refl, ap, sym, ◌∙◌}
use mathlib.Core.Bool.{true}
use mathlib.Core.List.{List, [], ◌∷◌}
use native.Mathlib.Omega.{arith}
use lib.Dec.{leb}
use lib.ListN.{length, drop, length-append}
use lib.Seq.{length-take-le}
use borrow.Author.Tests.{leb-true, lt-ltb, le-ltb}
use Rattle.rules.proofs.Cases.{both}
use Rattle.packing.specs.Packing.{all_are, padded}
use Rattle.packing.proofs.Packing.{list_filled, set-filled, padded-filled, filled-padded}
use Rattle.model.specs.declared.Packet.{Packet}
use Rattle.model.specs.Packets.{no_packet, at_back}
use Rattle.checks.specs.Checks.{is_zero}
use Rattle.checks.proofs.Walk.{zero_is}
use Rattle.line.specs.declared.Line.{Line}
use Rattle.line.specs.Layout.{places, items, packed, Packed, pushed, tidy}

pub items-packed : (ps : List Packet) → items (packed ps) ≡ ps
unfolding packed
items-packed ps = list_filled places no_packet ps

pub packed-Packed : (ps : List Packet) → Packed (packed ps)
packed-Packed ps = rw (items-packed ps)

-- a line and its list have one length
pub packed-length : (l : Line) → Packed l → l.len ≡ length (items l)
unfolding packed
packed-length l h = ap (λ (x : Line). x.len) h

pub same_line : (l r : Line) → l.len ≡ r.len → l.packets ≡ r.packets → l ≡ r
same_line l r e f = λ i. record { len = e i; packets = f i }

-- one packet more, where a line holds nothing but its packets and has a free place
packed-pushed : (ps : List Packet) (p : Packet) → length ps < places → pushed p (packed ps) ≡ packed (at_back p ps)
unfolding packed pushed
packed-pushed ps p h =
    rw (lt-ltb (length ps) places h)
    (same_line _ _ (sym (length-append ps (p ∷ []))) (set-filled places no_packet ps p h))

pub pushes : (l : Line) (p : Packet) → Packed l → l.len < places → pushed p l ≡ packed (at_back p (items l))
pushes l p h k =
    ap (pushed p) h ∙ packed-pushed (items l) p (rw (packed-length l h) at k)

-- a full line stays as it is
pub full_stays : (l : Line) (p : Packet) → places ≤ l.len → pushed p l ≡ l
unfolding pushed
full_stays l p h = rw (le-ltb l.len places h)

-- a tidy line is packed, and a packed one as tidy as its list is short
pub tidy_len : (l : Line) → tidy l ≡ true → l.len ≤ places
unfolding padded
tidy_len l h = leb-true l.len places (both (leb l.len places) (all_are is_zero (drop l.len l.packets)) h).0

pub tidy-Packed : (l : Line) → length l.packets ≡ places → tidy l ≡ true → Packed l
unfolding packed
tidy-Packed l s h =
    let m = tidy_len l h in
    same_line _ _ (sym (length-take-le l.len l.packets (omega arith)))
    (padded-filled places no_packet is_zero zero_is l.len l.packets s h)

pub tidy-packed : (ps : List Packet) → length ps ≤ places → tidy (packed ps) ≡ true
unfolding packed
tidy-packed ps h = filled-padded places no_packet is_zero refl ps h
