-- Four queues that are sound one by one are sound as the model asks.
use Prim.Native.Nat.{ℕ, ◌≤◌, ◌<◌}
use mathlib.Core.Path.{◌≡◌, refl, ap, sym, ◌∙◌, subst, subst⁻¹}
use mathlib.Core.Bool.{Bool, true, false, ◌&&◌, and-false}
use mathlib.Core.List.{List, [], ◌∷◌}
use native.Mathlib.Omega.{arith}
use lib.ListN.{length, get_or, length-map, length-take}
use borrow.Author.Tests.{le-leb, eq-eqb}
use Rattle.std.specs.Bool.{MatchBool}
use Rattle.std.specs.List.{AllWithin, HoldsAt, range_with_len}
use Rattle.std.proofs.lemmas.List.Recursion.{and_is}
use Rattle.rules.specs.Tests.{all_of}
use Rattle.rules.specs.Profiles.{room, most_ontime, ontime_allowed}
use Rattle.model.specs.Packets.{in_order}
use Rattle.model.specs.Queues.{own_packet, queue_sound}
use Rattle.waiting.specs.declared.Cell.{Cell}
use Rattle.waiting.specs.Layout.{Rows, Sized, len_in, packet_in, cells, items, part, queues, own_packets, four_of}
use Rattle.waiting.specs.Layout.{cells_sound, tidy_queue, sound_queue, tidy, sound_queues}
use Rattle.waiting.proofs.Places.{length-cells}
use Rattle.waiting.proofs.Wholes.{by_four, part_sized, lent_rows, lent}

own_order : (profile now k since : ℕ) (cs : List Cell)
    → in_order (own_packet profile now k) since (own_packets k cs) ≡ cells_sound (most_ontime profile) now since cs
unfolding in_order cells_sound ontime_allowed
own_order profile now k since [] = refl
own_order profile now k since (c ∷ cs) = rw (eq-eqb k k refl, own_order profile now k c.arrival cs)

own_sound : (profile now k : ℕ) (r : Rows) → Sized 1 r
    → sound_queue (most_ontime profile) now r ≡ (tidy_queue r && queue_sound profile now k (own_packets k (items r)))
unfolding sound_queue queue_sound
own_sound profile now k r s =
    let short : length (own_packets k (items r)) ≤ room =
    omega (arith, length-map (items r) (λ (c : Cell). packet_in k c), length-take (len_in r) (cells r), length-cells r s) in
    rw (own_order profile now k 0 (items r), le-leb (length (own_packets k (items r))) room short)

abbrev verdicts : (most now : ℕ) → Rows → List Bool
verdicts most now r =
    sound_queue most now (part 0 r)
    ∷ sound_queue most now (part 1 r)
    ∷ sound_queue most now (part 2 r)
    ∷ sound_queue most now (part 3 r)
    ∷ []

paired : (a b c d e f g h : Bool)
    → (a && (b && (c && (d && true)))) && (e && (f && (g && (h && true))))
    ≡ ((a && e) && ((b && f) && ((c && g) && ((d && h) && true))))
paired true true true true e f g h = refl
paired false b c d e f g h = refl
paired true false c d e f g h = sym (and-false e)
paired true true false d e f g h = sym (simp and-false)
paired true true true false e f g h = sym (simp and-false)

module _ (profile now : ℕ) (r : Rows) (s : Sized 4 r) where
  abbrev rules_at : ℕ → Bool
  rules_at k = queue_sound profile now k (own_packets k (items (part k r)))

  judging_most : sound_queues profile now r ≡ all_of (verdicts (most_ontime profile) now r)
  unfolding sound_queues tidy queues four_of
  judging_most =
      rw (
        own_sound profile now 0 (part 0 r) (part_sized 0 r s (omega arith)),
        own_sound profile now 1 (part 1 r) (part_sized 1 r s (omega arith)),
        own_sound profile now 2 (part 2 r) (part_sized 2 r s (omega arith)),
        own_sound profile now 3 (part 3 r) (part_sized 3 r s (omega arith)),
      )
      (paired (tidy_queue (part 0 r)) (tidy_queue (part 1 r)) (tidy_queue (part 2 r)) (tidy_queue (part 3 r)) (rules_at 0)
      (rules_at 1)
      (rules_at 2) (rules_at 3))

  judging : (most : ℕ) → most ≡ most_ontime profile → sound_queues profile now r ≡ all_of (verdicts most now r)
  judging most e = subst⁻¹ (λ (m : ℕ). sound_queues profile now r ≡ all_of (verdicts m now r)) e judging_most

  -- the four judged one by one, as the code lends them
  module _ (most : ℕ) where
    abbrev lent_sound : ℕ → Bool
    lent_sound k = sound_queue most now (lent_rows k r)

    abbrev pub Each : Bool → Type 0
    Each u =
        MatchBool u (AllWithin (λ k. lent_sound k ≡ true) (range_with_len 0 4) 0 4)
        ((j : ℕ) × (j < 4) × HoldsAt (λ k. lent_sound k ≡ false) (range_with_len 0 4) j)

    verdict_at : (k : ℕ) → k < 4 → get_or (verdicts most now r) k true ≡ lent_sound k
    verdict_at k h =
        by_four (λ j. get_or (verdicts most now r) j true ≡ sound_queue most now (part j r)) refl refl refl refl k h
        ∙ ap (sound_queue most now) (sym (lent k r))

    place : (k : ℕ) → k < 4 → get_or (range_with_len 0 4) k 0 ≡ k
    place = by_four (λ k. get_or (range_with_len 0 4) k 0 ≡ k) refl refl refl refl

    good : (u : Bool) → Each u → u ≡ true → (k : ℕ) → k < 4 → get_or (verdicts most now r) k true ≡ true
    good true m e k h =
        verdict_at k h ∙ subst (λ (j : ℕ). lent_sound j ≡ true) (place k h) (m k 0 (omega arith) h)
    good false m e k h = cc

    bad : (u : Bool) → Each u → u ≡ false → (k : ℕ) × (k < 4) × (get_or (verdicts most now r) k true ≡ false)
    bad true m e = cc
    bad false m e =
        (m.0, m.1, verdict_at m.0 m.1 ∙ subst (λ (j : ℕ). lent_sound j ≡ false) (place m.0 m.1) (m.2 0))

    pub all_sound : most ≡ most_ontime profile → (u : Bool) → Each u → u ≡ sound_queues profile now r
    all_sound e u m =
        and_is all_of (λ b. b) refl (λ _ _. refl) (verdicts most now r) true u (good u m) (bad u m) ∙ sym (judging most e)
