-- What is copied to the front is the words without the oldest, and as many zeros follow as there are places left.
use Rattle.std.proofs.Common.{ℕ, List, [], ◌≡◌, ◌∙◌, ◌≤◌, ◌+◌, ◌-◌, ◌++◌, length, take, drop, ap, refl, arith, eq-eqb, append-nil}
use Rattle.std.proofs.Math.ListN.{replicate}
use borrow.Author.Tests.{ne_eqb}
use Rattle.std.specs.List.{copy_within}
use Rattle.std.proofs.lemmas.List.Edits.{take-paste}
use Rattle.std.proofs.lemmas.List.{length-take, length-drop, drop_all}
use Rattle.std.proofs.lemmas.Slice.{between_is}
use Rattle.packing.specs.Packing.{filled}
use Rattle.ledger.specs.Layout.{without_oldest, in_places}
use Rattle.ledger.proofs.drop_oldest.Goals as goal

pub returns-then-k-eq0 : goal.returns-then-k-eq0
unfolding without_oldest
returns-then-k-eq0 c = rw (eq-eqb _ _ c.if-k-eq0.true)

copied : (n k : ℕ) (s : List ℕ) → n ≤ length s → take (n - k) (copy_within s k n 0) ≡ drop k (take n s)
copied n k s h =
    let front : n - k ≡ 0 + (n - k) = omega arith in
    ap (λ (m : ℕ). take m (copy_within s k n 0)) front
    ∙ take-paste s 0 (drop k s) (n - k) (omega arith) (omega (arith, length-drop k s)) ∙ between_is s k n

-- m places past the first n of s
zeroed : (n m : ℕ) (s zeros : List ℕ) → n ≤ 40 → length s ≡ 40 → m ≡ 40 - n
    → zeros ≡ replicate (length (take m (drop n s))) 0
    → take n s ++ (zeros ++ drop m (drop n s)) ≡ in_places (take n s)
unfolding filled
zeroed n m s zeros b l d e =
    let none : drop m (drop n s) ≡ [] = drop_all m (drop n s) (omega (arith, length-drop n s)) in
    let same : length (take m (drop n s)) ≡ 40 - length (take n s) =
    omega (arith, length-take m (drop n s), length-drop n s, length-take n s) in
    rw (none, e, same, append-nil)

pub returns : goal.returns
unfolding without_oldest
returns c =
    let bounds : (c.args.n ≤ 40) × (c.args.k ≤ c.args.n) = c.requires.n_bound (omega (arith, c.if-k-eq0.false)) in
    let kept : take (c.args.n - c.args.k) c.copy_within.new.self ≡ drop c.args.k (take c.args.n c.args.slots.now) =
    rw c.copy_within.ensures.after (copied c.args.n c.args.k c.args.slots.now (omega arith)) in
    rw (ne_eqb _ _ c.if-k-eq0.false)
    (zeroed (c.args.n - c.args.k) (40 - (c.args.n - c.args.k)) c.copy_within.new.self c.fill.new.self (omega arith)
    (omega (arith, c.copy_within.ensures.len)) refl (c.fill.ensures.after (λ y e. e))
    ∙ ap in_places kept)
