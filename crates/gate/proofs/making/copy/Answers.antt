-- The numbers are put in their place one by one.
use Rattle.std.proofs.Common.{ℕ, ◌≡◌, ◌+◌, ◌<◌, ◌∙◌, ◌++◌, List, refl, ap, take, drop, length, set, get_or, arith}
use Rattle.std.proofs.lemmas.List.Edits.{paste_more}
use native.Mathlib.Nat.{zero-add}
use Rattle.gate.proofs.making.copy.Goals as goal

pub loop-i-init : goal.loop-i-init
loop-i-init c = refl

pub loop-i-preserved : goal.loop-i-preserved
loop-i-preserved c =
    let row = c.args.row.now in
    let from = c.args.from.now in
    let i = c.loop-i.i in
    let room : 0 + i < length row = omega (arith, c.requires, c.loop-i-test.true) in
    let more = paste_more row 0 from i 0 room (omega (arith, c.requires, c.loop-i-test.true)) in
    ap (λ (d : List ℕ). set d i (get_or from i 0)) c.loop-i.invariant ∙ (rw (zero-add i, zero-add (i + 1)) at more)

pub returns : goal.returns
returns c =
    let all : c.loop-i.i ≡ c.args.n = omega (arith, c.loop-i-test.false, c.loop-i.auto.i-end) in
    c.loop-i.invariant ∙ ap (λ (n : ℕ). take n c.args.from.now ++ drop n c.args.row.now) all
