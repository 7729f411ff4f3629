use Prim.Native.Nat.{ℕ, suc, ◌+◌, ◌-◌, ◌%◌, ◌<◌}
use mathlib.Core.Path.{◌≡◌, refl, sym, ap, ap₂, ◌∙◌}
use mathlib.Core.List.{List, [], ◌∷◌, ◌++◌, append-nil}
use native.Mathlib.Nat.{add-zero}
use native.Mathlib.Omega.{arith}
use lib.ListN.{length, set, length-set}
use lib.Seq.{paste-zero}
use Rattle.io.specs.Digits.{last_digits}
use Rattle.records.specs.Buffers.{written}
use Rattle.records.proofs.Buffers.{before}
use Rattle.lines.proofs.Decimal.{next_digit}
use Rattle.lines.proofs.put_digits.Goals as goal

pub loop-i-init : goal.loop-i-init
loop-i-init c = (
  omega arith,
  refl,
  [],
  sym (append-nil (last_digits 10 c.args.k c.args.n)),
  paste-zero c.args.out.now (c.args.at + c.args.k) [],
)

pub loop-i-smaller : goal.loop-i-smaller
loop-i-smaller c = omega arith

pub loop-i-preserved : goal.loop-i-preserved
loop-i-preserved c =
    let l = c.loop-i in
    let j = l.i - 1 in
    let e : l.i ≡ suc j = omega arith in
    let out = c.args.out.now in
    let at = c.args.at in
    let digit = 48 + l.rest % 10 in
    let text = l.invariant.2 in
    let room : at + j < length out = omega arith in
    let place : at + l.i ≡ suc (at + j) = omega arith in (
      omega arith,
      length-set l.out (at + j) digit ∙ l.invariant.1,
      digit ∷ text,
      l.invariant.3 ∙ ap (λ (k : ℕ). last_digits 10 k l.rest ++ text) e ∙ next_digit j l.rest text,
      ap (λ (d : List ℕ). set d (at + j) digit) (l.invariant.4 ∙ ap (λ (k : ℕ). written out k text) place)
          ∙ before out (at + j) digit text room,
    )

pub shape_of-out : goal.shape_of-out
shape_of-out c = c.loop-i.invariant.1

pub returns : goal.returns
returns c =
    let l = c.loop-i in
    let e : l.i ≡ 0 = omega arith in
    let text = l.invariant.2 in
    let all : text ≡ last_digits 10 c.args.k c.args.n = sym (l.invariant.3 ∙ ap (λ (k : ℕ). last_digits 10 k l.rest ++ text) e) in
    l.invariant.4
    ∙ ap₂ (λ (k : ℕ) (t : List ℕ). written c.args.out.now k t)
    (ap (λ (k : ℕ). c.args.at + k) e ∙ add-zero c.args.at) all
