-- Where no bit is unused there is no word at the first unused bit, and nothing stands for 0; else the word there is read.
use Rattle.std.proofs.Common.{◌≡◌, ℕ, ◌*◌, ◌/◌, ◌%◌, ◌^◌, ◌≤◌, length, get_or, sym, refl, ap, ◌∙◌, arith, eq-eqb}
use native.Mathlib.Nat.{zero-div}
use lib.ListN.{get_or-eq_default}
use Rattle.rules.specs.Samples.{no_stray}
use Rattle.rules.proofs.has_no_stray.Goals as goal

pub returns-then-unused-lt1 : goal.returns-then-unused-lt1
unfolding no_stray
returns-then-unused-lt1 c =
    let a = c.args in
    let words = a.words.now in
    let filled : 64 * length words ≤ a.probes = omega arith in
    let none : get_or words (a.probes / 64) 0 ≡ 0 = get_or-eq_default words 0 {n = a.probes / 64} (omega arith) in
    let zero : get_or words (a.probes / 64) 0 / 2 ^ (a.probes % 64) ≡ 0 =
    ap (λ (w : ℕ). w / 2 ^ (a.probes % 64)) none ∙ zero-div (2 ^ (a.probes % 64)) in
    sym (eq-eqb _ _ zero)

pub returns : goal.returns
unfolding no_stray
returns c = refl
