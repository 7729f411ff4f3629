-- Sent, expired and displaced are taken from the accepted: where one is more than is left no sum is right, and at the end the
-- waiting are to be left.
use mathlib.Core.Path.{sym}
use native.Mathlib.Omega.{arith}
use Rattle.checks.proofs.Counting.{too_many, no_sum, what_is_left}
use Rattle.checks.proofs.are_counts_sound.Goals as goal

pub returns-then-c-gt-MOST_OFFERS : goal.returns-then-c-gt-MOST_OFFERS
returns-then-c-gt-MOST_OFFERS c = let a = c.args in sym (too_many a.waiting a.c c.if-c-gt-MOST_OFFERS.true)

pub returns-then-c : goal.returns-then-c
returns-then-c c =
    let a = c.args in sym (no_sum a.waiting a.c (λ z. omega (arith, c.if-c.true)))

pub returns-then-rest-c : goal.returns-then-rest-c
returns-then-rest-c c =
    let a = c.args in
    sym (no_sum a.waiting a.c (λ z. omega (arith, c.if-rest-c.true)))

pub returns-then-kept-c : goal.returns-then-kept-c
returns-then-kept-c c =
    let a = c.args in
    sym (no_sum a.waiting a.c (λ z. omega (arith, c.if-kept-c.true)))

pub returns : goal.returns
returns c =
    let a = c.args in
    what_is_left a.waiting a.c c.if-c-gt-MOST_OFFERS.false
    (omega (arith, c.if-c.false)) (omega (arith, c.if-rest-c.false)) (omega (arith, c.if-kept-c.false))
