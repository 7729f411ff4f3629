-- Profile 3's and profile 4's wait where it is that profile; else a good profile is 1 or 2, and what is picked is its own level's
-- wait.
use mathlib.Core.Path.{◌≡◌, ◌∙◌}
use mathlib.Core.Bool.{cond}
use Prim.Native.Nat.{ℕ, ◌≤◌}
use native.Mathlib.Omega.{arith}
use lib.Dec.{leb, eqb}
use Rattle.rules.specs.Profiles.{by_profile}
use Rattle.rules.proofs.Cases.{split, within-true}
use Rattle.rules.proofs.Tests.{tested}
use Rattle.control.specs.Wait.{wait_with}
use Rattle.cstack.proofs.Judged.{wait_judged}
use Rattle.cstack.proofs.wait_of.Goals as goal

pub adaptive_wait-requires : goal.adaptive_wait-requires
adaptive_wait-requires c =
    let judged = wait_judged c.args.given c.requires in
    record {
      ontime_le_ontime = judged.ontime;
      leastduty_le_duty = judged.duty;
    }

pub returns-then-given-eq-ADAPTIVE : goal.returns-then-given-eq-ADAPTIVE
unfolding wait_with
returns-then-given-eq-ADAPTIVE c = simp (c.if-given-eq-ADAPTIVE.true, c.adaptive_wait.ensures)

pub harmonised_wait-requires : goal.harmonised_wait-requires
harmonised_wait-requires c =
    let judged = wait_judged c.args.given c.requires in
    (judged.ontime, judged.load)

pub returns-then-given-eq-HARMONISED : goal.returns-then-given-eq-HARMONISED
unfolding wait_with
returns-then-given-eq-HARMONISED c = simp (c.if-given-eq-HARMONISED.true, c.harmonised_wait.ensures)

picked : (profile one two three four five : ℕ) → 1 ≤ profile → profile ≤ 2
    → cond (eqb profile 1) one two ≡ by_profile profile one two three four five
picked profile one two three four five low high =
    split (leb profile 1)
    (λ u. let e : profile ≡ 1 = omega (tested, low) in simp e)
    (λ u. let e : profile ≡ 2 = omega (tested, high) in simp e)

pub returns : goal.returns
unfolding wait_with
returns c =
    let judged = wait_judged c.args.given c.requires in
    let good = within-true _ _ _ judged.profile in
    c.pick.ensures
    ∙ simp (c.wait-first.ensures, c.constants.ensures, c.wait-second.ensures, c.constants-2.ensures)
    (picked c.args.given.profile _ _ _ _ _ good.0 (omega
    (arith, good.1, c.if-given-eq-HARMONISED.false, c.if-given-eq-ADAPTIVE.false)))
