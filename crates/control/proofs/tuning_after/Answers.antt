-- A reactive profile steps its level; profile 4 notes the load; profile 5 takes the level that its loads move it to; profile 3
-- keeps the first sample of a pair and updates at the second.
use mathlib.Core.Path.{sym, ◌∙◌}
use borrow.Author.Tests.{eq-eqb, ne_eqb}
use Rattle.rules.proofs.Profiles.{duty_within}
use Rattle.control.specs.Control.{tuned}
use Rattle.control.proofs.tuning_after.Goals as goal

pub level_step-requires : goal.level_step-requires
level_step-requires c =
    c.requires.steerable.level (sym c.lies_within.ensures ∙ c.if-lies_within.true)

pub returns-then-lies_within : goal.returns-then-lies_within
unfolding tuned
returns-then-lies_within c =
    simp (
      sym c.lies_within.ensures ∙ c.if-lies_within.true,
      c.level_step.ensures,
      c.wanted-wanted.ensures,
      c.reactive_of-table.ensures,
    )

pub returns-then-profile-eq-HARMONISED : goal.returns-then-profile-eq-HARMONISED
unfolding tuned
returns-then-profile-eq-HARMONISED c =
    simp (sym c.lies_within.ensures ∙ c.if-lies_within.false, eq-eqb _ _ c.if-profile-eq-HARMONISED.true)

pub returns-then-profile-eq-LISTED : goal.returns-then-profile-eq-LISTED
unfolding tuned
returns-then-profile-eq-LISTED c =
    simp (
      sym c.lies_within.ensures ∙ c.if-lies_within.false,
      ne_eqb _ _ c.if-profile-eq-HARMONISED.false,
      eq-eqb _ _ c.if-profile-eq-LISTED.true,
    )

pub smooth-smoothed-requires : goal.smooth-smoothed-requires
smooth-smoothed-requires c =
    (c.requires.steerable.smoothed, (c.requires.steerable.kept, c.requires.load_le_full_load))

pub next_duty-requires : goal.next_duty-requires
next_duty-requires c =
    let d = duty_within c.args.t.duty c.requires.steerable.duty in
    (d.0, (d.1, c.smooth-smoothed.ensures.1))

pub returns-then-t-eq1 : goal.returns-then-t-eq1
unfolding tuned
returns-then-t-eq1 c =
    simp (
      sym c.lies_within.ensures ∙ c.if-lies_within.false,
      ne_eqb _ _ c.if-profile-eq-HARMONISED.false,
      ne_eqb _ _ c.if-profile-eq-LISTED.false,
      eq-eqb _ _ c.if-t-eq1.true,
      c.next_duty.ensures,
      c.smooth-smoothed.ensures.0,
    )

pub returns : goal.returns
unfolding tuned
returns c =
    simp (
      sym c.lies_within.ensures ∙ c.if-lies_within.false,
      ne_eqb _ _ c.if-profile-eq-HARMONISED.false,
      ne_eqb _ _ c.if-profile-eq-LISTED.false,
      ne_eqb _ _ c.if-t-eq1.false,
    )
