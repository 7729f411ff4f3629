-- One test after the other: the first that fails makes the rules false, and the last is what is left of them.
use Rattle.std.proofs.Common.{◌≡◌, ◌∙◌, ◌≤◌, ◌<◌, sym, true, arith}
use mathlib.Core.Bool.{and-true}
use Rattle.rules.specs.Profiles.{is_profile, duty_allowed}
use Rattle.rules.proofs.Tests.{tests}
use Rattle.control.specs.Control.{pairing_sound, latest_sound, top_of, tuning_sound}
use Rattle.control.proofs.is_tuning_sound.Goals as goal

pub returns-then-not-lies_within : goal.returns-then-not-lies_within
unfolding tuning_sound
returns-then-not-lies_within c = search (tests, sym c.lies_within.ensures ∙ c.if-not-lies_within.true)

pub returns-then-top_of-t : goal.returns-then-top_of-t
unfolding tuning_sound
returns-then-top_of-t c =
    let profile : is_profile c.args.profile ≡ true = sym c.lies_within.ensures ∙ c.if-not-lies_within.false in
    let failed : top_of c.args.profile c.args.listed < c.args.t.level = omega arith in
    search (tests, profile)

pub returns-then-not-lies_within-2 : goal.returns-then-not-lies_within-2
unfolding tuning_sound
returns-then-not-lies_within-2 c =
    let profile : is_profile c.args.profile ≡ true = sym c.lies_within.ensures ∙ c.if-not-lies_within.false in
    let level : c.args.t.level ≤ top_of c.args.profile c.args.listed = omega arith in
    search (tests, profile, sym c.lies_within-2.ensures ∙ c.if-not-lies_within-2.true)

pub returns-then-t-gt-FULL_LOAD : goal.returns-then-t-gt-FULL_LOAD
unfolding tuning_sound
returns-then-t-gt-FULL_LOAD c =
    let profile : is_profile c.args.profile ≡ true = sym c.lies_within.ensures ∙ c.if-not-lies_within.false in
    let duty : duty_allowed c.args.t.duty ≡ true = sym c.lies_within-2.ensures ∙ c.if-not-lies_within-2.false in
    let level : c.args.t.level ≤ top_of c.args.profile c.args.listed = omega arith in
    search (tests, profile, duty)

pub returns-then-t-gt-FULL_LOAD-2 : goal.returns-then-t-gt-FULL_LOAD-2
unfolding tuning_sound
returns-then-t-gt-FULL_LOAD-2 c =
    let profile : is_profile c.args.profile ≡ true = sym c.lies_within.ensures ∙ c.if-not-lies_within.false in
    let duty : duty_allowed c.args.t.duty ≡ true = sym c.lies_within-2.ensures ∙ c.if-not-lies_within-2.false in
    let level : c.args.t.level ≤ top_of c.args.profile c.args.listed = omega arith in
    search (tests, profile, duty)

pub returns-then-not-is_latest_sound : goal.returns-then-not-is_latest_sound
unfolding tuning_sound
returns-then-not-is_latest_sound c =
    let profile : is_profile c.args.profile ≡ true = sym c.lies_within.ensures ∙ c.if-not-lies_within.false in
    let duty : duty_allowed c.args.t.duty ≡ true = sym c.lies_within-2.ensures ∙ c.if-not-lies_within-2.false in
    let level : c.args.t.level ≤ top_of c.args.profile c.args.listed = omega arith in
    search (tests, profile, duty, sym c.is_latest_sound.ensures ∙ c.if-not-is_latest_sound.true)

pub returns-in-0 : goal.returns-in-0
unfolding tuning_sound pairing_sound
returns-in-0 c =
    let profile : is_profile c.args.profile ≡ true = sym c.lies_within.ensures ∙ c.if-not-lies_within.false in
    let duty : duty_allowed c.args.t.duty ≡ true = sym c.lies_within-2.ensures ∙ c.if-not-lies_within-2.false in
    let latest : latest_sound c.args.profile c.args.t.latest ≡ true =
    sym c.is_latest_sound.ensures ∙ c.if-not-is_latest_sound.false in
    let level : c.args.t.level ≤ top_of c.args.profile c.args.listed = omega arith in
    search (tests, and-true, profile, duty, latest, c.in-0.is)

pub returns-in-1 : goal.returns-in-1
unfolding tuning_sound pairing_sound
returns-in-1 c =
    let profile : is_profile c.args.profile ≡ true = sym c.lies_within.ensures ∙ c.if-not-lies_within.false in
    let duty : duty_allowed c.args.t.duty ≡ true = sym c.lies_within-2.ensures ∙ c.if-not-lies_within-2.false in
    let latest : latest_sound c.args.profile c.args.t.latest ≡ true =
    sym c.is_latest_sound.ensures ∙ c.if-not-is_latest_sound.false in
    let level : c.args.t.level ≤ top_of c.args.profile c.args.listed = omega arith in
    search (tests, and-true, profile, duty, latest, c.in-1.is)

pub returns-in_default : goal.returns-in_default
unfolding tuning_sound
returns-in_default c =
    let profile : is_profile c.args.profile ≡ true = sym c.lies_within.ensures ∙ c.if-not-lies_within.false in
    let duty : duty_allowed c.args.t.duty ≡ true = sym c.lies_within-2.ensures ∙ c.if-not-lies_within-2.false in
    let latest : latest_sound c.args.profile c.args.t.latest ≡ true =
    sym c.is_latest_sound.ensures ∙ c.if-not-is_latest_sound.false in
    let more : 1 < c.args.t.pairing = omega arith in
    let level : c.args.t.level ≤ top_of c.args.profile c.args.listed = omega arith in
    search (tests, profile, duty, latest)
