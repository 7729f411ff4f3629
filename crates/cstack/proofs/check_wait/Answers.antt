-- The checks come in the order of the table's rows, so what is returned is the number of the first that holds.
use Rattle.std.proofs.Common.{◌≡◌, arith, rules}
use Rattle.std.specs.Prelude.{Err}
use Rattle.std.proofs.lemmas.Bool.Decides.{nat_tests}
use Rattle.rules.specs.Refusals.{first_of}
use Rattle.cstack.proofs.Numbers.{numbered}
use Rattle.cstack.proofs.check_wait.Goals as goal

pub returns-in_err-check_profile : goal.returns-in_err-check_profile
unfolding first_of
returns-in_err-check_profile c =
    let e : c.from_residual.result ≡ Err c.in_err-check_profile.field-0.0 = search rules in
    rw e (grind (arith, nat_tests, numbered c.in_err-check_profile.field-0.0))

pub returns-in_err-check_level : goal.returns-in_err-check_level
unfolding first_of
returns-in_err-check_level c =
    let e : c.from_residual-in_err-check_level.result ≡ Err c.in_err-check_level.field-0.0 = search rules in
    rw e (grind (arith, nat_tests, numbered c.in_err-check_level.field-0.0))

pub returns-in_err-check_duty : goal.returns-in_err-check_duty
unfolding first_of
returns-in_err-check_duty c =
    let e : c.from_residual-in_err-check_duty.result ≡ Err c.in_err-check_duty.field-0.0 = search rules in
    rw e (grind (arith, nat_tests, numbered c.in_err-check_duty.field-0.0))

pub returns-in_err-check_load : goal.returns-in_err-check_load
unfolding first_of
returns-in_err-check_load c =
    let e : c.from_residual-in_err-check_load.result ≡ Err c.in_err-check_load.field-0.0 = search rules in
    rw e (grind (arith, nat_tests, numbered c.in_err-check_load.field-0.0))

pub returns : goal.returns
unfolding first_of
returns c = grind (arith, nat_tests)
