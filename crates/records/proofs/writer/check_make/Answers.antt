-- The tests come in the order of the table's rows, so what is returned is the number of the first that holds.
use native.Mathlib.Omega.{arith}
use borrow.Author.Tests.{le-leb, lt-leb, lt-ltb, le-ltb, eq-eqb, ne_eqb}
use Rattle.rules.specs.Refusals.{first_of}
use Rattle.records.proofs.writer.check_make.Goals as goal

pub returns-then-profile-gt-MOST_IN_BYTE : goal.returns-then-profile-gt-MOST_IN_BYTE
unfolding first_of
returns-then-profile-gt-MOST_IN_BYTE c = simp (le-leb 256 c.args.profile (omega arith))

pub returns-then-profile-eq-LISTED : goal.returns-then-profile-eq-LISTED
unfolding first_of
returns-then-profile-eq-LISTED c =
    let a = c.args in
    simp (lt-leb 256 a.profile (omega arith), eq-eqb a.profile 5 (omega arith))

pub returns-then-oldway-gt1 : goal.returns-then-oldway-gt1
unfolding first_of
returns-then-oldway-gt1 c =
    let a = c.args in
    simp (
      lt-leb 256 a.profile (omega arith),
      ne_eqb a.profile 5 (λ e. omega arith),
      lt-ltb 1 a.oldway (omega arith),
    )

pub returns : goal.returns
unfolding first_of
returns c =
    let a = c.args in
    simp (
      lt-leb 256 a.profile (omega arith),
      ne_eqb a.profile 5 (λ e. omega arith),
      le-ltb 1 a.oldway (omega arith),
    )
