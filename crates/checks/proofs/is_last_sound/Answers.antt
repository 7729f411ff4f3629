-- One test after the other: the first that fails makes the rules false, and the last is what is left of them.
use mathlib.Core.Bool.{and-true}
use Rattle.rules.proofs.Tests.{tests}
use Rattle.checks.proofs.is_last_sound.Goals as goal

pub returns-then-l-gt1 : goal.returns-then-l-gt1
returns-then-l-gt1 c = search tests

pub returns-then-now-l : goal.returns-then-now-l
returns-then-now-l c = search tests

pub returns-then-l-eq1 : goal.returns-then-l-eq1
returns-then-l-eq1 c = search (tests, and-true, c.allows_ontime.ensures)

pub returns-then-l-ne0 : goal.returns-then-l-ne0
returns-then-l-ne0 c = search tests

pub returns : goal.returns
returns c = search (tests, and-true)
