-- One test after the other: the first that fails makes the rules false, and the last is what is left of them.
use mathlib.Core.Path.{sym, ◌∙◌}
use mathlib.Core.Bool.{and-true}
use Rattle.rules.proofs.Tests.{tests}
use Rattle.checks.proofs.is_within_limits.Goals as goal

pub returns-then-not-allows_ontime : goal.returns-then-not-allows_ontime
returns-then-not-allows_ontime c = search (tests, sym c.allows_ontime.ensures ∙ c.if-not-allows_ontime.true)

pub returns-then-not-lies_within : goal.returns-then-not-lies_within
returns-then-not-lies_within c =
    search (
      tests,
      sym c.allows_ontime.ensures ∙ c.if-not-allows_ontime.false,
      sym c.lies_within.ensures ∙ c.if-not-lies_within.true,
    )

pub returns : goal.returns
returns c =
    search (
      tests,
      and-true,
      sym c.allows_ontime.ensures ∙ c.if-not-allows_ontime.false,
      sym c.lies_within.ensures ∙ c.if-not-lies_within.false,
    )
