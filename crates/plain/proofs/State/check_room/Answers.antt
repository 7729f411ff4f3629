-- The two rows of the table, in their order.
use Rattle.std.proofs.Common.{sym, ◌∙◌, le-leb}
use Rattle.std.proofs.lemmas.Bool.{lt-leb}
use Rattle.rules.specs.Refusals.{first_of}
use Rattle.plain.proofs.State.check_room.Goals as goal

pub returns-then-refuses_full : goal.returns-then-refuses_full
unfolding first_of
returns-then-refuses_full c = sym (rw (sym c.refuses_full.ensures ∙ c.if-refuses_full.true))

pub returns-then-self-ge-MOST_OFFERS : goal.returns-then-self-ge-MOST_OFFERS
unfolding first_of
returns-then-self-ge-MOST_OFFERS c =
    sym (rw (sym c.refuses_full.ensures ∙ c.if-refuses_full.false, le-leb _ _ c.if-self-ge-MOST_OFFERS.true))

pub returns : goal.returns
unfolding first_of
returns c =
    sym (rw (sym c.refuses_full.ensures ∙ c.if-refuses_full.false, lt-leb _ _ c.if-self-ge-MOST_OFFERS.false))
