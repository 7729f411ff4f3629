-- A record of kind 2 is its offer, any other is refused with 10.
use Rattle.std.proofs.Common.{ap, sym, ◌∙◌, eq-eqb, ne_eqb}
use Rattle.model.specs.declared.Offer.{Offer}
use Rattle.model.specs.Calls.{offer}
use Rattle.plain.specs.Layout.{call_on}
use Rattle.plain.specs.Bursts.{offered_by}
use Rattle.plain.proofs.offered.Goals as goal

pub returns-then-rec-ne-OFFER : goal.returns-then-rec-ne-OFFER
unfolding offered_by
returns-then-rec-ne-OFFER c = c.refused.ensures ∙ sym (rw (ne_eqb _ _ c.if-rec-ne-OFFER.true))

pub returns : goal.returns
unfolding offered_by
returns c =
    c.offer-2.ensures
    ∙ ap (λ (o : Offer). call_on c.args.state (offer c.args.rec.stamp o)) c.offer.ensures
    ∙ sym (rw (eq-eqb _ _ c.if-rec-ne-OFFER.false))
