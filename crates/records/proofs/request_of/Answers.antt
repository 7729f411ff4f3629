-- A request with its stamp is the call that a record of that kind asks.
use Rattle.std.proofs.Common.{ℕ, sym, ap, ◌∙◌, arith}
use Rattle.model.specs.declared.Offer.{Offer}
use Rattle.model.specs.Calls.{count, offer}
use Rattle.records.specs.Records.{calls}
use Rattle.records.proofs.Asking.{asks_count, asks_offer, asks_poll}
use Rattle.records.proofs.request_of.Goals as goal

pub returns-in-1 : goal.returns-in-1
returns-in-1 c =
    let rec = c.args.rec in
    asks_count rec c.in-1.is ∙ ap (λ (n : ℕ). calls (count rec.stamp rec.id n)) (sym c.probes_in.ensures)

pub returns-in-2 : goal.returns-in-2
returns-in-2 c =
    let rec = c.args.rec in
    asks_offer rec c.in-2.is ∙ ap (λ (o : Offer). calls (offer rec.stamp o)) (sym c.offer.ensures)

pub returns-in_default : goal.returns-in_default
returns-in_default c = asks_poll c.args.rec (omega (arith, c.requires))
