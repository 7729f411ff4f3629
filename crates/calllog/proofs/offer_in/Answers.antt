-- A record of another kind than 2 does nothing; one of kind 2 is its offer, on an unsound state and on a sound one.
use Rattle.std.proofs.Common.{sym, ap, ◌∙◌}
use Rattle.model.specs.declared.Offer.{Offer}
use Rattle.model.specs.Calls.{offer}
use Rattle.gate.specs.Layout.{call_on}
use Rattle.gate.specs.Lent.{state_on}
use Rattle.calllog.proofs.Asking.{call_unsound}
use Rattle.calllog.proofs.Bursts.{offered_other, offered_call}
use Rattle.calllog.proofs.Soundness.{call_keeps}
use Rattle.calllog.proofs.offer_in.Goals as goal

pub returns-then-rec-ne-OFFER-clause-offered : goal.returns-then-rec-ne-OFFER-clause-offered
returns-then-rec-ne-OFFER-clause-offered c =
    rw c.from.ensures (sym (offered_other _ c.args.rec c.if-rec-ne-OFFER.true))

pub returns-then-not-sound-clause-offered : goal.returns-then-not-sound-clause-offered
returns-then-not-sound-clause-offered c =
    let refused = call_unsound _ _ (sym c.requires.told ∙ c.if-not-sound.true) in
    rw c.from-then-not-sound.ensures (sym refused) ∙ sym (offered_call _ c.args.rec c.if-rec-ne-OFFER.false)

pub step_sound-requires : goal.step_sound-requires
step_sound-requires c =
    record { roomy = c.requires.roomy; judged_sound = sym c.requires.told ∙ c.if-not-sound.false }

pub returns : goal.returns
returns c =
    let a = c.args in
    let known = c.if-not-sound.false in
    let t = c.step_sound.ensures in
    record {
      offered = t.done
          ∙ ap (λ (o : Offer). call_on (state_on a.gate.now) (offer a.rec.stamp o)) c.offer.ensures
          ∙ sym (offered_call _ a.rec c.if-rec-ne-OFFER.false);
      tested = record { roomy = t.roomy; told = known ∙ sym (call_keeps _ _ _ t.done (sym c.requires.told ∙ known)) };
      lent = t.lent;
    }
