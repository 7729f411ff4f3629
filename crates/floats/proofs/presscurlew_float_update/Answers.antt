-- What is refused gets 14 and zeros; what isn't gets the two results of the sequence, of which the duty was held.
use Rattle.std.proofs.Common.{◌≡◌, refl, sym, ◌∙◌, ap, Bool, true, false, None, Some}
use Rattle.std.specs.Bool.{then_some}
use lib.Ieee.{Float, of_bits, round}
use Rattle.floats.specs.Update.{float_answer, is_duty}
use Rattle.floats.proofs.Limits.{duty_within}
use Rattle.floats.proofs.presscurlew_float_update.Goals as goal

given : (b : Bool) (x : Float × Float) (s d : Float) → Some (s, d) ≡ then_some b x → (b ≡ true) × (s ≡ x.0) × (d ≡ x.1)
given true x s d e = (refl, cc, cc)
given false x s d e = cc

refused : (b : Bool) (x : Float × Float) → None ≡ then_some b x → b ≡ false
refused true x e = cc
refused false x e = refl

pub returns-in-Some-clause-exact : goal.returns-in-Some-clause-exact
unfolding float_answer
returns-in-Some-clause-exact c = let g = given _ _ _ _ c.in-Some.ensures in simp (g.0, g.1, g.2)

pub returns-in-Some-clause-within : goal.returns-in-Some-clause-within
returns-in-Some-clause-within c =
    let g = given _ _ _ _ c.in-Some.ensures in record {
      within = λ e. ap (λ (x : Float). is_duty x) g.2 ∙ duty_within c.args.duty _;
    }

pub returns-in-None-clause-exact : goal.returns-in-None-clause-exact
unfolding float_answer of_bits round
returns-in-None-clause-exact c = let g = refused _ _ c.in-None.ensures in sym (simp g)
