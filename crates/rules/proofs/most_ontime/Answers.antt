-- Each number is picked as the definition picks the limits, from the last test to the first.
use Rattle.std.proofs.Common.{◌≡◌, Bool, true, false, cond, refl}
use Rattle.rules.specs.declared.Limits.{Limits}
use Rattle.rules.specs.Profiles.{most_ontime}
use Rattle.rules.proofs.most_ontime.Goals as goal

-- the on-time of the limits that a test picks
of-picked : (b : Bool) (x y : Limits) → (cond b x y).ontime ≡ cond b x.ontime y.ontime
of-picked true x y = refl
of-picked false x y = refl

pub returns : goal.returns
unfolding most_ontime
returns c =
    simp (of-picked, c.pick.ensures, c.pick-from2.ensures, c.pick-from3.ensures, c.pick-from4.ensures)
