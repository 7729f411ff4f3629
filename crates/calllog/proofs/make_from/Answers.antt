-- The gate's make, with the profile that the record asks for and no list.
use Rattle.std.proofs.Common.{ℕ, ap₂, ◌∙◌}
use Rattle.machine.specs.declared.Levels.{Levels}
use Rattle.model.specs.Calls.{making_of}
use Rattle.gate.specs.Layout.{make_state}
use Rattle.calllog.proofs.Soundness.{make_tells}
use Rattle.calllog.proofs.make_from.Goals as goal

pub returns : goal.returns
returns c =
    let rec = c.args.rec in
    let e = c.make_in-made.ensures
    ∙ ap₂ (λ (profile : ℕ) (list : Levels). make_state (making_of profile rec.lifetime list rec.stamp))
    c.profile_in-profile.ensures c.none-list.ensures in
    record { made = e; told = make_tells _ _ e }
