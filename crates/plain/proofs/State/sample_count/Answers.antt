-- Refused, or the clock moved and then what samples steer.
use Rattle.std.proofs.Common.{refl, sym, ◌∙◌, arith}
use Rattle.rules.proofs.Probes.{load_le}
use Rattle.model.specs.Calls.{count}
use Rattle.model.specs.Gate.{own_checks}
use Rattle.checks.proofs.Offering.{sample_taken}
use Rattle.plain.specs.Layout.{view_of, sound_state, call_on}
use Rattle.plain.proofs.Views.{engine, known}
use Rattle.plain.proofs.Doing.{advanced_laid, advanced_steerable, samples}
use Rattle.plain.proofs.Entry.{entered, given, refused_in_order, counted}
use Rattle.plain.proofs.State.sample_count.Goals as goal

pub returns-in-Err : goal.returns-in-Err
returns-in-Err c =
    let a = c.args in
    let call = count a.stamp a.busy a.probes in
    c.refused.ensures
    ∙ refused_in_order a.self call (own_checks (view_of a.self) call) _ c.in-Err.ensures.exact (λ n e some. e)

pub advance-requires : goal.advance-requires
advance-requires c =
    let a = c.args in
    let passes = c.in_default.ensures in
    given a.self a.stamp (passes.tight refl) (counted a.self a.busy a.probes a.stamp passes.exact).0

pub load-requires : goal.load-requires
load-requires c =
    let a = c.args in (counted a.self a.busy a.probes a.stamp c.in_default.ensures.exact).1

pub steer-requires : goal.steer-requires
steer-requires c =
    let a = c.args in
    let passes = c.in_default.ensures in
    let p = counted a.self a.busy a.probes a.stamp passes.exact in
    let k = known _ (given a.self a.stamp (passes.tight refl) p.0) in record {
      laid_out = advanced_laid a.self _ a.stamp c.advance.ensures;
      steerable = advanced_steerable a.self _ a.stamp c.advance.ensures k.groups.control;
      load_le_full_load = omega (arith, c.load.ensures, load_le a.busy a.probes p.1);
    }

pub returns : goal.returns
unfolding call_on sound_state
returns c =
    let a = c.args in
    let p = counted a.self a.busy a.probes a.stamp c.in_default.ensures.exact in
    sample_taken engine a.self a.stamp (entered a.self a.stamp (sym p.0)) a.busy a.probes c.steer.new.self p.1
    (samples a.self c.advance.new.self c.steer.new.self a.stamp a.busy a.probes _ c.advance.ensures c.load.ensures
    c.steer.ensures)
