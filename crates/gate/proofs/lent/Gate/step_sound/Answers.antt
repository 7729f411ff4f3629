-- Refused, or its steps one after the other.
use mathlib.Core.Path.{ap, ◌∙◌}
use native.Mathlib.Omega.{arith}
use Rattle.rules.proofs.Probes.{load_le}
use Rattle.gate.specs.Layout.{outcome, Given}
use Rattle.gate.specs.Lent.{state_on}
use Rattle.gate.specs.Steps.{Settled}
use Rattle.gate.specs.declared.lent.Gate.{Gate}
use Rattle.gate.proofs.Views.{known}
use Rattle.gate.proofs.Judged.{settled}
use Rattle.rules.proofs.Refusals.{some_number}
use Rattle.gate.proofs.Entry.{refused, enters, called, good_count, is_polled}
use Rattle.gate.proofs.Moving.{advanceable, still_steerable, clearable}
use Rattle.gate.proofs.Sampling.{sample_taken}
use Rattle.gate.proofs.Offering.{joinable, offer_taken}
use Rattle.gate.proofs.Polling.{servable, poll_served}
use Rattle.gate.proofs.lent.Gate.step_sound.Goals as goal

-- what is known of the state that lies there
laid : (g : Gate) → Given (state_on g) → Settled (state_on g)
laid g h = settled (state_on g) h.roomy h.judged_sound

pub check-requires : goal.check-requires
check-requires c =
    let g = c.args.self.now in
    let k = known (state_on g) (laid g c.requires) in
    record { held = k.held; time_le_end_of_time = k.groups.time }

pub returns-in-Err-clause-done : goal.returns-in-Err-clause-done
returns-in-Err-clause-done c =
    let a = c.args in
    let given = state_on a.self.now in
    ap (outcome given) c.from.ensures
    ∙ refused given a.request a.stamp c.requires.judged_sound _ c.in-Err.ensures (some_number c.in-Err.refusal)

pub advance-requires : goal.advance-requires
advance-requires c = let g = c.args.self.now in advanceable (state_on g) (laid g c.requires)

pub load-requires : goal.load-requires
load-requires c =
    let a = c.args in
    let given = state_on a.self.now in
    good_count given a.stamp _ _
    (enters given a.request a.stamp c.requires.judged_sound _ c.in_default.ensures c.in-Count.is)

pub steer-requires : goal.steer-requires
steer-requires c =
    let a = c.args in
    let given = state_on a.self.now in
    let passed = enters given a.request a.stamp c.requires.judged_sound _ c.in_default.ensures c.in-Count.is in record {
      steerable = still_steerable given (laid a.self.now c.requires) a.stamp _ _ c.advance.ensures.done;
      load_le_full_load = omega (arith, c.load.ensures, load_le _ _ (good_count given a.stamp _ _ passed));
    }

pub returns-in-Count-clause-done : goal.returns-in-Count-clause-done
returns-in-Count-clause-done c =
    let a = c.args in
    let given = state_on a.self.now in
    let passed = enters given a.request a.stamp c.requires.judged_sound _ c.in_default.ensures c.in-Count.is in
    called given a.request a.stamp c.requires.judged_sound c.in-Count.is
    (sample_taken given _ _ _ _ a.stamp _ _ _ (laid a.self.now c.requires).tight c.advance.ensures.done
    c.steer.ensures.done c.load.ensures passed)

pub clear-requires : goal.clear-requires
clear-requires c =
    let a = c.args in
    clearable (state_on a.self.now) (laid a.self.now c.requires) a.stamp _ _ c.advance.ensures.done

pub join-requires : goal.join-requires
join-requires c =
    let a = c.args in
    let given = state_on a.self.now in
    let passed = enters given a.request a.stamp c.requires.judged_sound _ c.in_default.ensures c.in-Offered.is in
    joinable given a.stamp _ passed _ _ _ _ _ c.advance.ensures.done c.clear.ensures.done

pub returns-in-Offered-clause-done : goal.returns-in-Offered-clause-done
returns-in-Offered-clause-done c =
    let a = c.args in
    let given = state_on a.self.now in
    let passed = enters given a.request a.stamp c.requires.judged_sound _ c.in_default.ensures c.in-Offered.is in
    called given a.request a.stamp c.requires.judged_sound c.in-Offered.is
    (offer_taken given a.stamp _ passed _ _ _ _ _ c.advance.ensures.done c.clear.ensures.done _ _ _
    c.join.ensures.done)

pub serve-requires : goal.serve-requires
serve-requires c =
    let a = c.args in
    let given = state_on a.self.now in
    let polled = is_polled a.request c.in_default-request.not-Count c.in_default-request-2.not-Offered in
    let passed = enters given a.request a.stamp c.requires.judged_sound _ c.in_default.ensures polled in
    servable given a.stamp passed _ _ _ _ _ c.advance.ensures.done c.clear.ensures.done

pub returns-clause-done : goal.returns-clause-done
returns-clause-done c =
    let a = c.args in
    let given = state_on a.self.now in
    let polled = is_polled a.request c.in_default-request.not-Count c.in_default-request-2.not-Offered in
    let passed = enters given a.request a.stamp c.requires.judged_sound _ c.in_default.ensures polled in
    called given a.request a.stamp c.requires.judged_sound polled
    (poll_served given a.stamp passed _ _ _ _ _ c.advance.ensures.done c.clear.ensures.done _ _ _ _ _
    c.serve.ensures.done)

pub returns-in-Count-clause-roomy : goal.returns-in-Count-clause-roomy
returns-in-Count-clause-roomy c =
    let r = c.requires.roomy in record {
      queues = r.queues;
      air = c.advance.ensures.places;
      loads = c.steer.ensures.places;
      above = r.above;
      waits = r.waits;
    }

pub returns-in-Offered-clause-roomy : goal.returns-in-Offered-clause-roomy
returns-in-Offered-clause-roomy c =
    let r = c.requires.roomy in record {
      queues = c.join.ensures.places;
      air = c.advance.ensures.places;
      loads = r.loads;
      above = r.above;
      waits = r.waits;
    }

pub returns-clause-roomy : goal.returns-clause-roomy
returns-clause-roomy c =
    let r = c.requires.roomy in
    let served = c.serve.ensures.places in record {
      queues = served.0;
      air = served.1;
      loads = r.loads;
      above = r.above;
      waits = r.waits;
    }
