-- A make's record, one of an unknown kind, and one of a call, on an unsound state and on a sound one.
use Rattle.std.proofs.Common.{◌<◌, sym, ◌∙◌, arith}
use Rattle.calllog.proofs.Asking.{step_make, step_unknown, step_call, call_unsound}
use Rattle.calllog.proofs.Soundness.{call_keeps}
use Rattle.calllog.proofs.play.Goals as goal

pub returns-then-rec-eq-MAKE : goal.returns-then-rec-eq-MAKE
returns-then-rec-eq-MAKE c =
    let t = c.make_from in
    record { step = t.ensures.made ∙ sym (step_make _ _ c.if-rec-eq-MAKE.true); told = t.ensures.told }

pub returns-in_default : goal.returns-in_default
returns-in_default c =
    let unknown : 3 < c.args.rec.kind = omega (arith, c.in_default.ensures, c.if-rec-eq-MAKE.false) in
    record { step = rw c.from.ensures (sym (step_unknown _ c.args.rec unknown)); told = c.requires }

pub returns-then-not-sound : goal.returns-then-not-sound
returns-then-not-sound c =
    let refused = call_unsound _ _ (sym c.requires ∙ c.if-not-sound.true) in
    record {
      step = rw c.from-then-not-sound.ensures (sym refused) ∙ sym (step_call _ c.args.rec _ c.in-Some.ensures);
      told = c.requires;
    }

pub step_sound-requires : goal.step_sound-requires
step_sound-requires c = sym c.requires ∙ c.if-not-sound.false

pub returns : goal.returns
returns c =
    let known = c.if-not-sound.false in
    let done = c.step_sound.ensures in
    record {
      step = done ∙ sym (step_call _ c.args.rec _ c.in-Some.ensures);
      told = known ∙ sym (call_keeps _ _ _ done (sym c.requires ∙ known));
    }
