use Rattle.std.proofs.Common.{◌≡◌, ◌≤◌, ◌++◌, ◌∙◌, refl, ap, ap₂, length, add-one, arith}
use Rattle.io.proofs.Counting.{prefix_len_of_le}
use Rattle.gate.specs.declared.Outcome.{Outcome}
use Rattle.records.specs.Buffers.{Put}
use Rattle.records.proofs.Buffers.{next}
use Rattle.lines.specs.Lines.{line_of}
use Rattle.calllog.specs.Steps.{step_on}
use Rattle.calllog.specs.Text.{reached_from, lines_from}
use Rattle.calllog.proofs.Lengths.{lines_fit, done_input}
use Rattle.calllog.proofs.block.Goals as goal

pub loop-i-init : goal.loop-i-init
unfolding reached_from lines_from
loop-i-init c =
    record { state = refl; lines = record { place = refl; bytes = refl }; told = c.is_sound-sound.ensures }

pub overflow_mul-i : goal.overflow_mul-i
overflow_mul-i c =
    let a = c.args in
    omega (arith, c.loop-i-test.true, c.records_done-used.ensures, done_input (length a.input.now) (length a.out.now), c)

pub read_record-rec-requires : goal.read_record-rec-requires
read_record-rec-requires c =
    let a = c.args in
    omega (arith, c.loop-i-test.true, c.records_done-used.ensures, done_input (length a.input.now) (length a.out.now))

pub play-step-requires : goal.play-step-requires
play-step-requires c = c.loop-i.invariant.told

pub write_line-end-requires : goal.write_line-end-requires
write_line-end-requires c =
    let a = c.args in
    let l = c.loop-i in
    let given = a.state.now in
    let fit = lines_fit given a.input.now (length a.out.now) _ l.i l.end
    c.records_done-used.ensures (omega arith) l.invariant.lines.place in
    omega (arith, fit, c.loop-i-test.true)

pub loop-i-preserved : goal.loop-i-preserved
unfolding reached_from lines_from
loop-i-preserved c =
    let a = c.args in
    let l = c.loop-i in
    let t = c.play-step in
    let w = c.write_line-end in
    let given = a.state.now in
    let e = t.ensures.step ∙ ap₂ step_on l.invariant.state c.read_record-rec.ensures in
    let p : Put a.out.now 0 (lines_from given a.input.now l.i ++ line_of t.result.answer) w.result w.new.out =
    next (omega arith) l.invariant.lines w.ensures in
    record {
      state = rw add-one (ap (λ (x : Outcome). x.state) e);
      lines = rw add-one (rw (ap (λ (x : Outcome). x.answer) e) at p);
      told = t.ensures.told;
    }

pub returns : goal.returns
returns c =
    let a = c.args in
    let l = c.loop-i in
    let given = a.state.now in
    let used = c.records_done-used in
    let e : l.i ≡ used.result = omega (arith, c.loop-i-test.false) in
    let fit = lines_fit given a.input.now (length a.out.now) _ l.i l.end used.ensures (omega arith)
    l.invariant.lines.place in
    let room : l.end ≤ length l.out = omega (arith, fit) in
    record {
      used = used.ensures;
      state = rw e at l.invariant.state;
      lines = rw e at l.invariant.lines;
      within = prefix_len_of_le l.end l.out room;
    }
