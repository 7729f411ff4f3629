-- The block's lines, and behind them the last line where the log ends.
use Prim.Native.Nat.{ℕ}
use mathlib.Core.Path.{◌≡◌, refl, ap, ◌∙◌, subst⁻¹}
use mathlib.Core.List.{List}
use native.Mathlib.Omega.{arith}
use borrow.Author.Tests.{le-leb, lt-leb}
use lib.ListN.{length}
use Rattle.io.proofs.Counting.{prefix_len_of_le}
use Rattle.gate.specs.declared.State.{State}
use Rattle.records.specs.Buffers.{Put}
use Rattle.records.proofs.Buffers.{next}
use Rattle.lines.proofs.Lengths.{last_le}
use Rattle.calllog.specs.Text.{records_done, block_room, turn_text}
use Rattle.calllog.proofs.Turns.{lines, no_last_lem, unread, ended, room_for_last, whole}
use Rattle.calllog.proofs.turn.Goals as goal
use Rattle.calllog.proofs.turn.Goals.{else-not-more-via-then-not-more+else-not-failed, else-not-more-via-else-not-more}

-- what the block did: the records of a block, and their lines
record Did (given : State) (input was out : List ℕ) (used end : ℕ) : Type 0 where
  room : length out ≡ block_room
  used_is : used ≡ records_done (length input) block_room
  put : Put was 0 (lines given input) end out

pub last_line-end-requires : goal.last_line-end-requires
last_line-end-requires c =
    let given = c.args.state.now in
    let did : Did given c.args.input.now c.args.out.now c.block-done.new.out c.block-done.result.used c.block-done.result.end =
    let n : length c.args.out.now ≡ block_room = omega arith in
    let e : c.block-done.result.used ≡ records_done (length c.args.input.now) block_room =
    c.block-done.ensures.used ∙ ap (records_done (length c.args.input.now)) n in
    record { room = omega (arith, n, c.block-done.auto); used_is = e; put = rw e at c.block-done.ensures.lines } in
    let ends : c.block-done.result.end ≡ length (lines given c.args.input.now) =
    omega (arith, did.put.place) in
    omega (arith, did.room, ends, room_for_last given c.args.input.now)

pub returns-then-not-failed : goal.returns-then-not-failed
returns-then-not-failed c =
    let given = c.args.state.now in
    let did : Did given c.args.input.now c.args.out.now c.block-done.new.out c.block-done.result.used c.block-done.result.end =
    let n : length c.args.out.now ≡ block_room = omega arith in
    let e : c.block-done.result.used ≡ records_done (length c.args.input.now) block_room =
    c.block-done.ensures.used ∙ ap (records_done (length c.args.input.now)) n in
    record { room = omega (arith, n, c.block-done.auto); used_is = e; put = rw e at c.block-done.ensures.lines } in
    let ends : c.block-done.result.end ≡ length (lines given c.args.input.now) =
    omega (arith, did.put.place) in
    let a = c.args in
    let d = did in
    let w = c.last_line-end in
    let p : Put a.out.now 0 (turn_text given a.input.now a.failed) w.result w.new.out =
    subst⁻¹ (λ (t : List ℕ). Put a.out.now 0 t w.result w.new.out)
    (ap (turn_text given a.input.now) (c.if-not-failed.true)
    ∙ ended given a.input.now (lt-leb _ _ c.if-not-more.true))
    (next (omega arith) d.put w.ensures) in
    let inside = prefix_len_of_le w.result w.new.out (omega (
      arith,
      w.auto,
      w.ensures.place,
      last_le (length a.input.now),
      d.room,
      ends,
      room_for_last given a.input.now,
    )) in record {
      used = d.used_is;
      state = c.block-done.ensures.state;
      text = p;
      more = refl;
      whole = λ h. rw d.used_is (whole (length a.input.now) h);
      within = inside;
    }

pub returns-else-not-more : goal.returns-else-not-more
returns-else-not-more c =
    let given = c.args.state.now in
    let did : Did given c.args.input.now c.args.out.now c.block-done.new.out c.block-done.result.used c.block-done.result.end =
    let n : length c.args.out.now ≡ block_room = omega arith in
    let e : c.block-done.result.used ≡ records_done (length c.args.input.now) block_room =
    c.block-done.ensures.used ∙ ap (records_done (length c.args.input.now)) n in
    record { room = omega (arith, n, c.block-done.auto); used_is = e; put = rw e at c.block-done.ensures.lines } in
    let a = c.args in
    let d = did in
    let w = c.block-done in
    let text :
    (turn_text given a.input.now a.failed ≡ lines given a.input.now)
    × (c.else-not-more.out ≡ w.new.out) =
    elim c.else-not-more.branch [
      | else-not-more-via-then-not-more+else-not-failed way ↦ (
        ap (turn_text given a.input.now) way.if-not-failed.false
            ∙ unread given a.input.now (lt-leb _ _ way.if-not-more.true),
        way.out-is,
      )
      | else-not-more-via-else-not-more way ↦ (
        no_last_lem given a.input.now a.failed (le-leb _ _ way.if-not-more.false),
        way.out-is,
      )
    ] in record {
      used = d.used_is;
      state = w.ensures.state;
      text = rw (text.0, text.1) d.put;
      more = refl;
      whole = λ h. rw d.used_is (whole (length a.input.now) h);
      within = rw text.1 w.ensures.within;
    }
