-- A turn writes its records' lines and then nothing or the last line, so turns over full blocks write what their log does.
use Prim.Native.Nat.{ℕ, ◌+◌, ◌/◌, ◌≤◌}
use mathlib.Core.Path.{◌≡◌, refl, sym, ap, ap₂, ◌∙◌}
use mathlib.Core.Bool.{Bool, true, false}
use mathlib.Core.List.{List, [], ◌∷◌, ◌++◌, append-nil}
use native.Mathlib.Omega.{arith}
use borrow.Author.Tests.{leb-true, lt-leb}
use lib.Dec.{leb}
use lib.ListN.{length}
use Rattle.gate.specs.declared.State.{State}
use Rattle.records.specs.Records.{record_bytes}
use Rattle.lines.specs.Lines.{last_line}
use Rattle.calllog.specs.Text.{reached_from, lines_from, output_from, records_done}
use Rattle.calllog.specs.Text.{block, block_bytes, block_room, goes_on, turn_text, Whole}
use Rattle.calllog.specs.Text.{turns, one_log, AllFull, TurnsAreTheProgram}
use Rattle.calllog.proofs.Lengths.{lines_le}
use Rattle.calllog.proofs.Pieces.{pieces}

-- how many records a block does of a piece that it holds
pub held : (bytes : ℕ) → bytes ≤ block_bytes → records_done bytes block_room ≡ bytes / record_bytes
unfolding records_done
held bytes h = omega arith

-- the lines of a turn's records
abbrev pub lines : State → List ℕ → List ℕ
lines s piece = lines_from s piece (records_done (length piece) block_room)

pub no_last_lem : (s : State) (piece : List ℕ) (failed : Bool) → goes_on piece ≡ true → turn_text s piece failed ≡ lines s piece
unfolding turn_text
no_last_lem s piece failed e = rw e (append-nil (lines s piece))

pub unread : (s : State) (piece : List ℕ) → goes_on piece ≡ false → turn_text s piece true ≡ lines s piece
unfolding turn_text
unread s piece e = rw e (append-nil (lines s piece))

pub ended :
    (s : State) (piece : List ℕ) → goes_on piece ≡ false → turn_text s piece false ≡ lines s piece ++ last_line (length piece)
unfolding turn_text
ended s piece e = rw e refl

-- the last line has room behind the others
pub room_for_last : (s : State) (piece : List ℕ) → length (lines s piece) + 5 ≤ block_room
unfolding records_done
room_for_last s piece = omega (arith, lines_le s piece (records_done (length piece) block_room))

pub whole : (bytes : ℕ) → bytes ≤ block_bytes → Whole bytes (records_done bytes block_room) (leb block_bytes bytes)
whole bytes h =
    record {
      done = held bytes h;
      left_over = omega (arith, held bytes h);
      cut_at_record = λ e. omega (arith, held bytes h, leb-true block_bytes bytes e);
    }

full : (piece : List ℕ) → length piece ≡ block_bytes → records_done (length piece) block_room ≡ block
full piece e = ap (λ (n : ℕ). records_done n block_room) e ∙ held block_bytes (omega arith)

pub turns_are_the_program : TurnsAreTheProgram
unfolding turns one_log AllFull output_from
turns_are_the_program s [] last f h =
    ended s last (lt-leb _ _ h)
    ∙ ap (λ (n : ℕ). lines_from s last n ++ last_line (length last)) (held (length last) (omega arith))
turns_are_the_program s (piece ∷ rest) last f h =
    ap₂ (λ (x y : List ℕ). x ++ y)
    (no_last_lem s piece false (ap (leb block_bytes) f.0) ∙ ap (lines_from s piece) (full piece f.0))
    (turns_are_the_program (reached_from s piece block) rest last f.1 h)
    ∙ sym (pieces s piece (one_log rest last) block (omega (arith, f.0)))
