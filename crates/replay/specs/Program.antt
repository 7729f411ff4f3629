-- The program's turns (document 01, "The call log and its program"). A turn plays the bytes that the reads
-- left in the block, from its first on, as many as they said that they put there: each once, in order, and
-- none is left out. The state at the end is that of some log: nothing is known of what a read brings.
--
-- What no contract of std says is no part of it: that a read puts there what comes next on standard input,
-- and answers 0 only at its end; and that a write puts the bytes that it is handed on standard output, once
-- and in order.
use Rattle.std.specs.Prelude.{ℕ, ◌*◌, ◌/◌, ◌≡◌, Bool, true, List, length}
use Rattle.gate.specs.declared.State.{State}
use Rattle.records.specs.Records.{record_bytes}
use Rattle.records.specs.Buffers.{Put}
use Rattle.calllog.specs.declared.Progress.{Progress}
use Rattle.calllog.specs.Steps.{at_start}
use Rattle.calllog.specs.Text.{reached_from, block_bytes, turn_text}

-- a piece is done on a state: all its whole records, and its text lies in the buffer, without a last line
-- where a read failed; the program goes on only behind a full block
pub record Turned (s : State) (piece : List ℕ) (failed : Bool) (buffer : List ℕ) (s' : State) (end : ℕ)
    (more : Bool) (after : List ℕ) : Type 0 where
  pub state : s' ≡ reached_from s piece (length piece / record_bytes)
  pub text : Put buffer 0 (turn_text s piece failed) end after
  pub full : more ≡ true → length piece ≡ block_bytes

-- a state is that of a log from its start, and a log that goes on is cut where a record ends
pub record Reached (s : State) (more : Bool) : Type 0 where
  pub log : List ℕ
  pub state : s ≡ reached_from at_start log (length log / record_bytes)
  pub cut : more ≡ true → length log ≡ record_bytes * (length log / record_bytes)

-- the program ends with such a state
abbrev pub Ended : State → Progress → Type 0
Ended s r = Reached s r.more
