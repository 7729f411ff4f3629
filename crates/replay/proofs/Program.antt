-- A piece behind a log that was cut at a record makes a longer log.
use Prim.Native.Nat.{ℕ, ◌+◌, ◌/◌}
use mathlib.Core.Path.{◌≡◌, sym, ap, ◌∙◌}
use mathlib.Core.Bool.{Bool, true}
use mathlib.Core.List.{List, ◌++◌}
use native.Mathlib.Omega.{arith}
use lib.ListN.{length, length-append}
use Rattle.gate.specs.declared.State.{State}
use Rattle.records.specs.Records.{record_bytes}
use Rattle.calllog.specs.declared.Progress.{Progress}
use Rattle.calllog.specs.Steps.{at_start}
use Rattle.calllog.specs.Text.{reached_from}
use Rattle.calllog.proofs.Pieces.{state_past}
use Rattle.replay.specs.Program.{Turned, Reached}

-- one more turn
pub reached_on :
    {s s' : State} {more more' : Bool} {piece : List ℕ} {failed : Bool} {buffer after : List ℕ} {end : ℕ}
    → Reached s more → more ≡ true → Turned s piece failed buffer s' end more' after → Reached s' more'
reached_on {piece} h on t =
    let n = length h.log / record_bytes in
    let m = length piece / record_bytes in
    let cut = h.cut on in
    let k : length (h.log ++ piece) / record_bytes ≡ n + m = omega (arith, cut, length-append h.log piece) in
    record {
      log = h.log ++ piece;
      state =
          t.state
          ∙ ap (λ (x : State). reached_from x piece m) h.state
          ∙ sym (state_past at_start h.log piece n m cut)
          ∙ ap (reached_from at_start (h.log ++ piece)) (sym k);
      cut = λ e. omega (arith, cut, t.full e, length-append h.log piece);
    }
