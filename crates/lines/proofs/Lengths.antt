-- With 20 digits for any number a line has at most 29 bytes, and the last line has at most 5.
use Prim.Native.Nat.{ℕ, ◌+◌, ◌%◌, ◌≤◌}
use mathlib.Core.List.{List, ◌++◌}
use native.Mathlib.Omega.{arith}
use lib.Dec.{eqb}
use lib.ListN.{length, length-append}
use Rattle.rules.proofs.Cases.{on_cond}
use Rattle.model.specs.declared.Answer.{Answer}
use Rattle.model.specs.declared.Answer.TheVariants.{Ready, Taken, Sent, Idle, Closed, Refused}
use Rattle.records.specs.Records.{record_bytes}
use Rattle.lines.specs.Lines.{ascii, decimal, number_line, line_of, last_line}
use Rattle.lines.proofs.Decimal.{decimal-le}

numbered_le : (word : List ℕ) (n : ℕ) → length (number_line word n) ≤ length word + 22
numbered_le word n =
    omega (
      arith,
      decimal-le n,
      length-append (word ++ ascii " " ++ decimal n) (ascii "\n"),
      length-append (word ++ ascii " ") (decimal n),
      length-append word (ascii " "),
    )

pub line-le : (a : Answer) → length (line_of a) ≤ 29
unfolding line_of
line-le Ready = omega arith
line-le Taken = omega arith
line-le (Sent p) = omega (arith, numbered_le (ascii "SENT") p.id)
line-le Idle = omega arith
line-le (Closed left) = omega (arith, numbered_le (ascii "CLOSED") left)
line-le (Refused number) = omega (arith, numbered_le (ascii "REFUSED") number)

pub last_le : (bytes : ℕ) → length (last_line bytes) ≤ 5
unfolding last_line
last_le bytes =
    on_cond (λ (l : List ℕ). length l ≤ 5) (eqb (bytes % record_bytes) 0) (λ e. omega arith) (λ e. omega arith)
