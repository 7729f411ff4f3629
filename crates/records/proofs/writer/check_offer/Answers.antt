-- The tests come in the order of the table's rows, so what is returned is the number of the first that holds. A lifetime of 32
-- bits is not too wide.
use native.Mathlib.Omega.{arith}
use borrow.Author.Tests.{le-leb, lt-leb}
use Rattle.rules.specs.Refusals.{first_of}
use Rattle.records.proofs.writer.check_offer.Goals as goal

pub returns-then-o-gt-MOST_IN_BYTE : goal.returns-then-o-gt-MOST_IN_BYTE
unfolding first_of
returns-then-o-gt-MOST_IN_BYTE c = simp (le-leb 256 c.args.o.priority (omega arith))

pub returns-then-o-gt-MOST_IN_TWO : goal.returns-then-o-gt-MOST_IN_TWO
unfolding first_of
returns-then-o-gt-MOST_IN_TWO c =
    let o = c.args.o in
    simp (lt-leb 256 o.priority (omega arith), le-leb 65536 o.ontime (omega arith))

pub returns : goal.returns
unfolding first_of
returns c =
    let o = c.args.o in
    simp (
      lt-leb 256 o.priority (omega arith),
      lt-leb 65536 o.ontime (omega arith),
      lt-leb 4294967296 o.lifetime (omega arith),
    )
