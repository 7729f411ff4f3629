-- Each number is written at its place: the two rows are the head's numbers in order.
use native.Mathlib.Omega.{arith}
use Rattle.gate.proofs.Keeping.{kept}
use Rattle.gate.proofs.kept.keep.Goals as goal

pub returns : goal.returns
returns c = kept c.args.wide.now c.args.narrow.now c.args.h (omega arith) (omega arith)
