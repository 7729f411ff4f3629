-- The first free place gets the packet, where there is one.
use Rattle.std.proofs.Common.{sym, refl, lt-ltb}
use Rattle.line.specs.Layout.{pushed}
use Rattle.line.proofs.Packing.{full_stays}
use Rattle.line.proofs.keep.Goals as goal

pub returns-then-l-lt-PLACES : goal.returns-then-l-lt-PLACES
unfolding pushed
returns-then-l-lt-PLACES c = rw (lt-ltb _ _ c.if-l-lt-PLACES.true) refl

pub returns-else-l-lt-PLACES : goal.returns-else-l-lt-PLACES
returns-else-l-lt-PLACES c = sym (full_stays _ _ c.if-l-lt-PLACES.false)
