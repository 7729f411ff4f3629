-- Number 4 for no probes, and none else.
use Rattle.rules.proofs.Tests.{tests}
use Rattle.records.proofs.writer.check_count.Goals as goal

pub returns-then-probes-eq0 : goal.returns-then-probes-eq0
returns-then-probes-eq0 c = search tests

pub returns : goal.returns
returns c = search tests
