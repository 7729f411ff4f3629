-- The two rows of the table, in their order.
use Rattle.rules.specs.Refusals.{first_of}
use Rattle.rules.proofs.Tests.{tests}
use Rattle.calllog.specs.Bursts.{burst_number}
use Rattle.calllog.proofs.check_burst.Goals as goal

pub returns-then-bytes-ne0 : goal.returns-then-bytes-ne0
unfolding burst_number first_of
returns-then-bytes-ne0 c = search tests

pub returns-then-room-bytes : goal.returns-then-room-bytes
unfolding burst_number first_of
returns-then-room-bytes c = search tests

pub returns : goal.returns
unfolding burst_number first_of
returns c = search tests
