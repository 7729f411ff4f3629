-- The record is the definition's, with the field that stands for the probes.
use Rattle.std.proofs.Common.{rules}
use Rattle.records.proofs.writer.sample_record.Goals as goal

pub returns : goal.returns
returns c = search (rules, c.probes_field.ensures)
