-- What a run of a log on literal bytes opens, by name.
use Rattle.rules.specs.Refusals.{first_of}
use Rattle.packing.specs.Packing.{filled, all_are, padded}
use Rattle.model.proofs.Computing.{of_runs}
use Rattle.waiting.specs.Layout as waiting
use Rattle.ledger.specs.Layout as ledger
use Rattle.gate.specs.Layout.{sound_state, call_on, make_state}
use Rattle.records.specs.Records.{two_at, four_at, record_at, probes_in, profile_in, asked_by}
use Rattle.lines.specs.Lines.{digits_in, decimal, line_of, last_line}
use Rattle.calllog.specs.Steps.{step_on}
use Rattle.calllog.specs.Bursts.{offered_by, answer_byte, offered_to, answers_to}
use Rattle.calllog.specs.Bursts.{burst_number, burst_state, burst_answers}
use Rattle.calllog.specs.Text.{reached_from, lines_from, output_from}

unfoldable pub of_states : Type 0
unfolding of_runs filled all_are padded waiting.triples waiting.words_of waiting.packed waiting.flat waiting.queues waiting.laid
    waiting.four_of waiting.rows_for waiting.tidy ledger.packed ledger.tidy sound_state call_on make_state
of_states = Unit {0}

unfoldable pub of_logs : Type 0
unfolding output_from reached_from lines_from line_of last_line decimal digits_in step_on asked_by probes_in profile_in record_at
    two_at
    four_at
of_logs = Unit {0}

unfoldable pub of_bursts : Type 0
unfolding first_of burst_number burst_state burst_answers offered_by answer_byte offered_to answers_to
of_bursts = Unit {0}
