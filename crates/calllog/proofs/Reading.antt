-- The program answers a log of records as the gate answered the calls: the record of a call asks that call or one that the gate
-- answers alike, and a log is its records one by one.
use Prim.Native.Nat.{ℕ}
use mathlib.Core.Path.{◌≡◌, refl, sym, ap, ◌∙◌}
use mathlib.Core.List.{List, [], ◌∷◌, ◌++◌, append_assoc}
use borrow.Author.Tests.{eqb-false, not-false}
use Rattle.rules.specs.Refusals.{NoneHolds}
use Rattle.model.specs.Calls.{words, count, offer, poll}
use Rattle.gate.specs.declared.State.{State}
use Rattle.gate.specs.declared.Outcome.{Outcome}
use Rattle.records.specs.declared.Record.{Record}
use Rattle.records.specs.Records.{record_at, Asked, makes, calls, unknown, asked_by}
use Rattle.records.specs.Writing.{bytes_of, record_of, argument_checks, log_after, carried, log_of, AllWritten}
use Rattle.records.proofs.Reading.{length_record, read_bytes, none-held, fits, asks, read_after}
use Rattle.lines.specs.Lines.{ascii, line, line_of, last_line}
use Rattle.calllog.specs.Steps.{answered, step_on}
use Rattle.calllog.specs.Text.{reached_from, lines_from, output_from}
use Rattle.calllog.specs.Writing.{PlaysBack, answer_lines, LogPlaysBack}
use Rattle.calllog.proofs.Pieces.{pieces}
use Rattle.calllog.proofs.Alike.{count_for_words, lists_left_out}

same_answer : (s : State) (a : Asked) → NoneHolds (argument_checks a) → answered s (carried a) ≡ answered s a
unfolding argument_checks
same_answer s (makes m) h = sym ((lists_left_out m).made (eqb-false m.profile 5 h.1.0))
same_answer s (calls (words stamp probes ws)) h = count_for_words s stamp probes ws (not-false _ h.0)
same_answer s (calls (count stamp busy probes)) h = refl
same_answer s (calls (offer stamp o)) h = refl
same_answer s (calls (poll stamp)) h = refl
same_answer s unknown h = refl

-- so a record that was written is answered as its call
step_same : (s : State) (a : Asked) (rec : Record) → rec ≡ record_of a → NoneHolds (argument_checks a) → step_on s rec
    ≡ answered s a
unfolding step_on
step_same s a rec e h = ap (λ (r : Record). answered s (asked_by r)) e ∙ ap (answered s) (asks a h) ∙ same_answer s a h

pub plays_back : PlaysBack
plays_back s log at a n z =
    step_same s a (record_at (log_after log at a) at) (read_after log at a n z) (none-held log at a z)

-- record by record, each in a piece of its own
pub log_plays_back : LogPlaysBack
unfolding log_of AllWritten answer_lines output_from reached_from lines_from last_line
log_plays_back s [] h = refl
log_plays_back s (a ∷ more) h =
    let bytes = bytes_of (record_of a) in
    let step : step_on s (record_at bytes 0) ≡ answered s a =
    step_same s a (record_at bytes 0) (read_bytes (record_of a) (fits a h.0 h.1)) h.1 in
    pieces s bytes (log_of more) 1 (length_record (record_of a))
    ∙ ap (λ (o : Outcome). line_of o.answer ++ output_from o.state (log_of more)) step
    ∙ ap (λ (l : List ℕ). line_of (answered s a).answer ++ l) (log_plays_back (answered s a).state more h.2)
    ∙ sym (append_assoc (line_of (answered s a).answer) (answer_lines (answered s a).state more) (line (ascii "END")))
