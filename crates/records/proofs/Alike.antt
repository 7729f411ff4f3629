-- Two good samples by words with the same counts: the record goes by the counts alone.
use Prim.Native.Nat.{ℕ}
use mathlib.Core.Path.{◌≡◌, sym, ap, ap₂, ◌∙◌}
use mathlib.Core.Bool.{Bool, not}
use mathlib.Core.List.{◌∷◌}
use lib.ListN.{length}
use Rattle.rules.specs.Refusals.{check, first_of}
use Rattle.rules.specs.Samples.{good_words}
use Rattle.records.specs.declared.Record.{Record}
use Rattle.records.specs.Writing.{sample_record, record_of, argument_checks, place_checks, write_number, unless_refused}
use Rattle.records.specs.Writing.{log_after}
use Rattle.records.specs.Writing.{ShareRecord}

pub share_record : ShareRecord
unfolding record_of write_number argument_checks log_after
share_record log at stamp probes ws ws' same =
    let one : good_words probes ws ≡ good_words probes ws' = same.good ∙ sym same.good' in
    let fields = ap (λ (busy : ℕ). sample_record stamp busy probes) same.busy in
    let answer =
    ap (λ (g : Bool). first_of (check 4 (not g) ∷ place_checks (length log) at)) one in
    record {
      fields = fields;
      answer = answer;
      bytes = ap₂ (λ (n : ℕ) (rec : Record). unless_refused n log at rec) answer fields;
    }
