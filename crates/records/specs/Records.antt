-- A record of the call log, and what it asks (document 01, "The call log and its program").
use Rattle.std.specs.Prelude.{ℕ, ◌+◌, ◌*◌, cond, List, [], eqb, leb, length, get_or}
use Rattle.rules.specs.Samples.{usual_probes}
use Rattle.machine.specs.Levels.{no_levels}
use Rattle.model.specs.Calls.{Call, count, offer, poll, Making, making_of}
use Rattle.model.specs.declared.Offer.{Offer}
use Rattle.records.specs.declared.Record.{Record}

-- "records of 16 bytes"
abbrev pub record_bytes : ℕ
record_bytes = 16

-- "little-endian": a byte of a log
abbrev pub byte_at : List ℕ → ℕ → ℕ
byte_at log at = get_or log at 0

-- two bytes, the low one first
unfoldable pub two_at : List ℕ → ℕ → ℕ
two_at log at = byte_at log at + 256 * byte_at log (at + 1)

-- four bytes, the low one first
unfoldable pub four_at : List ℕ → ℕ → ℕ
four_at log at =
    byte_at log at
    + 256 * byte_at log (at + 1)
    + 65536 * byte_at log (at + 2)
    + 16777216 * byte_at log (at + 3)

-- "kind (1), priority (1), on-time (2), lifetime (4), identifier (4), stamp (4)"
unfoldable pub record_at : List ℕ → ℕ → Record
record_at log at =
    record {
      kind = byte_at log at;
      priority = byte_at log (at + 1);
      ontime = two_at log (at + 2);
      lifetime = four_at log (at + 4);
      id = four_at log (at + 8);
      stamp = four_at log (at + 12);
    }

-- for any place: the record there, or one of zeros where the log ends before the last byte of one
unfoldable pub whole_record_at : List ℕ → ℕ → Record
whole_record_at log at = cond (leb (at + record_bytes) (length log)) (record_at log at) (record_at [] 0)

-- a make with its arguments, a call on the state, or nothing that the gate knows
pub data Asked : Type 0 where
  makes : Making → Asked
  calls : Call → Asked
  unknown : Asked

-- "The log can't carry such a list, so there .. profile 5 is refused with 1" (document 02, W-213): a record
-- that says 5 asks for profile 0, which no gate has
unfoldable pub profile_in : (priority : ℕ) → ℕ
profile_in priority = cond (eqb priority 5) 0 priority

-- "Kind 0 makes a state (priority field = profile)"; "kind 0 with lifetime field 1 asks for the old way, 0
-- for the new" (document 02, W-205); it "reads back with an empty" list (W-213)
abbrev pub making_in : Record → Making
making_in rec = making_of (profile_in rec.priority) rec.lifetime no_levels rec.stamp

-- "2 an offer"
abbrev pub offer_in : Record → Offer
offer_in rec =
    record { id = rec.id; priority = rec.priority; ontime = rec.ontime; lifetime = rec.lifetime }

-- "a sample's lifetime field is the probe count, where 0 still means 1,000" (document 02, W-208)
unfoldable pub probes_in : (lifetime : ℕ) → ℕ
probes_in lifetime = cond (eqb lifetime 0) usual_probes lifetime

-- "Kind 0 makes a state ..; 1 is a sample (identifier field = busy count); 2 an offer; 3 a poll."
unfoldable pub asked_by : Record → Asked
asked_by rec =
    cond (eqb rec.kind 0) (makes (making_in rec))
    (cond (eqb rec.kind 1) (calls (count rec.stamp rec.id (probes_in rec.lifetime)))
    (cond (eqb rec.kind 2) (calls (offer rec.stamp (offer_in rec)))
    (cond (eqb rec.kind 3) (calls (poll rec.stamp)) unknown)))
