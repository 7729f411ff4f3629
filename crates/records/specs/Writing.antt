-- The writer: the record of a call, its 16 bytes, and a log after it (document 02, W-206; document 01,
-- "The call log and its program").
use Rattle.std.specs.Prelude.{ℕ, zero, suc, ◌+◌, ◌/◌, ◌%◌, ◌^◌, ◌≤◌, ◌<◌, ◌≡◌, Bool, true, not, cond, List}
use Rattle.std.specs.Prelude.{[], ◌∷◌, ◌++◌, eqb, leb, ltb, length, take, drop}
use Rattle.rules.specs.Refusals.{Check, check, first_of, NoneHolds, Exact}
use Rattle.rules.specs.Samples.{usual_probes, busy_of, good_words}
use Rattle.machine.specs.Levels.{no_levels}
use Rattle.model.specs.declared.Offer.{Offer}
use Rattle.model.specs.Calls.{Call, words, count, offer, poll, stamp_of, Making, making_of}
use Rattle.records.specs.declared.Record.{Record}
use Rattle.records.specs.Records.{record_bytes, byte_at, record_at, Asked, makes, calls, unknown, asked_by}
use Rattle.records.specs.Buffers.{written}

-- "little-endian": the lowest so many bytes of a number, the low one first
unfoldable pub little_endian : (width n : ℕ) → List ℕ
little_endian zero n = []
little_endian (suc width) n = n % 256 ∷ little_endian width (n / 256)

-- "kind (1), priority (1), on-time (2), lifetime (4), identifier (4), stamp (4)"
unfoldable pub bytes_of : Record → List ℕ
bytes_of rec =
    little_endian 1 rec.kind
    ++ little_endian 1 rec.priority
    ++ little_endian 2 rec.ontime
    ++ little_endian 4 rec.lifetime
    ++ little_endian 4 rec.id
    ++ little_endian 4 rec.stamp

-- "The writer writes 1,000 as 0" (document 02, W-208): the lifetime field for so many probes
unfoldable pub probes_field : (probes : ℕ) → ℕ
probes_field probes = cond (eqb probes usual_probes) 0 probes

-- "1 is a sample (identifier field = busy count)"; "a sample's lifetime field is the probe count" (W-208);
-- "ignored fields written as zero"
abbrev pub sample_record : (stamp busy probes : ℕ) → Record
sample_record stamp busy probes =
    record { kind = 1; priority = 0; ontime = 0; lifetime = probes_field probes; id = busy; stamp = stamp }

-- "2 an offer", which ignores no field
abbrev pub offer_record : (stamp : ℕ) → Offer → Record
offer_record stamp o =
    record {
      kind = 2;
      priority = o.priority;
      ontime = o.ontime;
      lifetime = o.lifetime;
      id = o.id;
      stamp = stamp;
    }

-- a record of a kind and a stamp, all else zero
abbrev pub blank_record : (kind stamp : ℕ) → Record
blank_record kind stamp =
    record { kind = kind; priority = 0; ontime = 0; lifetime = 0; id = 0; stamp = stamp }

-- the record of a call: "Kind 0 makes a state (priority field = profile)", "kind 0 with lifetime field 1 asks
-- for the old way, 0 for the new" (W-205), "written without its list" (W-213); "A sample by words is written
-- by its busy count"; "3 a poll". What no kind asks is never written, and its record is of a kind that asks
-- nothing
unfoldable pub record_of : Asked → Record
record_of (makes m) =
    record { kind = 0; priority = m.profile; ontime = 0; lifetime = m.oldway; id = 0; stamp = m.stamp }
record_of (calls (words stamp probes ws)) = sample_record stamp (busy_of ws probes) probes
record_of (calls (count stamp busy probes)) = sample_record stamp busy probes
record_of (calls (offer stamp o)) = offer_record stamp o
record_of (calls (poll stamp)) = blank_record 3 stamp
record_of unknown = blank_record 4 0

-- "an argument too wide for its field", which has so many bytes
abbrev pub too_wide : (bytes n : ℕ) → Bool
too_wide bytes n = leb (256 ^ bytes) n

-- 1: the profile; "in the writer profile 5 is refused with 1" (W-213), whose list no field has; and a
-- yes-or-no that is neither
abbrev pub make_widths : (profile oldway : ℕ) → List Check
make_widths profile oldway =
    check 1 (too_wide 1 profile) ∷ check 1 (eqb profile 5) ∷ check 1 (ltb 1 oldway) ∷ []

-- 4: a sample's busy count and probe count; the writer "refuses a probe count of 0 with 4" (W-208), which
-- would be read as 1,000
abbrev pub count_widths : (busy probes : ℕ) → List Check
count_widths busy probes =
    check 4 (too_wide 4 busy) ∷ check 4 (too_wide 4 probes) ∷ check 4 (eqb probes 0) ∷ []

-- 5, 6 and 7: an offer's priority, on-time and lifetime
abbrev pub offer_widths : Offer → List Check
offer_widths o =
    check 5 (too_wide 1 o.priority)
    ∷ check 6 (too_wide 2 o.ontime)
    ∷ check 7 (too_wide 4 o.lifetime)
    ∷ []

-- "A bad sample by words is refused with 4, and an argument too wide for its field with its own number,
-- lowest first"; what no kind asks gets 10, as its record does in a log
unfoldable pub argument_checks : Asked → List Check
argument_checks (makes m) = make_widths m.profile m.oldway
argument_checks (calls (words stamp probes ws)) = check 4 (not (good_words probes ws)) ∷ []
argument_checks (calls (count stamp busy probes)) = count_widths busy probes
argument_checks (calls (offer stamp o)) = offer_widths o
argument_checks (calls (poll stamp)) = []
argument_checks unknown = check 10 true ∷ []

-- "a place without 16 bytes with 12", in a log of so many bytes
abbrev pub place_checks : (bytes at : ℕ) → List Check
place_checks bytes at = check 12 (ltb bytes (at + record_bytes)) ∷ []

-- the whole table of a write: "after those, a place without 16 bytes"
abbrev pub write_checks : (log : List ℕ) (at : ℕ) → Asked → List Check
write_checks log at a = argument_checks a ++ place_checks (length log) at

-- the number that a write answers, 0 where nothing is refused
unfoldable pub write_number : (log : List ℕ) (at : ℕ) → Asked → ℕ
write_number log at a = first_of (write_checks log at a)

-- "A refusal writes nothing. Other bytes of the buffer keep what they had."
abbrev pub unless_refused : (number : ℕ) → (log : List ℕ) → (at : ℕ) → Record → List ℕ
unless_refused number log at rec = cond (eqb number 0) (written log at (bytes_of rec)) log

-- a log after a write at a place of it
unfoldable pub log_after : (log : List ℕ) (at : ℕ) → Asked → List ℕ
log_after log at a = unless_refused (write_number log at a) log at (record_of a)

-- a write answered with a number and left the log so
pub record Wrote (log : List ℕ) (at : ℕ) (a : Asked) (number : ℕ) (after : List ℕ) : Type 0 where
  pub answer : number ≡ write_number log at a
  pub bytes : after ≡ log_after log at a

-- "lowest first": a number is answered exactly if its row is the first that holds
abbrev pub WritesExactly : Type 0
WritesExactly = (log : List ℕ) (at : ℕ) (a : Asked) → Exact (write_checks log at a)

-- a stamp and an identifier have no refusal: they come as numbers of 32 bits, which fit their fields
abbrev pub In32 : ℕ → Type 0
In32 n = n < 256 ^ 4

-- an offer's identifier; the other calls have none
abbrev pub IdIn32 : Call → Type 0
IdIn32 (words stamp probes ws) = Unit {0}
IdIn32 (count stamp busy probes) = Unit {0}
IdIn32 (offer stamp o) = In32 o.id
IdIn32 (poll stamp) = Unit {0}

-- a call whose stamp and identifier are of 32 bits, as those of every call of the code are
abbrev pub Narrow : Asked → Type 0
Narrow (makes m) = In32 m.stamp
Narrow (calls c) = In32 (stamp_of c) × IdIn32 c
Narrow unknown = Unit {0}

-- "a sample by words as one by its count"
abbrev pub by_count : Call → Call
by_count (words stamp probes ws) = count stamp (busy_of ws probes) probes
by_count (count stamp busy probes) = count stamp busy probes
by_count (offer stamp o) = offer stamp o
by_count (poll stamp) = poll stamp

-- "another profile's make is written without its list and reads back with an empty one" (W-213)
abbrev pub unlisted : Making → Making
unlisted m = making_of m.profile m.oldway no_levels m.stamp

-- what a record carries of a call
abbrev pub carried : Asked → Asked
carried (makes m) = makes (unlisted m)
carried (calls c) = calls (by_count c)
carried unknown = unknown

-- "Reading what was written gives back the call, a sample by words as one by its count"
abbrev pub ReadsBack : Type 0
ReadsBack =
    (log : List ℕ) (at : ℕ) (a : Asked) → Narrow a → write_number log at a ≡ 0
    → asked_by (record_at (log_after log at a) at) ≡ carried a

-- a write behind what is written already, in a buffer with room for more
abbrev pub WritesBehind : Type 0
WritesBehind =
    (done room : List ℕ) (a : Asked) → NoneHolds (argument_checks a) → record_bytes ≤ length room
    → log_after (done ++ room) (length done) a ≡ done ++ bytes_of (record_of a) ++ drop record_bytes room

-- the log of calls written one behind the other
unfoldable pub log_of : List Asked → List ℕ
log_of [] = []
log_of (a ∷ more) = bytes_of (record_of a) ++ log_of more

-- calls none of which the writer refuses
unfoldable pub AllWritten : List Asked → Type 0
AllWritten [] = Unit {0}
AllWritten (a ∷ more) = Narrow a × NoneHolds (argument_checks a) × AllWritten more

-- "a record of kind 0 to 3 with ignored fields zero, and 0 or 1 as a kind 0's lifetime"; "a kind 0 record
-- that says 5 is outside W-206's way back" (W-213); of kind 1 "a record that says 1,000 reads alike and is
-- outside W-206's way back" (W-208)
pub record Plain (rec : Record) : Type 0 where
  pub known : rec.kind ≤ 3
  pub make : rec.kind ≡ 0
      → (rec.priority ≡ 5 → ⊥) × (rec.lifetime ≤ 1) × (rec.ontime ≡ 0) × (rec.id ≡ 0)
  pub sample : rec.kind ≡ 1 → (rec.priority ≡ 0) × (rec.ontime ≡ 0) × (rec.lifetime ≡ usual_probes → ⊥)
  pub poll : rec.kind ≡ 3 → (rec.priority ≡ 0) × (rec.ontime ≡ 0) × (rec.lifetime ≡ 0) × (rec.id ≡ 0)

-- a log of bytes
abbrev pub Bytes : List ℕ → Type 0
Bytes log = (k : ℕ) → byte_at log k < 256

-- the 16 bytes from a place on
abbrev pub sixteen_at : (log : List ℕ) (at : ℕ) → List ℕ
sixteen_at log at = take record_bytes (drop at log)

-- the record at a place of a log "reads and writes back to the same bytes", at a place of a buffer
pub record WritesBack (log : List ℕ) (at : ℕ) (buffer : List ℕ) (place : ℕ) : Type 0 where
  pub accepted : write_number buffer place (asked_by (record_at log at)) ≡ 0
  pub bytes : log_after buffer place (asked_by (record_at log at)) ≡ written buffer place (sixteen_at log at)

-- such a record does so at every place with room, and no other record at any place
pub record ThereAndBack (log : List ℕ) (at : ℕ) : Type 0 where
  pub back : Plain (record_at log at) → (buffer : List ℕ) (place : ℕ) → place + record_bytes ≤ length buffer
      → WritesBack log at buffer place
  pub only : (buffer : List ℕ) (place : ℕ) → WritesBack log at buffer place → Plain (record_at log at)

-- of every record in a log of bytes
abbrev pub BackExactly : Type 0
BackExactly = (log : List ℕ) (at : ℕ) → Bytes log → at + record_bytes ≤ length log → ThereAndBack log at

-- two samples by words, both good, with the same busy count; "W-206's statement about equal counts now needs
-- equal probe counts too" (W-208)
pub record Alike (probes : ℕ) (ws ws' : List ℕ) : Type 0 where
  pub good : good_words probes ws ≡ true
  pub good' : good_words probes ws' ≡ true
  pub busy : busy_of ws probes ≡ busy_of ws' probes

-- "two good ones with the same count and stamp share a record": what is answered and what is written
pub record Shared (log : List ℕ) (at : ℕ) (a b : Asked) : Type 0 where
  pub fields : record_of a ≡ record_of b
  pub answer : write_number log at a ≡ write_number log at b
  pub bytes : log_after log at a ≡ log_after log at b

-- at every place of every log, refused or not
abbrev pub ShareRecord : Type 0
ShareRecord =
    (log : List ℕ) (at stamp probes : ℕ) (ws ws' : List ℕ) → Alike probes ws ws'
    → Shared log at (calls (words stamp probes ws)) (calls (words stamp probes ws'))
