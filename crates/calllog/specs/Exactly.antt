-- Which number refuses a burst, and which one each of its records gets: "exactly if" (document 02, W-204;
-- document 01, "Refusal numbers").
use Rattle.std.specs.Prelude.{ℕ, ◌*◌, ◌<◌, ◌≡◌, true, not, List, ◌∷◌, length, get_or}
use Rattle.rules.specs.Refusals.{Check, check, first_of, Exact}
use Rattle.gate.specs.declared.State.{State}
use Rattle.gate.specs.Runs.{checks_on}
use Rattle.records.specs.declared.Record.{Record}
use Rattle.records.specs.Records.{record_bytes, record_at}
use Rattle.calllog.specs.Bursts.{is_offer, offer_of, offered_to, burst_checks, is_accepted, records_in}
use Rattle.calllog.specs.Bursts.{burst_answers}

-- the table of a record on a state: "a record of another kind gets 10 and does nothing", and one of kind 2 is
-- judged as the single offer, so that an unsound state "shows only as 9 at each record of kind 2"
abbrev pub record_checks : State → Record → List Check
record_checks s rec = check 10 (not (is_offer rec)) ∷ checks_on s (offer_of rec)

-- the table of record k of a burst, on the state that those before it leave
abbrev pub checks_at : State → (records : List ℕ) → (k : ℕ) → List Check
checks_at s records k = record_checks (offered_to s records k) (record_at records (record_bytes * k))

pub record ExactBurst (s : State) (records answers : List ℕ) : Type 0 where
  -- 13 and 12 of the burst: its number is the first row that holds of the table of these lengths alone
  pub refused : Exact (burst_checks (length records) (length answers))
  -- "one byte a record: 0 for TAKEN, else the refusal number": the number of the first row that holds
  pub bytes : is_accepted records answers ≡ true → (k : ℕ) → k < records_in records
      → get_or (burst_answers s records answers) k 0 ≡ first_of (checks_at s records k)
  -- 10 before 9, and then as of the single offer
  pub exact : (k : ℕ) → Exact (checks_at s records k)

abbrev pub BurstsAreExact : Type 0
BurstsAreExact = (s : State) (records answers : List ℕ) → ExactBurst s records answers
