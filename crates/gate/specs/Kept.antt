-- Where a host keeps a gate's numbers: six of 64 bits and sixteen of 32, beside the rows that it lends.
use Rattle.std.specs.Prelude.{ℕ, List, get_or}
use Rattle.gate.specs.declared.Head.{Head}
use Rattle.gate.specs.declared.State.{State}
use Rattle.gate.specs.Layout.{state_with}

-- how many there are of each
abbrev pub wide_numbers : ℕ
wide_numbers = 6

abbrev pub narrow_numbers : ℕ
narrow_numbers = 16

-- a number of a row
abbrev pub number_at : List ℕ → ℕ → ℕ
number_at row i = get_or row i 0

-- the head that lies in the two rows
abbrev pub head_in : (wide narrow : List ℕ) → Head
head_in wide narrow =
    record {
      clock = record { time = number_at wide 0; stamp = number_at narrow 0 };
      last = record { at = number_at wide 1; ontime = number_at narrow 1; admitted = number_at narrow 2 };
      counts =
          record {
            accepted = number_at wide 2;
            sent = number_at wide 3;
            expired = number_at wide 4;
            displaced = number_at wide 5;
          };
      tuning =
          record {
            level = number_at narrow 3;
            duty = number_at narrow 4;
            smoothed = number_at narrow 5;
            kept = number_at narrow 6;
            pairing = number_at narrow 7;
            latest = number_at narrow 8;
          };
      profile = number_at narrow 11;
      oldway = number_at narrow 12;
      live = number_at narrow 13;
      admissions = number_at narrow 9;
      loads = number_at narrow 10;
      levels = number_at narrow 14;
      calm = number_at narrow 15;
    }

-- the state that a host lends: its numbers and its rows
abbrev pub state_in : (wide narrow queues came air loads above waits : List ℕ) → State
state_in wide narrow queues came air loads above waits =
    state_with (head_in wide narrow) queues came air loads above waits
