-- What make leaves in a head (document 01, "State and calls").
use Rattle.std.specs.Prelude.{ℕ}
use Rattle.machine.specs.declared.Levels.{Levels}
use Rattle.control.specs.Control.{fresh_tuning, no_tuning}
use Rattle.model.specs.State.{no_last, no_counts}
use Rattle.gate.specs.declared.Head.{Head}

-- "A fresh state: live, last stamp as given to make, running time 0, ..", with nothing admitted, no load and
-- nothing counted; of its list, the length and the wait of level 0
abbrev pub fresh_head : (profile oldway : ℕ) → Levels → (stamp : ℕ) → Head
fresh_head profile oldway list stamp =
    record {
      clock = record { time = 0; stamp = stamp };
      last = no_last;
      counts = no_counts;
      tuning = fresh_tuning;
      profile = profile;
      oldway = oldway;
      live = 1;
      admissions = 0;
      loads = 0;
      levels = list.len;
      calm = list.wait;
    }

-- "all-zero, not live": "Make's refusal hands back the all-zero, not live state"
abbrev pub no_head : Head
no_head =
    record {
      clock = record { time = 0; stamp = 0 };
      last = no_last;
      counts = no_counts;
      tuning = no_tuning;
      profile = 0;
      oldway = 0;
      live = 0;
      admissions = 0;
      loads = 0;
      levels = 0;
      calm = 0;
    }
