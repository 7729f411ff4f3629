-- What a receiver hears: each packet from its admission on for its on-time (docs/LABEL.md, "Admitted, and on
-- air").
use Rattle.std.specs.Prelude.{ℕ, ◌+◌, ◌-◌, ◌*◌, ◌≤◌, ◌≡◌, true, List, [], ◌∷◌}
use Rattle.control.specs.Owed.{spare, second, least_gap, claims_ceiling}
use Rattle.model.specs.declared.Admission.{Admission}
use Rattle.model.specs.Journal.{air_in}
use Rattle.model.specs.Claims.{All, most_in_second}
use Rattle.label.specs.Trailer.{Answers}
use Rattle.label.specs.Restarts.{Started, sent_in_all, Restarts}

-- how much of a packet is heard from a moment on and before another: its on-time, but for what comes before
-- the first and what comes from the second on
unfoldable pub heard : (from until : ℕ) → Admission → ℕ
heard from until a = a.ontime - (from - a.at) - (a.at + a.ontime - until)

-- of all of them
unfoldable pub on_air : (from until : ℕ) → List Admission → ℕ
on_air from until [] = 0
on_air from until (a ∷ l) = heard from until a + on_air from until l

-- of runs of any profiles, one after the other, each silent for a second first
pub record Heard (by : Answers) (ss : List Started) : Type 0 where
  -- what every stretch of a length admits at most, of 25 ms or longer, is on air in it at most
  pub as_admitted : (w most : ℕ) → least_gap ≤ w
      → ((from : ℕ) → air_in from (from + w) (sent_in_all by ss) ≤ most)
      → (from : ℕ) → on_air from (from + w) (sent_in_all by ss) ≤ most
  -- "in any second": 30 ms
  pub in_a_second : (from : ℕ) → on_air from (from + second) (sent_in_all by ss) ≤ most_in_second
  -- "in any n seconds": n x 30 ms
  pub in_seconds : (n from : ℕ) → on_air from (from + n * second) (sent_in_all by ss) ≤ n * most_in_second
  -- the ceiling, where all of them claim it
  pub ceiling : All (λ (s : Started). claims_ceiling s.run.making.profile ≡ true) ss
      → (from w : ℕ) → 100 * on_air from (from + w) (sent_in_all by ss) ≤ 3 * w + spare
  -- never two packets at once: no more is heard than the time that passes
  pub one_at_once : (from w : ℕ) → on_air from (from + w) (sent_in_all by ss) ≤ w

abbrev pub ReceiverHears : Answers → Type 0
ReceiverHears by = (ss : List Started) → Restarts by ss → Heard by ss
