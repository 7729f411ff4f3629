-- A second's silence is longer than any gap that the ceiling asks for, so runs with it between them are spaced as one run is. And
-- a half-open second has admissions of one of the runs alone.
use Prim.Native.Nat.{ℕ, ◌+◌, ◌-◌, ◌*◌, ◌≤◌}
use mathlib.Core.Path.{◌≡◌}
use mathlib.Core.Bool.{true}
use mathlib.Core.List.{List, [], ◌∷◌, map}
use native.Mathlib.Omega.{arith}
use Rattle.control.specs.Owed.{spare, second, claims_ceiling}
use Rattle.model.specs.declared.Admission.{Admission}
use Rattle.model.specs.Gate.{make}
use Rattle.model.specs.Journal.{opened, air_in}
use Rattle.model.specs.Claims.{All, most_in_second}
use Rattle.model.proofs.Window.{Spaced, SpacedSoFar, window}
use Rattle.model.proofs.Runs.{InRun, run_on, run_begins}
use Rattle.model.proofs.DeliveryLines.{all_more}
use Rattle.label.specs.Trailer.{Run, view_at_end, by_model, journal}
use Rattle.label.specs.Restarts.{Started, later, sent_in, sent_in_all, silence, Silent, Restarts, KeepsSecond}
use Rattle.label.specs.Restarts.{KeepsTheCeiling, RestartsKeep, WaitingRestarts}
use Rattle.label.proofs.Second.{second-of}
use Rattle.label.proofs.Windows.{moved, one_of_two}
use Rattle.label.proofs.Rows.{Chain, SoFar, row}

pub in_run : (r : Run) → InRun r.making (view_at_end r) (journal r)
in_run r = run_on r.making (make r.making).view (opened r.making.stamp) r.calls (run_begins r.making r.ready)

-- the ceiling's gaps: 3 % of the time to the next, and the spare for one by itself
abbrev Gap : Admission → ℕ → Type 0
Gap a next = 3 * a.at + 100 * a.ontime ≤ 3 * next

abbrev Fits : Admission → Type 0
Fits a = 100 * a.ontime ≤ spare

spaced_chain : (next : ℕ) (l : List Admission) → Spaced next l → Chain Gap Fits next l
spaced_chain next [] s = tt
spaced_chain next (a ∷ l) s = (s.0, s.1, spaced_chain a.at l s.2)

chain_spaced : (next : ℕ) (l : List Admission) → Chain Gap Fits next l → Spaced next l
chain_spaced next [] s = tt
chain_spaced next (a ∷ l) s = (s.0, s.1, chain_spaced a.at l s.2)

chained : (l : List Admission) → SpacedSoFar l → SoFar Gap Fits l
chained [] s = tt
chained (a ∷ l) s = (s.0, spaced_chain a.at l s.1)

spaced : (l : List Admission) → SoFar Gap Fits l → SpacedSoFar l
spaced [] s = tt
spaced (a ∷ l) s = (s.0, chain_spaced a.at l s.1)

ceiling_row : (ss : List Started) → Restarts by_model ss → All (λ (s : Started). claims_ceiling s.run.making.profile ≡ true) ss
    → KeepsTheCeiling (sent_in_all by_model ss)
ceiling_row ss r c from w =
    window from w (sent_in_all by_model ss)
    (spaced (sent_in_all by_model ss)
    (row Gap Fits (λ made a next h. omega arith) (λ made a h. h) (λ a next h s. omega arith) ss r
    (all_more _ _ ss
    (λ s e. chained (journal s.run).admissions ((in_run s.run).tied.spaced (rw (in_run s.run).same e))) c)))

second_row : (ss : List Started) → Restarts by_model ss → KeepsSecond (sent_in_all by_model ss)
unfolding sent_in_all air_in
second_row [] r from = omega arith
second_row (s ∷ ss) r from =
    one_of_two from most_in_second (sent_in by_model s) (sent_in_all by_model ss) r.0
    (omega (
      arith,
      moved s.made from (from + second) (from - s.made + second) (journal s.run).admissions (omega arith),
      second-of s.run (from - s.made),
    ))
    (second_row ss r.1 from)

pub restarts_keep : RestartsKeep by_model
restarts_keep ss r = record { in_any_second = second_row ss r; ceiling = ceiling_row ss r }

-- a host that waits first
silent : (made : ℕ) (l before : List Admission) → All (λ (a : Admission). a.at ≤ made) before
    → All (λ (a : Admission). silence ≤ a.at) l → Silent (map (later made) l) before
silent made [] before h k = tt
silent made (b ∷ l) before h k = (all_more _ _ before (λ a e. omega (arith, k.0)) h, silent made l before h k.1)

pub waiting_restarts : WaitingRestarts by_model
waiting_restarts [] h = tt
waiting_restarts (s ∷ ss) h =
    (silent s.made (journal s.run).admissions (sent_in_all by_model ss) h.0 h.1, waiting_restarts ss h.2)
