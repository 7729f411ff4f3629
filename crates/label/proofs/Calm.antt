-- The floor of a calm channel: no wait is longer than it, so that long after the newest admission the gate isn't closed; and a
-- packet that the second has room for goes. Where room is always there, the least waits between the admissions make it; else it
-- is there once all but so few of them are a second old.
use Prim.Native.Nat.{ℕ, suc, ◌+◌, ◌*◌, ◌≤◌, max}
use mathlib.Core.Path.{◌≡◌, ap, sym, subst}
use mathlib.Core.Bool.{true}
use mathlib.Core.List.{List, [], ◌∷◌}
use native.Mathlib.Nat.{suc-mul}
use native.Mathlib.Omega.{arith}
use lib.Dec.{eqb}
use Rattle.rules.specs.Profiles.{limits_of}
use Rattle.rules.specs.Wait.{start_of}
use Rattle.rules.proofs.Cases.{clash}
use Rattle.control.specs.Control.{sound_control}
use Rattle.control.proofs.Controls.{control_test}
use Rattle.control.proofs.Owed.{within_limits}
use Rattle.model.specs.declared.Admission.{Admission}
use Rattle.model.specs.State.{View}
use Rattle.model.specs.Journal.{last_second}
use Rattle.model.specs.Ledger.{air_of}
use Rattle.model.specs.Claims.{All, Newest, most_in_second}
use Rattle.model.proofs.Sound.{test_view}
use Rattle.label.specs.Trailer.{Run, view_at_end, by_model, journal}
use Rattle.label.specs.Calm.{Calm, ended, profile_of, floor_of, always_room, CalmFloors}
use Rattle.label.proofs.Rows.{Chain}
use Rattle.label.proofs.Restarts.{in_run}
use Rattle.label.proofs.Pace.{Waits, Allows, Paced, paced}
use Rattle.label.proofs.Shorter.{Shorter, run_shorter}
use Rattle.label.proofs.Room.{after, all_after, has_room, aged, few_young}
use Rattle.label.proofs.Steps.{OpensBy}
use Rattle.label.proofs.Opening.{WaitOver, opens, goes_with_room}
use Rattle.label.proofs.Rate.{newest_over}
use Rattle.label.proofs.Following.{calm_closes}

-- once the wait is over the newest has its gap
chain_over : (v : View) (now : ℕ) (l : List Admission) → sound_control v.control ≡ true → Newest v.last l
    → Paced v.control.profile l → WaitOver v now → Chain (Waits v.control.profile) (Allows v.control.profile) now l
unfolding start_of
chain_over v now [] s n c h = tt
chain_over v now (a ∷ l) s n c h =
    let least = (within_limits v.control v.last.ontime s).0 in
    let same : (limits_of v.control.profile).fromend * v.last.ontime ≡ (limits_of v.control.profile).fromend * a.ontime =
    ap (λ (d : ℕ). (limits_of v.control.profile).fromend * d) n.2 in
    (omega (arith, n.1, h n.0), c.0, c.1)

module _ {load samples ontime : ℕ} (c : Calm by_model load samples ontime) where
  abbrev r : Run
  r = ended c

  abbrev profile : ℕ
  profile = profile_of c

  abbrev admitted : List Admission
  admitted = (journal r).admissions

  short : Shorter ontime (journal r)
  short = run_shorter ontime r c.none_longer

  -- the newest is no longer than the on-time
  newest_short : (l : List Admission) → Newest (view_at_end r).last l → All (λ (a : Admission). a.ontime ≤ ontime) l
      → eqb (view_at_end r).last.admitted 1 ≡ true → (view_at_end r).last.ontime ≤ ontime
  newest_short [] n h e = clash (cc)
  newest_short (a ∷ l) n h e = omega (arith, n.2, h.0)

  over : (now : ℕ) → after (floor_of c) admitted ≤ now → WaitOver (view_at_end r) now
  over now h =
      newest_over (view_at_end r) (floor_of c) now admitted (in_run r).tied.newest
      (λ e. calm_closes c _ (newest_short admitted (in_run r).tied.newest short.admitted e)) h

  -- by the least waits
  roomy : always_room profile ontime ≡ true → (now : ℕ) → after (floor_of c) admitted ≤ now
      → ontime + air_of (last_second now admitted) ≤ most_in_second
  roomy room now h =
      let i = in_run r in
      let v = view_at_end r in
      let chain =
      chain_over v now admitted (control_test _ (test_view v i.sounds).control) i.tied.newest
      (subst (λ (p : ℕ). Paced p admitted) (sym i.same) (paced r)) (over now h) in
      has_room profile ontime now admitted (subst (λ (p : ℕ). Chain (Waits p) (Allows p) now admitted) i.same chain)
      short.admitted room

  pub opens_calmly : always_room profile ontime ≡ true → OpensBy (view_at_end r) (journal r) (after (floor_of c) admitted)
  opens_calmly room = opens ontime r short _ (λ now h. record { over = over now h; room = roomy room now h })

  -- by the second: k are of the last one at most
  pub opens_later : (k : ℕ) → suc k * ontime ≤ most_in_second
      → OpensBy (view_at_end r) (journal r) (max (after (floor_of c) admitted) (aged k admitted))
  opens_later k fits =
      opens ontime r short _
      (λ now h. record {
        over = over now (omega arith);
        room =
            omega (
              arith,
              suc-mul k ontime,
              few_young profile ontime now k admitted (paced r) short.admitted (omega arith),
            );
      })

pub calm_floors : CalmFloors by_model
calm_floors load samples ontime c =
    record {
      room_found = λ stamp room accepted some late.
          goes_with_room ontime (ended c) (short c) stamp some (over c _ (all_after (floor_of c) _ (admitted c) late)) room
          accepted;
      by_itself = λ room stamp accepted some late.
          (opens_calmly c room).sends stamp accepted some (all_after (floor_of c) _ (admitted c) late);
    }
