-- The bound on turns is reached: profile 1 at its highest level, a packet of priority 2 that comes when one of priority 0 and one
-- of priority 2 wait, and one more of priority 0 while it waits. Three go, it waits still, and the fourth is it. Each side
-- computes to the other.
use Prim.Native.Nat.{ℕ, ◌≤◌}
use mathlib.Core.Path.{◌≡◌, refl, ap, sym}
use mathlib.Core.List.{[], ◌∷◌}
use mathlib.Core.Logic.{inl}
use native.Mathlib.Omega.{arith}
use lib.ListN.{length}
use Rattle.rules.proofs.Cases.{clash}
use Rattle.machine.specs.Levels.{no_levels}
use Rattle.model.specs.declared.Offer.{Offer}
use Rattle.model.specs.declared.Answer.TheVariants.{Sent}
use Rattle.model.specs.Calls.{count, offer, poll, making_of}
use Rattle.model.specs.Gate.{call}
use Rattle.model.specs.Claims.{view_after}
use Rattle.model.proofs.Computing.{of_runs}
use Rattle.label.specs.Trailer.{Run, view_at_end, by_model}
use Rattle.label.specs.Priorities.{Wait, WaitsStill, before, meanwhile, went, ServedSince, waited}
use Rattle.label.proofs.Example.{same_stamp}
use Rattle.label.proofs.Priorities.{in_its_turn, waits_at_most, waits_among_others}

-- an offer of the longest on-time
message : (id priority : ℕ) → Offer
message id priority = record { id = id; priority = priority; ontime = 1000; lifetime = 60000000 }

-- to the highest level, and two packets
two : Run
unfolding of_runs message
two =
    record {
      making = making_of 1 0 no_levels 0;
      calls =
          count 0 1000 1000
          ∷ count 0 1000 1000
          ∷ count 0 1000 1000
          ∷ count 0 1000 1000
          ∷ offer 0 (message 1 0)
          ∷ offer 0 (message 2 2)
          ∷ [];
      ready = refl;
    }

third : Wait by_model
unfolding of_runs message two
third =
    record {
      run = two;
      stamp = 0;
      packet = message 3 2;
      taken = refl;
      during = poll 0 ∷ offer 500000 (message 4 0) ∷ poll 1001000 ∷ poll 2002000 ∷ poll 3002999 ∷ [];
    }

its_turn : (before third ≡ 2) × (meanwhile third ≡ 1) × (went third ≡ 3)
unfolding of_runs message two third
its_turn = (refl, refl, refl)

waits_still : WaitsStill third
unfolding of_runs message two third
waits_still = inl refl

-- polled every 1,001,000 µs, with something waiting at each poll, one more of a lower number meanwhile, as at most every 5 s
served_since : ServedSince 1001000 third
unfolding of_runs message two third
served_since = (
  omega arith,
  λ t e u. rw (same_stamp 0 t e) (λ none. clash (sym (ap length none))),
  (
    omega arith,
    λ t e. clash (cc),
    (
      omega arith,
      λ t e u. rw (same_stamp 1001000 t e) (λ none. clash (sym (ap length none))),
      (
        omega arith,
        λ t e u. rw (same_stamp 2002000 t e) (λ none. clash (sym (ap length none))),
        (
          omega arith,
          λ t e u. rw (same_stamp 3002999 t e) (λ none. clash (sym (ap length none))),
          tt,
        ),
      ),
    ),
  ),
)

-- so the theorems say how long: for 3,002,999 µs so far
waited_so_far : (went third ≤ 3) × (waited third ≡ 3002999) × (waited third ≤ 8008000) × (waited third ≤ 13355570)
unfolding of_runs message two third
waited_so_far = (
  in_its_turn third waits_still,
  refl,
  waits_at_most 1001000 third served_since waits_still,
  waits_among_others 1001000 5000000 third served_since waits_still (omega arith) (omega arith),
)

-- and then it goes
goes : (call (view_after (view_at_end two) (offer 0 (message 3 2) ∷ third.during)) (poll 3003000)).answer
    ≡ Sent (record { id = 3; priority = 2; ontime = 1000; lifetime = 60000000; arrival = 0 })
unfolding of_runs message two third
goes = refl
