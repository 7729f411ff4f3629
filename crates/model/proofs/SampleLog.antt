-- Document 01's sample log and its bench readings about calls, run on the definitions: each side computes to the other.
use Prim.Native.Nat.{ℕ, ◌-◌}
use mathlib.Core.Path.{◌≡◌, refl}
use mathlib.Core.List.{List, [], ◌∷◌, ◌++◌, map}
use Rattle.control.specs.Owed.{quiet}
use Rattle.machine.specs.Levels.{no_levels}
use Rattle.model.specs.declared.Offer.{Offer}
use Rattle.model.specs.declared.Answer.{Answer}
use Rattle.model.specs.declared.Answer.TheVariants.{Ready, Taken, Sent, Idle, Closed, Refused}
use Rattle.model.specs.Packets.{packet_of}
use Rattle.model.specs.Calls.{Call, count, offer, poll, Making, making_of}
use Rattle.model.specs.Gate.{make}
use Rattle.model.specs.Journal.{opened, journal_of}
use Rattle.model.specs.Claims.{view_after, events}
use Rattle.model.proofs.Computing.{of_runs}
use Rattle.model.proofs.Worked.{made, answers_of}

-- the records of the sample log
sample_make : Making
sample_make = making_of 2 0 no_levels 4294967000

seven : Offer
seven = record { id = 7; priority = 2; ontime = 400; lifetime = 1000000 }

eight : Offer
eight = record { id = 8; priority = 1; ontime = 400; lifetime = 60000 }

sample_calls : List Call
unfolding seven eight
sample_calls =
    offer 4294967100 seven
    ∷ offer 4294967100 eight
    ∷ poll 4294967200
    ∷ poll 704
    ∷ poll 49904
    ∷ poll 49903
    ∷ poll 49904
    ∷ []

-- READY, TAKEN, TAKEN, SENT 8, CLOSED 49600, CLOSED 400, REFUSED 2, CLOSED 400 (as W-202 of document 02 has it)
sample_make_lem : (make sample_make).answer ≡ Ready
unfolding sample_make of_runs
sample_make_lem = refl

sample_log_lem :
    answers_of (make sample_make).view sample_calls
    ≡ Taken ∷ Taken ∷ Sent (packet_of eight 100) ∷ Closed 49600 ∷ Closed 400 ∷ Refused 2 ∷ Closed 400 ∷ []
unfolding answers_of sample_make sample_calls
sample_log_lem = refl

-- and the journal's admissions
sample_admissions :
    (journal_of (opened 4294967000) (events (make sample_make).view sample_calls)).admissions
    ≡ record { at = 200; ontime = 400 } ∷ []
unfolding of_runs sample_make sample_calls
sample_admissions = refl

-- "Level 0, full load, profile 1: four samples to reach level 4"
level_after : List Call → ℕ
unfolding of_runs made
level_after cs = (view_after (made 1) cs).control.tuning.level

full : Call
full = count 0 1000 1000

four_samples :
    map level_after
    ((full ∷ full ∷ full ∷ []) ∷ (full ∷ full ∷ full ∷ full ∷ []) ∷ (full ∷ full ∷ full ∷ full ∷ full ∷ []) ∷ [])
    ≡ 3 ∷ 4 ∷ 4 ∷ []
unfolding level_after full
four_samples = refl

-- "Lifetime 60,000: live at age 59,999, gone at 60,000"
urgent : (id ontime lifetime : ℕ) → Offer
urgent id ontime lifetime = record { id = id; priority = 0; ontime = ontime; lifetime = lifetime }

ages : answers_of (made 1) (offer 0 (urgent 7 1000 60000) ∷ poll 59999 ∷ []) ≡ Taken ∷ Sent (packet_of (urgent 7 1000 60000) 0)
    ∷ []
unfolding answers_of made urgent
ages = refl

gone : answers_of (made 1) (offer 0 (urgent 7 1000 60000) ∷ poll 60000 ∷ []) ≡ Taken ∷ Idle ∷ []
unfolding answers_of made urgent
gone = refl

-- each profile's floor is the least that is true: a packet admitted, another offered, and a poll one µs earlier is CLOSED 1
closed_at : (profile ontime : ℕ) → List Call → List Answer
unfolding answers_of made urgent
closed_at profile ontime before =
    answers_of (view_after (made profile) (before ++ offer 0 (urgent 7 ontime 60000000) ∷ poll 0 ∷ []))
    (offer 0 (urgent 8 1 60000000) ∷ poll (quiet profile - 1) ∷ [])

loud : List Call
unfolding full
loud = full ∷ full ∷ full ∷ full ∷ []

floor_1_met : closed_at 1 1000 loud ≡ Taken ∷ Closed 1 ∷ []
unfolding closed_at loud
floor_1_met = refl

floor_2_met : closed_at 2 500 loud ≡ Taken ∷ Closed 1 ∷ []
unfolding closed_at loud
floor_2_met = refl

floor_3_met : closed_at 3 4000 [] ≡ Taken ∷ Closed 1 ∷ []
unfolding closed_at
floor_3_met = refl
