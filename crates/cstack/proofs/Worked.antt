-- Worked examples of what documents 01 and 02 say of the four calls from a C stack. Each side computes to the other, so a
-- definition that reads a sentence otherwise fails here.
use Prim.Native.Nat.{ℕ}
use mathlib.Core.Path.{◌≡◌, refl}
use mathlib.Core.List.{List, [], ◌∷◌, ◌++◌, map}
use lib.ListN.{replicate}
use Rattle.rules.specs.Profiles.{within, profiles, reactive_of, most_ontime, ontime_allowed}
use Rattle.rules.specs.Refusals.{Check, first_of}
use Rattle.rules.specs.Levels.{wanted_by, towards, wait_by}
use Rattle.rules.specs.Duty.{smoothed_of, offset_of, duty_of}
use Rattle.rules.specs.Wait.{adaptive_wait}
use Rattle.rules.specs.Harmonised.{per_mille, factor_of, harmonised_wait}
use Rattle.control.specs.Wait.{wait_with}
use Rattle.cstack.specs.declared.LevelAnswer.{LevelAnswer}
use Rattle.cstack.specs.declared.DutyAnswer.{DutyAnswer}
use Rattle.cstack.specs.declared.WaitAnswer.{WaitAnswer}
use Rattle.cstack.specs.Tables.{UpdateArguments, WaitArguments, wanted_checks, step_checks, update_checks, wait_checks}
use Rattle.cstack.specs.Answers.{wanted_answer, step_answer, update_answer, wait_answer}

-- "1 profile, 4 load, 6 on-time, 9 level or duty out of range, in the order 1, 9, 4, 6": whatever the arguments

numbers : List Check → List ℕ
numbers checks = map (λ (c : Check). c.number) checks

order_of_wanted_level : (profile load : ℕ) → numbers (wanted_checks profile load) ≡ 1 ∷ 4 ∷ []
unfolding numbers
order_of_wanted_level profile load = refl

order_of_level_step : (profile load level : ℕ) → numbers (step_checks profile load level) ≡ 1 ∷ 9 ∷ 4 ∷ []
unfolding numbers
order_of_level_step profile load level = refl

order_of_duty_update : (a : UpdateArguments) → numbers (update_checks a) ≡ 9 ∷ 4 ∷ 4 ∷ 4 ∷ []
unfolding numbers
order_of_duty_update a = refl

order_of_wait : (a : WaitArguments) → numbers (wait_checks a) ≡ 1 ∷ 9 ∷ 9 ∷ 4 ∷ 6 ∷ []
unfolding numbers
order_of_wait a = refl

-- The wanted level and one level step: a level, or a refusal, whose "other numbers are 0".
unfoldable of_levels : Type 0
unfolding within reactive_of first_of wanted_by towards wanted_answer step_answer
of_levels = Unit {0}

abbrev level : ℕ → LevelAnswer
level n = record { refusal = 0; level = n }

abbrev refused : ℕ → LevelAnswer
refused n = record { refusal = n; level = 0 }

-- "The wanted level takes a profile, 1 or 2, and a load"

wanted_profiles :
    map (λ (p : ℕ). wanted_answer p 620000) (0 ∷ profiles ++ 6 ∷ [])
    ≡ refused 1 ∷ level 4 ∷ level 3 ∷ refused 1 ∷ refused 1 ∷ refused 1 ∷ refused 1 ∷ []
unfolding of_levels
wanted_profiles = refl

wanted_loads :
    map (wanted_answer 1) (0 ∷ 299999 ∷ 300000 ∷ 400000 ∷ 500000 ∷ 600001 ∷ 1000000 ∷ 1000001 ∷ [])
    ≡ level 0 ∷ level 0 ∷ level 1 ∷ level 2 ∷ level 3 ∷ level 4 ∷ level 4 ∷ refused 4 ∷ []
unfolding of_levels
wanted_loads = refl

-- "the step takes those and the level"

step_profiles :
    map (λ (p : ℕ). step_answer p 620000 3) (0 ∷ profiles ++ 6 ∷ [])
    ≡ refused 1 ∷ level 4 ∷ level 3 ∷ refused 1 ∷ refused 1 ∷ refused 1 ∷ refused 1 ∷ []
unfolding of_levels
step_profiles = refl

step_loads :
    map (λ (load : ℕ). step_answer 1 load 2) (0 ∷ 399999 ∷ 400000 ∷ 499999 ∷ 500000 ∷ 1000000 ∷ 1000001 ∷ [])
    ≡ level 1 ∷ level 1 ∷ level 2 ∷ level 2 ∷ level 3 ∷ level 3 ∷ refused 4 ∷ []
unfolding of_levels
step_loads = refl

step_levels :
    map (step_answer 1 400000) (0 ∷ 1 ∷ 2 ∷ 3 ∷ 4 ∷ 5 ∷ [])
    ≡ level 1 ∷ level 2 ∷ level 2 ∷ level 2 ∷ level 3 ∷ refused 9 ∷ []
unfolding of_levels
step_levels = refl

-- where several are bad
first_of_several :
    wanted_answer 3 1000001 ∷ step_answer 3 1000001 5 ∷ step_answer 2 1000001 5 ∷ step_answer 2 1000001 4 ∷ []
    ≡ refused 1 ∷ refused 1 ∷ refused 9 ∷ refused 4 ∷ []
unfolding of_levels
first_of_several = refl

-- "the duty update takes duty, smoothed, kept and new and gives smoothed' and duty'"

update : (duty smoothed kept new : ℕ) → DutyAnswer
unfolding within first_of smoothed_of offset_of duty_of update_answer
update duty smoothed kept new = update_answer (record { duty = duty; smoothed = smoothed; kept = kept; new = new })

abbrev gives : (smoothed duty : ℕ) → DutyAnswer
gives smoothed duty = record { refusal = 0; smoothed = smoothed; duty = duty }

abbrev no_update : ℕ → DutyAnswer
no_update n = record { refusal = n; smoothed = 0; duty = 0 }

updates :
    update 10000000 100000 400000 800000
    ∷ update 600000 0 400000 400000
    ∷ update 10000000 900000 1000000 700003
    ∷ update 10000000 1000000 1000000 1000000
    ∷ []
    ≡ gives 350000 10236000 ∷ gives 200000 1090400 ∷ gives 875000 9606000 ∷ gives 1000000 9590000 ∷ []
unfolding update
updates = refl

update_duties :
    map (λ (duty : ℕ). update duty 680000 680000 680000) (599999 ∷ 600000 ∷ 30000000 ∷ 30000001 ∷ [])
    ≡ no_update 9 ∷ gives 680000 600000 ∷ gives 680000 29520000 ∷ no_update 9 ∷ []
unfolding update
update_duties = refl

update_loads :
    update 600000 1000001 0 0 ∷ update 600000 0 1000001 0 ∷ update 600000 0 0 1000001 ∷ update 599999 0 0 1000001 ∷ []
    ≡ no_update 4 ∷ no_update 4 ∷ no_update 4 ∷ no_update 9 ∷ []
unfolding update
update_loads = refl

-- "the wait takes profile, level, duty and last on-time, all judged, used or not"; "the C wait takes the latest load as its last
-- number" (W-209)

wait : (profile level duty ontime load : ℕ) → WaitAnswer
unfolding within most_ontime ontime_allowed first_of wait_by adaptive_wait per_mille factor_of harmonised_wait wait_with
    wait_answer
wait profile level duty ontime load =
    wait_answer (record { profile = profile; level = level; duty = duty; ontime = ontime; load = load })

abbrev waits : ℕ → WaitAnswer
waits n = record { refusal = 0; wait = n }

abbrev no_wait : ℕ → WaitAnswer
no_wait n = record { refusal = n; wait = 0 }

-- "in the C wait a profile outside 1 to 4 now gets number 1" (W-209)
wait_profiles :
    map (λ (p : ℕ). wait p 0 600000 400 700000) (0 ∷ profiles ++ 6 ∷ [])
    ≡ no_wait 1 ∷ waits 100000 ∷ waits 50000 ∷ waits 666667 ∷ waits 182800 ∷ no_wait 1 ∷ no_wait 1 ∷ []
unfolding wait
wait_profiles = refl

wait_levels :
    map (λ (p : ℕ). map (λ (n : ℕ). wait p n 30000000 400 0) (0 ∷ 1 ∷ 2 ∷ 3 ∷ 4 ∷ 5 ∷ [])) profiles
    ≡ (waits 100000 ∷ waits 200000 ∷ waits 400000 ∷ waits 500000 ∷ waits 1000000 ∷ no_wait 9 ∷ [])
    ∷ (waits 50000 ∷ waits 100000 ∷ waits 200000 ∷ waits 250000 ∷ waits 1000000 ∷ no_wait 9 ∷ [])
    ∷ (waits 25000 ∷ waits 25000 ∷ waits 25000 ∷ waits 25000 ∷ waits 25000 ∷ no_wait 9 ∷ [])
    ∷ (waits 25000 ∷ waits 25000 ∷ waits 25000 ∷ waits 25000 ∷ waits 25000 ∷ no_wait 9 ∷ [])
    ∷ replicate 6 (no_wait 1)
    ∷ []
unfolding wait
wait_levels = refl

wait_duties :
    map (λ (p : ℕ). map (λ (duty : ℕ). wait p 1 duty 500 700000) (599999 ∷ 600000 ∷ 30000000 ∷ 30000001 ∷ []))
    profiles
    ≡ (no_wait 9 ∷ waits 200000 ∷ waits 200000 ∷ no_wait 9 ∷ [])
    ∷ (no_wait 9 ∷ waits 100000 ∷ waits 100000 ∷ no_wait 9 ∷ [])
    ∷ (no_wait 9 ∷ waits 833334 ∷ waits 25000 ∷ no_wait 9 ∷ [])
    ∷ (no_wait 9 ∷ waits 228500 ∷ waits 228500 ∷ no_wait 9 ∷ [])
    ∷ replicate 4 (no_wait 1)
    ∷ []
unfolding wait
wait_duties = refl

-- "4 load", in every profile
wait_loads :
    map (λ (p : ℕ). map (wait p 0 30000000 400) (0 ∷ 620000 ∷ 620001 ∷ 700000 ∷ 1000000 ∷ 1000001 ∷ [])) profiles
    ≡ (waits 100000 ∷ waits 100000 ∷ waits 100000 ∷ waits 100000 ∷ waits 100000 ∷ no_wait 4 ∷ [])
    ∷ (waits 50000 ∷ waits 50000 ∷ waits 50000 ∷ waits 50000 ∷ waits 50000 ∷ no_wait 4 ∷ [])
    ∷ (waits 25000 ∷ waits 25000 ∷ waits 25000 ∷ waits 25000 ∷ waits 25000 ∷ no_wait 4 ∷ [])
    ∷ (waits 25000 ∷ waits 25000 ∷ waits 25000 ∷ waits 182800 ∷ waits 607600 ∷ no_wait 4 ∷ [])
    ∷ replicate 6 (no_wait 1)
    ∷ []
unfolding wait
wait_loads = refl

-- "6 on-time": by the profile; a last on-time of 0 is not allowed
wait_on_times :
    map (λ (ontime : ℕ). wait 1 3 30000000 ontime 0) (0 ∷ 1 ∷ 1000 ∷ 1001 ∷ [])
    ++ map (λ (ontime : ℕ). wait 2 3 30000000 ontime 0) (0 ∷ 1 ∷ 500 ∷ 501 ∷ [])
    ++ map (λ (ontime : ℕ). wait 3 3 30000000 ontime 0) (0 ∷ 1 ∷ 4000 ∷ 4001 ∷ [])
    ++ map (λ (ontime : ℕ). wait 4 3 30000000 ontime 700000) (0 ∷ 1 ∷ 4000 ∷ 4001 ∷ [])
    ++ map (λ (ontime : ℕ). wait 5 3 30000000 ontime 0) (0 ∷ 1 ∷ 1000 ∷ 1001 ∷ [])
    ≡ no_wait 6 ∷ waits 500000 ∷ waits 500000 ∷ no_wait 6
    ∷ no_wait 6 ∷ waits 250000 ∷ waits 250000 ∷ no_wait 6
    ∷ no_wait 6 ∷ waits 25000 ∷ waits 133334 ∷ no_wait 6
    ∷ no_wait 6 ∷ waits 25000 ∷ waits 1000000 ∷ no_wait 6
    ∷ replicate 4 (no_wait 1)
unfolding wait
wait_on_times = refl

-- where several are bad
first_of_a_wait :
    wait 0 5 0 0 1000001
    ∷ wait 1 5 600000 0 1000001
    ∷ wait 1 0 0 0 1000001
    ∷ wait 1 0 600000 0 1000001
    ∷ wait 4 0 600000 0 1000001
    ∷ wait 1 0 600000 0 0
    ∷ []
    ≡ no_wait 1 ∷ no_wait 9 ∷ no_wait 9 ∷ no_wait 4 ∷ no_wait 4 ∷ no_wait 6 ∷ []
unfolding wait
first_of_a_wait = refl
