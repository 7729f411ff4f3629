-- Worked examples of what documents 01 and 02 say of numbers. Each side computes to the other, so a definition that reads a
-- sentence otherwise fails here.
use Rattle.std.proofs.Common.{◌≡◌, ℕ, ◌+◌, ◌-◌, ◌*◌, ◌^◌, Bool, true, false, cond, eqb, leb, List, [], ◌∷◌, ◌++◌, map, length}
use Rattle.std.proofs.Common.{get_or, replicate, ℤ, pos, neg_ℤ, refl, inl, inr, arith}
use borrow.Author.Tests.{eqb-false}
use Rattle.std.specs.Prelude.{Some, None, Ok, Err}
use Rattle.rules.specs.Tests.{all_of}
use Rattle.rules.specs.Profiles.{profile3, profile4, full_load, top_level, within, is_profile, profiles}
use Rattle.rules.specs.Profiles.{is_reactive, is_unlisted, by_profile, reactive_of, limits_of, most_ontime}
use Rattle.rules.specs.Profiles.{ontime_allowed, duty_allowed}
use Rattle.rules.specs.Profiles.{lifetime_allowed, last_priority, room, most_offers}
use Rattle.rules.specs.Clock.{stamps, step_of, goes_back, end_of_time, passes_end}
use Rattle.rules.specs.declared.refusal.Refusal.TheVariants.{BadProfile, ClockBack, ClockEnd, BadSample, BadPriority}
use Rattle.rules.specs.declared.refusal.Refusal.TheVariants.{BadOntime, BadLifetime, QueueFull, NoState, BadKind}
use Rattle.rules.specs.declared.refusal.Refusal.TheVariants.{Spent, NoRoom, TornLog, BadList}
use Rattle.rules.specs.Refusals.{number_of, number_in, check, first_of, FirstHolds, NoneHolds}
use Rattle.rules.specs.Samples.{most_probes, good_probes, usual_probes, probe, busy_of, words_for, no_stray, good_words}
use Rattle.rules.specs.Samples.{sample_of, sample_number, bad_count, load_of}
use Rattle.rules.specs.Levels.{wanted_by, towards, wait_by}
use Rattle.rules.specs.Duty.{floor_div, held, held_offset, held_whole, smoothed_of, offset_of, duty_of}
use Rattle.rules.specs.Wait.{ceil_div, whole_duty, adaptive_wait, start_of}
use Rattle.rules.specs.Harmonised.{per_mille, factor_of, harmonised_wait}
use Rattle.rules.specs.Table.{values, factor_table}
use Rattle.rules.specs.Readings.{readings}
use Rattle.rules.proofs.Cases.{split, within-true}
use Rattle.rules.proofs.Readings.{readings_hold}

-- "a profile outside 1 to 5" (W-213); "reactive" are 1 and 2; 5 comes with a list

profile_numbers : map is_profile (0 ∷ profiles) ++ is_profile 6 ∷ [] ≡ false ∷ true ∷ true ∷ true ∷ true ∷ true ∷ false ∷ []
unfolding within
profile_numbers = refl

-- the list of all profiles has each of them
is_in : List ℕ → ℕ → Bool
is_in [] p = false
is_in (q ∷ qs) p = cond (eqb p q) true (is_in qs p)

no_profile_forgotten : (p : ℕ) → is_profile p ≡ true → is_in profiles p ≡ true
unfolding is_in
no_profile_forgotten p e =
    let h = within-true 1 5 p e in
    split (eqb p 1) (λ u. rw u refl) (λ a. split (eqb p 2) (λ u. rw (a, u) refl)
    (λ b. split (eqb p 3) (λ u. rw (a, b, u) refl) (λ c. split (eqb p 4) (λ u. rw (a, b, c, u) refl)
    (λ d. let is5 : p ≡ 5 = omega (arith, h.0, h.1, eqb-false p 1 a, eqb-false p 2 b, eqb-false p 3 c, eqb-false p 4 d) in
    rw is5 refl))))

unlisted-profiles : map is_unlisted (0 ∷ profiles) ≡ false ∷ true ∷ true ∷ true ∷ true ∷ false ∷ []
unfolding within
unlisted-profiles = refl

reactive_profiles : map is_reactive (0 ∷ profiles) ≡ false ∷ true ∷ true ∷ false ∷ false ∷ false ∷ []
unfolding within
reactive_profiles = refl

-- a choice by a profile's number; a number that is no profile's is refused first, and goes with 5 here
choice_by_profile :
    map (λ (p : ℕ). by_profile {A = ℕ} p 10 20 30 40 50) (profiles ++ 0 ∷ 6 ∷ [])
    ≡ 10 ∷ 20 ∷ 30 ∷ 40 ∷ 50 ∷ 50 ∷ 50 ∷ []
choice_by_profile = refl

-- "On-time allowed (µs)": "1 to 1,000", "1 to 500", "1 to 4,000"; "on-time 1 to 4,000" in profile 4 (W-209),
-- "On-time is 1 to 1,000" in profile 5 (W-213)

longest_on_times : map most_ontime (profiles ++ 0 ∷ []) ≡ 1000 ∷ 500 ∷ 4000 ∷ 4000 ∷ 1000 ∷ 1000 ∷ []
unfolding most_ontime
longest_on_times = refl

on_times_of_profile_1 : map (ontime_allowed 1) (0 ∷ 1 ∷ 1000 ∷ 1001 ∷ []) ≡ false ∷ true ∷ true ∷ false ∷ []
unfolding ontime_allowed most_ontime within
on_times_of_profile_1 = refl

on_times_of_profile_2 : map (ontime_allowed 2) (0 ∷ 1 ∷ 500 ∷ 501 ∷ []) ≡ false ∷ true ∷ true ∷ false ∷ []
unfolding ontime_allowed most_ontime within
on_times_of_profile_2 = refl

on_times_of_profile_3 : map (ontime_allowed 3) (0 ∷ 1 ∷ 4000 ∷ 4001 ∷ []) ≡ false ∷ true ∷ true ∷ false ∷ []
unfolding ontime_allowed most_ontime within
on_times_of_profile_3 = refl

on_times_of_profile_4 : map (ontime_allowed 4) (0 ∷ 1 ∷ 4000 ∷ 4001 ∷ []) ≡ false ∷ true ∷ true ∷ false ∷ []
unfolding ontime_allowed most_ontime within
on_times_of_profile_4 = refl

on_times_of_profile_5 : map (ontime_allowed 5) (0 ∷ 1 ∷ 1000 ∷ 1001 ∷ []) ≡ false ∷ true ∷ true ∷ false ∷ []
unfolding ontime_allowed most_ontime within
on_times_of_profile_5 = refl

on_times_of_no_profile : map (ontime_allowed 0) (0 ∷ 1 ∷ 1000 ∷ 1001 ∷ []) ≡ false ∷ true ∷ true ∷ false ∷ []
unfolding ontime_allowed most_ontime within
on_times_of_no_profile = refl

-- the least and the longest wait of each profile

least_waits :
    map (λ (p : ℕ). (limits_of p).leastwait) profiles ≡ 100000 ∷ 50000 ∷ 25000 ∷ 25000 ∷ 40000 ∷ []
least_waits = refl

longest_waits :
    map (λ (p : ℕ). (limits_of p).mostwait) profiles
    ≡ 1000000 ∷ 1000000 ∷ 1000000 ∷ 1000000 ∷ 1000000 ∷ []
longest_waits = refl

-- "In profiles 1 and 2 the wait now runs from admission plus that packet's on-time. Profile 3 stays as it is" (W-202); in profile
-- 4 "It runs from the end of transmission." (W-209), in profile 5 "Waits run from the end" (W-213)
start_of_the_wait :
    map (λ (p : ℕ). start_of p 400) profiles ++ start_of 1 1000 ∷ start_of 2 1 ∷ start_of 3 4000 ∷ start_of 4 4000 ∷ []
    ≡ 400 ∷ 400 ∷ 0 ∷ 400 ∷ 400 ∷ 1000 ∷ 1 ∷ 0 ∷ 4000 ∷ []
unfolding start_of
start_of_the_wait = refl

-- "loads at most 1,000,000", "level at most 4", "Duty is in parts per 1,000,000,000", "priority above 3", "queues of up to 5
-- packets", "accepted above 10^15" (W-201), "10^15", "4,294,967,296", "1,000 probes", "12,500 probes" (W-208)
numbers_of_the_paper :
    full_load ∷ top_level ∷ whole_duty ∷ last_priority ∷ room ∷ most_offers ∷ end_of_time ∷ stamps ∷ usual_probes ∷ most_probes
    ∷ []
    ≡ 1000000 ∷ 4 ∷ 1000000000 ∷ 3 ∷ 5 ∷ 1000000000000000 ∷ 1000000000000000 ∷ 4294967296 ∷ 1000 ∷ 12500 ∷ []
numbers_of_the_paper = refl

-- "duty 600,000 to 30,000,000"
duties : map duty_allowed (599999 ∷ 600000 ∷ 30000000 ∷ 30000001 ∷ []) ≡ false ∷ true ∷ true ∷ false ∷ []
unfolding within
duties = refl

-- "lifetime 0 or above 60,000,000"
lifetimes : map lifetime_allowed (0 ∷ 1 ∷ 60000000 ∷ 60000001 ∷ []) ≡ false ∷ true ∷ true ∷ false ∷ []
unfolding within
lifetimes = refl

-- both ends of a range are in it, and a range may be one number
ranges : map (within 3 5) (2 ∷ 3 ∷ 4 ∷ 5 ∷ 6 ∷ []) ++ map (within 3 3) (2 ∷ 3 ∷ 4 ∷ [])
    ≡ false ∷ true ∷ true ∷ true ∷ false ∷ false ∷ true ∷ false ∷ []
unfolding within
ranges = refl

-- every rule of a list holds
rules_of_a_list : map all_of ([] ∷ (true ∷ true ∷ []) ∷ (false ∷ true ∷ []) ∷ (true ∷ false ∷ []) ∷ [])
    ≡ true ∷ true ∷ false ∷ false ∷ []
rules_of_a_list = refl

-- "the later stamp minus the earlier one, modulo 4,294,967,296"; "a step of 0 is good"

steps : step_of 704 100 ∷ step_of 49904 49904 ∷ step_of 4294967295 0 ∷ [] ≡ 604 ∷ 0 ∷ 4294967295 ∷ []
unfolding step_of
steps = refl

-- "Taking the step as negative when the stamp wraps"
steps_where_the_stamp_wraps :
    step_of 704 4294967200 ∷ step_of 0 4294967295 ∷ step_of 49903 49904 ∷ [] ≡ 800 ∷ 1 ∷ 4294967295 ∷ []
unfolding step_of
steps_where_the_stamp_wraps = refl

-- "A step of 2,147,483,648 or more is the clock going back"
half_a_turn : map goes_back (0 ∷ 2147483647 ∷ 2147483648 ∷ 4294967295 ∷ []) ≡ false ∷ false ∷ true ∷ true ∷ []
unfolding goes_back
half_a_turn = refl

-- "running time would pass 10^15"
end_of_time_lem : map passes_end (0 ∷ 1000000000000000 ∷ 1000000000000001 ∷ []) ≡ false ∷ false ∷ true ∷ []
unfolding passes_end
end_of_time_lem = refl

-- the table of refusal numbers, in its order: 1 to 10; 11 (W-201), 12 and 13 (W-204), 15 (W-213)
numbers_of_the_reasons :
    map number_of
    (BadProfile ∷ ClockBack ∷ ClockEnd ∷ BadSample ∷ BadPriority ∷ BadOntime ∷ BadLifetime ∷ QueueFull ∷ NoState ∷ BadKind
    ∷ Spent ∷ NoRoom ∷ TornLog ∷ BadList ∷ [])
    ≡ 1 ∷ 2 ∷ 3 ∷ 4 ∷ 5 ∷ 6 ∷ 7 ∷ 8 ∷ 9 ∷ 10 ∷ 11 ∷ 12 ∷ 13 ∷ 15 ∷ []
numbers_of_the_reasons = refl

-- what nothing refuses comes to 0, and what is refused to the reason's number
numbers_of_checks :
    map (number_in {A = ℕ}) (Ok 0 ∷ Ok 7 ∷ Err BadProfile ∷ Err NoState ∷ Err BadList ∷ []) ≡ 0 ∷ 0 ∷ 1 ∷ 9 ∷ 15 ∷ []
numbers_of_checks = refl

-- "the first that holds is the answer"
first_that_holds :
    map first_of
    ([]
    ∷ (check 9 false ∷ check 2 false ∷ [])
    ∷ (check 9 true ∷ check 2 true ∷ [])
    ∷ (check 9 false ∷ check 2 true ∷ check 3 true ∷ [])
    ∷ (check 9 false ∷ check 2 false ∷ check 3 true ∷ [])
    ∷ [])
    ≡ 0 ∷ 0 ∷ 9 ∷ 2 ∷ 3 ∷ []
unfolding first_of
first_that_holds = refl

-- "exactly if": a number's row is the first that holds; and none does
second_row_first : FirstHolds 2 (check 9 false ∷ check 2 true ∷ check 3 true ∷ [])
second_row_first = inr (refl, inl (refl, refl))

no_row : NoneHolds (check 9 false ∷ check 2 false ∷ [])
no_row = (refl, (refl, tt))

-- A sample by words: the first two, thirteen quiet ones, and the last.
sample_from : (first second last : ℕ) → List ℕ
sample_from first second last =
    first ∷ second ∷ 0 ∷ 0 ∷ 0 ∷ 0 ∷ 0 ∷ 0 ∷ 0 ∷ 0 ∷ 0 ∷ 0 ∷ 0 ∷ 0 ∷ 0 ∷ last ∷ []

-- "probe k is bit k mod 64 of word k / 64 (whole division)"
probes_by_bits :
    map (probe (sample_from (2 ^ 63 + 1) 1 (2 ^ 39))) (0 ∷ 1 ∷ 62 ∷ 63 ∷ 64 ∷ 65 ∷ 960 ∷ 998 ∷ 999 ∷ [])
    ≡ 1 ∷ 0 ∷ 0 ∷ 1 ∷ 1 ∷ 0 ∷ 0 ∷ 0 ∷ 1 ∷ []
unfolding sample_from probe
probes_by_bits = refl

-- "the number of busy probes is the count of one bits"
busy_probes :
    map (busy_of (sample_from (2 ^ 63 + 1) 1 (2 ^ 39))) (0 ∷ 1 ∷ 63 ∷ 64 ∷ 65 ∷ 999 ∷ 1000 ∷ [])
    ≡ 0 ∷ 1 ∷ 1 ∷ 2 ∷ 3 ∷ 3 ∷ 4 ∷ []
unfolding sample_from busy_of probe
busy_probes = refl

-- "probe count outside 1 to 12,500" (W-208)
probe_counts : map good_probes (0 ∷ 1 ∷ 1000 ∷ 12500 ∷ 12501 ∷ []) ≡ false ∷ true ∷ true ∷ true ∷ false ∷ []
unfolding good_probes within
probe_counts = refl

-- "just enough words"
words_needed : map words_for (1 ∷ 63 ∷ 64 ∷ 65 ∷ 128 ∷ 129 ∷ 1000 ∷ 12500 ∷ []) ≡ 1 ∷ 1 ∷ 1 ∷ 2 ∷ 2 ∷ 3 ∷ 16 ∷ 196 ∷ []
words_needed = refl

-- "not 16 words, or a bit above bit 39 set in the last": a sample of 1,000 probes

good_words_lem :
    map (good_words 1000) (sample_from 0 0 0 ∷ sample_from (2 ^ 64 - 1) (2 ^ 40) (2 ^ 40 - 1) ∷ []) ≡ true ∷ true ∷ []
unfolding sample_from good_words good_probes within no_stray
good_words_lem = refl

stray_bits :
    map (λ (last : ℕ). good_words 1000 (sample_from 0 0 last)) (2 ^ 39 ∷ 2 ^ 40 ∷ 2 ^ 63 ∷ []) ≡ true ∷ false ∷ false ∷ []
unfolding sample_from good_words good_probes within no_stray
stray_bits = refl

fifteen : List ℕ
fifteen = 1 ∷ 0 ∷ 0 ∷ 0 ∷ 0 ∷ 0 ∷ 0 ∷ 0 ∷ 0 ∷ 0 ∷ 0 ∷ 0 ∷ 0 ∷ 0 ∷ 0 ∷ []

number_of_words :
    map (good_words 1000) ([] ∷ fifteen ∷ (fifteen ++ 0 ∷ []) ∷ (fifteen ++ 0 ∷ 0 ∷ []) ∷ []) ≡ false ∷ false ∷ true ∷ false ∷ []
unfolding fifteen good_words good_probes within no_stray
number_of_words = refl

all_busy : List ℕ
all_busy =
    let w = 2 ^ 64 - 1 in
    w ∷ w ∷ w ∷ w ∷ w ∷ w ∷ w ∷ w ∷ w ∷ w ∷ w ∷ w ∷ w ∷ w ∷ w ∷ (2 ^ 40 - 1) ∷ []

samples_by_words :
    map (sample_of 1000)
    (sample_from 0 0 0
    ∷ sample_from (2 ^ 64 - 1) 5 (2 ^ 40 - 1)
    ∷ all_busy
    ∷ sample_from 1 0 (2 ^ 40)
    ∷ fifteen
    ∷ (fifteen ++ 0 ∷ 0 ∷ [])
    ∷ [])
    ≡ Some 0 ∷ Some 106 ∷ Some 1000 ∷ None ∷ None ∷ None ∷ []
unfolding all_busy sample_from fifteen sample_of good_words good_probes within no_stray busy_of probe
samples_by_words = refl

-- other numbers of probes (W-208): none; one, busy and not, with a stray bit, with a word too few and too many; 63, 64 and 65,
-- where no bit of a full word is stray; 12,501

no_probes : map (sample_of 0) ([] ∷ (0 ∷ []) ∷ fifteen ∷ []) ≡ None ∷ None ∷ None ∷ []
unfolding fifteen sample_of good_words good_probes within no_stray busy_of probe
no_probes = refl

one-probe :
    map (sample_of 1) ((1 ∷ []) ∷ (0 ∷ []) ∷ (2 ∷ []) ∷ (3 ∷ []) ∷ (2 ^ 63 ∷ []) ∷ [] ∷ (1 ∷ 0 ∷ []) ∷ [])
    ≡ Some 1 ∷ Some 0 ∷ None ∷ None ∷ None ∷ None ∷ None ∷ []
unfolding sample_of good_words good_probes within no_stray busy_of probe
one-probe = refl

sixty_three_probes : map (sample_of 63) (((2 ^ 63 - 1) ∷ []) ∷ (2 ^ 63 ∷ []) ∷ (1 ∷ 0 ∷ []) ∷ []) ≡ Some 63 ∷ None ∷ None ∷ []
unfolding sample_of good_words good_probes within no_stray busy_of probe
sixty_three_probes = refl

sixty_four_probes :
    map (sample_of 64) (((2 ^ 64 - 1) ∷ []) ∷ (2 ^ 63 ∷ []) ∷ [] ∷ (1 ∷ 0 ∷ []) ∷ []) ≡ Some 64 ∷ Some 1 ∷ None ∷ None ∷ []
unfolding sample_of good_words good_probes within no_stray busy_of probe
sixty_four_probes = refl

sixty_five_probes :
    map (sample_of 65) (((2 ^ 64 - 1) ∷ 1 ∷ []) ∷ (2 ^ 63 ∷ 0 ∷ []) ∷ (0 ∷ 2 ∷ []) ∷ (1 ∷ []) ∷ (1 ∷ 0 ∷ 0 ∷ []) ∷ [])
    ≡ Some 65 ∷ Some 1 ∷ None ∷ None ∷ None ∷ []
unfolding sample_of good_words good_probes within no_stray busy_of probe
sixty_five_probes = refl

-- every probe of 12,500 busy; a stray bit behind them; a word too many
most_busy : (last : ℕ) → List ℕ
most_busy last = replicate 195 (2 ^ 64 - 1) ++ last ∷ []

most_probes_lem :
    map (sample_of 12500) (most_busy (2 ^ 20 - 1) ∷ most_busy (2 ^ 20) ∷ (most_busy 0 ++ 0 ∷ []) ∷ []) ≡ Some 12500 ∷ None ∷ None
    ∷ []
unfolding most_busy sample_of good_words good_probes within no_stray busy_of probe
most_probes_lem = refl

-- BAD-SAMPLE is "4"
sample_numbers : map sample_number (Some 0 ∷ Some 1000 ∷ None ∷ []) ≡ 0 ∷ 0 ∷ 4 ∷ []
unfolding sample_number
sample_numbers = refl

-- "busy count above 1,000", of 1,000; "probe count outside 1 to 12,500 .. or busy above probes" (W-208)

counts : map (λ (busy : ℕ). bad_count busy 1000) (0 ∷ 1000 ∷ 1001 ∷ []) ≡ false ∷ false ∷ true ∷ []
unfolding bad_count good_probes within
counts = refl

counts_of_probes :
    bad_count 0 0 ∷ bad_count 1000 0 ∷ bad_count 0 1 ∷ bad_count 1 1 ∷ bad_count 2 1 ∷ bad_count 12500 12500
    ∷ bad_count 12501 12500
    ∷ bad_count 0 12501 ∷ []
    ≡ true ∷ true ∷ false ∷ false ∷ true ∷ false ∷ true ∷ true ∷ []
unfolding bad_count good_probes within
counts_of_probes = refl

-- "load is 1,000 times that", of 1,000; "floor(1,000,000 × busy / probes)" (W-208): of 1; 7,750 and 7,751 of 12,500, on either
-- side of 62 %; all of 12,500; 1 of 3 and 2 of 3, rounded down

loads : map (λ (busy : ℕ). load_of busy 1000) (0 ∷ 1 ∷ 395 ∷ 1000 ∷ []) ≡ 0 ∷ 1000 ∷ 395000 ∷ 1000000 ∷ []
unfolding load_of
loads = refl

loads-of_probes :
    load_of 0 1 ∷ load_of 1 1 ∷ load_of 1 12500 ∷ load_of 7750 12500 ∷ load_of 7751 12500 ∷ load_of 12500 12500 ∷ load_of 1 3
    ∷ load_of 2 3 ∷ []
    ≡ 0 ∷ 1000000 ∷ 80 ∷ 620000 ∷ 620080 ∷ 1000000 ∷ 333333 ∷ 666666 ∷ []
unfolding load_of
loads-of_probes = refl

-- "Reactive levels wanted, by load": "below 300,000", "to 399,999", "to 499,999", "to 600,000" or "to 650,000", "above"; and not
-- "Leaving 39.5 % in no state, or 60 % exactly in Restrictive"

levels_of_profile_1 :
    map (wanted_by (reactive_of 1))
    (0 ∷ 299999 ∷ 300000 ∷ 395000 ∷ 399999 ∷ 400000 ∷ 499999 ∷ 500000 ∷ 600000 ∷ 600001 ∷ 1000000 ∷ [])
    ≡ 0 ∷ 0 ∷ 1 ∷ 1 ∷ 1 ∷ 2 ∷ 2 ∷ 3 ∷ 3 ∷ 4 ∷ 4 ∷ []
unfolding wanted_by reactive_of
levels_of_profile_1 = refl

levels_of_profile_2 :
    map (wanted_by (reactive_of 2))
    (0 ∷ 299999 ∷ 300000 ∷ 395000 ∷ 399999 ∷ 400000 ∷ 499999 ∷ 500000 ∷ 650000 ∷ 650001 ∷ 1000000 ∷ [])
    ≡ 0 ∷ 0 ∷ 1 ∷ 1 ∷ 1 ∷ 2 ∷ 2 ∷ 3 ∷ 3 ∷ 4 ∷ 4 ∷ []
unfolding wanted_by reactive_of
levels_of_profile_2 = refl

-- the waits of levels 0 to 4

waits-of_profile_1 :
    map (wait_by (reactive_of 1)) (0 ∷ 1 ∷ 2 ∷ 3 ∷ 4 ∷ []) ≡ 100000 ∷ 200000 ∷ 400000 ∷ 500000 ∷ 1000000 ∷ []
unfolding wait_by reactive_of
waits-of_profile_1 = refl

waits-of_profile_2 :
    map (wait_by (reactive_of 2)) (0 ∷ 1 ∷ 2 ∷ 3 ∷ 4 ∷ []) ≡ 50000 ∷ 100000 ∷ 200000 ∷ 250000 ∷ 1000000 ∷ []
unfolding wait_by reactive_of
waits-of_profile_2 = refl

-- "Each sample moves the level by at most one towards the wanted one": from each level, towards 0 to 4
level_steps :
    map (λ (level : ℕ). map (towards level) (0 ∷ 1 ∷ 2 ∷ 3 ∷ 4 ∷ [])) (0 ∷ 1 ∷ 2 ∷ 3 ∷ 4 ∷ [])
    ≡ (0 ∷ 1 ∷ 1 ∷ 1 ∷ 1 ∷ [])
    ∷ (0 ∷ 1 ∷ 2 ∷ 2 ∷ 2 ∷ [])
    ∷ (1 ∷ 1 ∷ 2 ∷ 3 ∷ 3 ∷ [])
    ∷ (2 ∷ 2 ∷ 2 ∷ 3 ∷ 4 ∷ [])
    ∷ (3 ∷ 3 ∷ 3 ∷ 3 ∷ 4 ∷ [])
    ∷ []
unfolding towards
level_steps = refl

-- "smoothed' = floor((2 × smoothed + kept + new) / 4)": what each number weighs, and which way a rest goes

smoothing_weights :
    smoothed_of 400 0 0 ∷ smoothed_of 0 400 0 ∷ smoothed_of 0 0 400 ∷ smoothed_of 100000 400000 800000 ∷ []
    ≡ 200 ∷ 100 ∷ 100 ∷ 350000 ∷ []
unfolding smoothed_of
smoothing_weights = refl

smoothing_rounds_down :
    smoothed_of 1 0 0 ∷ smoothed_of 0 0 3 ∷ smoothed_of 1 1 0 ∷ smoothed_of 1 1 1 ∷ smoothed_of 1 2 3 ∷ []
    ≡ 0 ∷ 0 ∷ 0 ∷ 1 ∷ 1 ∷ []
unfolding smoothed_of
smoothing_rounds_down = refl

-- n below zero
minus : ℕ → ℤ
minus n = neg_ℤ (pos n)

-- "rounding towards minus infinity"
rounding :
    map (λ (z : ℤ). floor_div z 5) (pos 6 ∷ pos 5 ∷ pos 4 ∷ pos 0 ∷ minus 1 ∷ minus 5 ∷ minus 6 ∷ minus 10 ∷ minus 11 ∷ [])
    ≡ pos 1 ∷ pos 1 ∷ pos 0 ∷ pos 0 ∷ minus 1 ∷ minus 1 ∷ minus 2 ∷ minus 2 ∷ minus 3 ∷ []
unfolding minus
rounding = refl

-- "held within": x below, at, between and above the two

numbers_held : map (held 30 50) (0 ∷ 29 ∷ 30 ∷ 31 ∷ 49 ∷ 50 ∷ 51 ∷ []) ≡ 30 ∷ 30 ∷ 30 ∷ 31 ∷ 49 ∷ 50 ∷ 50 ∷ []
numbers_held = refl

offsets_held :
    map (held_offset 30 50) (minus 31 ∷ minus 30 ∷ minus 29 ∷ minus 1 ∷ pos 0 ∷ pos 49 ∷ pos 50 ∷ pos 51 ∷ [])
    ≡ minus 30 ∷ minus 30 ∷ minus 29 ∷ minus 1 ∷ pos 0 ∷ pos 49 ∷ pos 50 ∷ pos 50 ∷ []
unfolding minus
offsets_held = refl

whole_numbers_held :
    map (held_whole 30 50) (minus 40 ∷ minus 1 ∷ pos 0 ∷ pos 29 ∷ pos 31 ∷ pos 50 ∷ pos 51 ∷ [])
    ≡ 30 ∷ 30 ∷ 30 ∷ 30 ∷ 31 ∷ 50 ∷ 50 ∷ []
unfolding minus
whole_numbers_held = refl

-- "gap = 680,000 − smoothed'; offset = floor(6 × gap / 5), rounding towards minus infinity"; "gap −1 gives −2"
offsets_about_the_target :
    map (offset_of profile3) (679994 ∷ 679995 ∷ 679999 ∷ 680000 ∷ 680001 ∷ 680004 ∷ 680005 ∷ 680006 ∷ [])
    ≡ pos 7 ∷ pos 6 ∷ pos 1 ∷ pos 0 ∷ minus 2 ∷ minus 5 ∷ minus 6 ∷ minus 8 ∷ []
unfolding minus offset_of
offsets_about_the_target = refl

-- "then held within −250,000 to 500,000"
offset_limits :
    map (offset_of profile3) (0 ∷ 263332 ∷ 263333 ∷ 263334 ∷ 888332 ∷ 888333 ∷ 888334 ∷ 1000000 ∷ [])
    ≡ pos 500000
    ∷ pos 500000
    ∷ pos 500000
    ∷ pos 499999
    ∷ minus 249999
    ∷ minus 250000
    ∷ minus 250000
    ∷ minus 250000
    ∷ []
unfolding minus offset_of
offset_limits = refl

-- "duty' = floor(984 × duty / 1,000) + offset", by the duty and the smoothed load

duty_rounds_down :
    map (λ (duty : ℕ). duty_of profile3 duty 680000) (10000000 ∷ 10000001 ∷ 10000002 ∷ 1000125 ∷ [])
    ≡ 9840000 ∷ 9840000 ∷ 9840001 ∷ 984123 ∷ []
unfolding offset_of duty_of
duty_rounds_down = refl

duty_by_load :
    map (duty_of profile3 10000000) (0 ∷ 580000 ∷ 679999 ∷ 680001 ∷ 780000 ∷ 1000000 ∷ [])
    ≡ 10340000 ∷ 9960000 ∷ 9840001 ∷ 9839998 ∷ 9720000 ∷ 9590000 ∷ []
unfolding offset_of duty_of
duty_by_load = refl

-- "then held within 600,000 to 30,000,000"; "Duty 30,000,000 at 0 stays; 600,000 at 1,000,000 stays."

duty_stays : duty_of profile3 30000000 0 ∷ duty_of profile3 600000 1000000 ∷ [] ≡ 30000000 ∷ 600000 ∷ []
unfolding offset_of duty_of
duty_stays = refl

duty_limits :
    map (λ (duty : ℕ). duty_of profile3 duty 0) (29979674 ∷ 29979675 ∷ 29979676 ∷ [])
    ++ map (λ (duty : ℕ). duty_of profile3 duty 680000) (609756 ∷ 609757 ∷ 609758 ∷ [])
    ≡ 29999999 ∷ 30000000 ∷ 30000000 ∷ 600000 ∷ 600000 ∷ 600001 ∷ []
unfolding offset_of duty_of
duty_limits = refl

-- "ceil(..)"
rounding_up : map (λ (a : ℕ). ceil_div a 5) (0 ∷ 1 ∷ 5 ∷ 6 ∷ 9 ∷ 10 ∷ 11 ∷ []) ≡ 0 ∷ 1 ∷ 1 ∷ 2 ∷ 2 ∷ 2 ∷ 3 ∷ []
rounding_up = refl

-- "ceil(on-time of the last admitted packet × 1,000,000,000 / duty), held within 25,000 to 1,000,000"

waits_at_the_greatest_duty :
    map (λ (ontime : ℕ). adaptive_wait (limits_of 3) ontime 30000000) (1 ∷ 749 ∷ 750 ∷ 751 ∷ 753 ∷ 4000 ∷ [])
    ≡ 25000 ∷ 25000 ∷ 25000 ∷ 25034 ∷ 25100 ∷ 133334 ∷ []
unfolding adaptive_wait
waits_at_the_greatest_duty = refl

-- "Waits at duty 600,000: 599 gives 998,334; 600 and 601 give 1,000,000."
waits_at_the_least_duty :
    map (λ (ontime : ℕ). adaptive_wait (limits_of 3) ontime 600000) (1 ∷ 15 ∷ 16 ∷ 599 ∷ 600 ∷ 601 ∷ 4000 ∷ [])
    ≡ 25000 ∷ 25000 ∷ 26667 ∷ 998334 ∷ 1000000 ∷ 1000000 ∷ 1000000 ∷ []
unfolding adaptive_wait
waits_at_the_least_duty = refl

-- "the latest load in per mille, rounded up" (W-209)
loads_in_per_mille :
    map per_mille (0 ∷ 1 ∷ 999 ∷ 1000 ∷ 1001 ∷ 620000 ∷ 620001 ∷ 999001 ∷ 1000000 ∷ [])
    ≡ 0 ∷ 1 ∷ 1 ∷ 1 ∷ 2 ∷ 620 ∷ 621 ∷ 1000 ∷ 1000 ∷ []
unfolding per_mille
loads_in_per_mille = refl

-- "Factors: c 621 gives 6, 622 gives 12, 700 gives 457, 1,000 gives 1,519." (W-209); "with 0 up to 620" (W-210)
factors :
    map (factor_of profile4) (0 ∷ 1 ∷ 619 ∷ 620 ∷ 621 ∷ 622 ∷ 700 ∷ 1000 ∷ []) ≡ 0 ∷ 0 ∷ 0 ∷ 0 ∷ 6 ∷ 12 ∷ 457 ∷ 1519 ∷ []
unfolding factor_of
factors = refl

-- "A table of 1,001 whole numbers, one for each per mille" (W-210): how many, some of them, and none past the last
table_of_factors :
    length factor_table ∷ map (λ (c : ℕ). get_or factor_table c 0) (0 ∷ 1 ∷ 619 ∷ 620 ∷ 621 ∷ 622 ∷ 700 ∷ 1000 ∷ 1001 ∷ [])
    ≡ 1001 ∷ 0 ∷ 0 ∷ 0 ∷ 0 ∷ 6 ∷ 12 ∷ 457 ∷ 1519 ∷ 0 ∷ []
unfolding factor_of values factor_table
table_of_factors = refl

-- "For c at most 620 the wait is 25,000": whatever the on-time, and "0 before any sample"
calm_waits :
    (ontime : ℕ)
    → map (harmonised_wait profile4 ontime) (0 ∷ 1 ∷ 619001 ∷ 620000 ∷ []) ≡ 25000 ∷ 25000 ∷ 25000 ∷ 25000 ∷ []
unfolding per_mille harmonised_wait
calm_waits ontime = refl

-- "Above that .. the wait is the factor times the last on-time, held within 25,000 to 1,000,000" (W-209): at 620,001 it is held
-- below, and 4,000 x 6 is; at 700,000 it is held below up to an on-time of 54, and above from 2,189 on; at 1,000,000 from 659 on
waits_by_the_factor :
    map
    (λ (load : ℕ). map (λ (ontime : ℕ). harmonised_wait profile4 ontime load)
    (1 ∷ 54 ∷ 55 ∷ 658 ∷ 659 ∷ 2188 ∷ 2189 ∷ 4000 ∷ []))
    (620000 ∷ 620001 ∷ 621001 ∷ 700000 ∷ 1000000 ∷ [])
    ≡ (25000 ∷ 25000 ∷ 25000 ∷ 25000 ∷ 25000 ∷ 25000 ∷ 25000 ∷ 25000 ∷ [])
    ∷ (25000 ∷ 25000 ∷ 25000 ∷ 25000 ∷ 25000 ∷ 25000 ∷ 25000 ∷ 25000 ∷ [])
    ∷ (25000 ∷ 25000 ∷ 25000 ∷ 25000 ∷ 25000 ∷ 26256 ∷ 26268 ∷ 48000 ∷ [])
    ∷ (25000 ∷ 25000 ∷ 25135 ∷ 300706 ∷ 301163 ∷ 999916 ∷ 1000000 ∷ 1000000 ∷ [])
    ∷ (25000 ∷ 82026 ∷ 83545 ∷ 999502 ∷ 1000000 ∷ 1000000 ∷ 1000000 ∷ 1000000 ∷ [])
    ∷ []
unfolding per_mille factor_of harmonised_wait
waits_by_the_factor = refl

-- "For the whole-number load, rounding never makes the wait shorter than the published formula" (W-209): for that load, and not
-- for the share that was measured. Of 8,001 probes 7,937 busy are 992,000 parts per million and a bit. For a packet of 600 µs
-- the formula gives 899,400 µs and less at 992,000, and 899,401.5 µs at 7,937 / 8,001
formula_at_the_measured_share :
    (load_of 7937 8001 ≡ 992000)
    × (harmonised_wait profile4 600 992000 ≡ 899400)
    × (leb (600 * (3999 * 992000 - 2480000000)) (899400 * 992000) ≡ true)
    × (leb (600 * (3999 * 7937 - 2480 * 8001)) (899400 * 7937) ≡ false)
    × (leb (600 * (3999 * 7937 - 2480 * 8001)) (899402 * 7937) ≡ true)
unfolding load_of per_mille factor_of harmonised_wait
formula_at_the_measured_share = (refl, refl, refl, refl, refl)

-- the lines marked P, read off the statement about them: these numbers, and what the paper reads
lines_marked_P :
    map (wanted_by (reactive_of 1)) (299000 ∷ 300000 ∷ 399000 ∷ [])
    ++ map (wanted_by (reactive_of 2)) (299000 ∷ 300000 ∷ 399000 ∷ [])
    ++ wanted_by (reactive_of 1) 600000 ∷ wanted_by (reactive_of 2) 600000
    ∷ wanted_by (reactive_of 1) 601000 ∷ wanted_by (reactive_of 2) 601000
    ∷ wanted_by (reactive_of 1) 651000 ∷ wanted_by (reactive_of 2) 651000
    ∷ smoothed_of 0 400000 400000 ∷ smoothed_of 200000 400000 400000
    ∷ map (duty_of profile3 10000000) (680000 ∷ 680001 ∷ 580000 ∷ [])
    ++ map (λ (ontime : ℕ). adaptive_wait (limits_of 3) ontime 30000000) (749 ∷ 750 ∷ 751 ∷ 4000 ∷ [])
    ≡ 0 ∷ 1 ∷ 1 ∷ 0 ∷ 1 ∷ 1 ∷ 3 ∷ 3 ∷ 4 ∷ 3 ∷ 4 ∷ 4 ∷ 200000 ∷ 300000
    ∷ 9840000 ∷ 9839998 ∷ 9960000 ∷ 25000 ∷ 25000 ∷ 25034 ∷ 133334 ∷ []
unfolding readings
lines_marked_P = readings_hold
