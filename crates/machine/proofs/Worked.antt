-- Lists, loads and moves worked out by hand. Each side computes to the other, so a definition that reads a sentence otherwise
-- fails here.
use Prim.Native.Nat.{ℕ}
use mathlib.Core.Path.{◌≡◌, refl}
use mathlib.Core.Bool.{true, false}
use mathlib.Core.List.{List, [], ◌∷◌, ◌++◌, map}
use lib.ListN.{length, set, replicate}
use Rattle.rules.specs.Profiles.{within}
use Rattle.packing.specs.Packing.{filled, all_are, padded}
use Rattle.machine.specs.declared.Levels.{Levels}
use Rattle.machine.specs.declared.Moved.{Moved}
use Rattle.machine.specs.Levels.{levels_of, thresholds, threshold_at, wait_at, wait_of, rising, good_list, bad_list}
use Rattle.machine.specs.Levels.{sound_list, tidied, none_listed, no_levels}
use Rattle.machine.specs.Loads.{loads_of, loads, noted, packed, sound_loads, none_held, no_loads}
use Rattle.machine.specs.Moves.{least_from, greatest_from, least_of, low_of, high_of, reaches, highest_to, highest}
use Rattle.machine.specs.Moves.{level_after, moved_by}

-- a list in its room
abbrev list : (own : ℕ) → (ts ws : List ℕ) → Levels
list own ts ws = levels_of (length ts) own (filled 8 0 ts) (filled 8 0 ws)

abbrev eight : Levels
eight =
    list 40000 (1 ∷ 2 ∷ 3 ∷ 100000 ∷ 400000 ∷ 400001 ∷ 999999 ∷ 1000000 ∷ [])
    (40000 ∷ 50000 ∷ 60000 ∷ 70000 ∷ 80000 ∷ 90000 ∷ 999999 ∷ 1000000 ∷ [])

unfoldable of_lists : Type 0
unfolding within filled all_are rising good_list sound_list tidied none_listed threshold_at wait_at
of_lists = Unit {0}

-- "a list of 1 to 8 levels", "a load threshold up to 1,000,000", "a wait of 40,000 to 1,000,000", at its edges; waits may fall
-- with rising level
good_lists :
    map good_list
    (eight ∷ list 40000 (1 ∷ []) (40000 ∷ []) ∷ list 1000000 (1000000 ∷ []) (1000000 ∷ [])
    ∷ list 40000 (1 ∷ 2 ∷ []) (1000000 ∷ 40000 ∷ []) ∷ [])
    ≡ true ∷ true ∷ true ∷ true ∷ []
unfolding of_lists
good_lists = refl

-- no level, and a ninth, which the array of 8 has no room for or an array of 9 has
empty_list : bad_list (list 40000 [] []) ≡ true
unfolding of_lists
empty_list = refl

abbrev ninth : Levels
ninth = levels_of 9 40000 (1 ∷ 2 ∷ 3 ∷ 4 ∷ 5 ∷ 6 ∷ 7 ∷ 8 ∷ 9 ∷ []) (replicate 9 40000)

nine_levels : map bad_list (levels_of 9 40000 eight.above eight.waits ∷ ninth ∷ []) ≡ true ∷ true ∷ []
unfolding of_lists
nine_levels = refl

-- fewer thresholds, or fewer waits, than levels
not_there :
    map bad_list (levels_of 2 40000 (1 ∷ []) (replicate 2 40000) ∷ levels_of 2 40000 (1 ∷ 2 ∷ []) (40000 ∷ []) ∷ [])
    ≡ true ∷ true ∷ []
unfolding of_lists
not_there = refl

-- "Thresholds rise strictly": equal, falling, and level 0's own threshold 0
not-rising :
    map (λ (ts : List ℕ). bad_list (list 40000 ts (replicate (length ts) 40000)))
    ((5 ∷ 5 ∷ []) ∷ (5 ∷ 4 ∷ []) ∷ (1 ∷ 3 ∷ 3 ∷ []) ∷ (1 ∷ 3 ∷ 2 ∷ []) ∷ (0 ∷ []) ∷ (0 ∷ 5 ∷ []) ∷ (4 ∷ 5 ∷ []) ∷ [])
    ≡ true ∷ true ∷ true ∷ true ∷ true ∷ true ∷ false ∷ []
unfolding of_lists
not-rising = refl

threshold_too_high :
    map (λ (ts : List ℕ). bad_list (list 40000 ts (replicate (length ts) 40000)))
    ((1000000 ∷ []) ∷ (1000001 ∷ []) ∷ (5 ∷ 1000001 ∷ []) ∷ [])
    ≡ false ∷ true ∷ true ∷ []
unfolding of_lists
threshold_too_high = refl

-- a wait outside "40,000 to 1,000,000", of a level, of the eighth, and level 0's own
waits_judged :
    map (λ (wait : ℕ). bad_list (list 40000 (1 ∷ []) (wait ∷ []))) (0 ∷ 39999 ∷ 40000 ∷ 1000000 ∷ 1000001 ∷ [])
    ≡ true ∷ true ∷ false ∷ false ∷ true ∷ []
unfolding of_lists
waits_judged = refl

eighth_judged :
    map (λ (wait : ℕ). bad_list (levels_of 8 40000 eight.above (set eight.waits 7 wait)))
    (39999 ∷ 40000 ∷ 1000000 ∷ 1000001 ∷ [])
    ≡ true ∷ false ∷ false ∷ true ∷ []
unfolding of_lists
eighth_judged = refl

own_judged :
    map (λ (own : ℕ). bad_list (list own (1 ∷ []) (40000 ∷ []))) (0 ∷ 39999 ∷ 40000 ∷ 1000000 ∷ 1000001 ∷ [])
    ≡ true ∷ true ∷ false ∷ false ∷ true ∷ []
unfolding of_lists
own_judged = refl

-- what lies past the length is no part of the list; a sound state has zeros there, and the list that is kept has
abbrev littered : Levels
littered = levels_of 1 40000 (5 ∷ 5 ∷ 0 ∷ 0 ∷ 0 ∷ 0 ∷ 0 ∷ 9 ∷ []) (40000 ∷ 7 ∷ 0 ∷ 0 ∷ 0 ∷ 0 ∷ 0 ∷ 0 ∷ [])

litter : map good_list (littered ∷ tidied littered ∷ []) ≡ true ∷ true ∷ []
unfolding of_lists
litter = refl

litter_kept_out :
    map sound_list
    (littered ∷ levels_of 1 40000 littered.above (tidied littered).waits
    ∷ levels_of 1 40000 (tidied littered).above littered.waits
    ∷ tidied littered ∷ [])
    ≡ false ∷ false ∷ false ∷ true ∷ []
unfolding of_lists
litter_kept_out = refl

tidy_list : tidied littered ≡ list 40000 (5 ∷ []) (40000 ∷ [])
unfolding of_lists
tidy_list = refl

-- whatever the length says, no more than 8 are read
ninth_unread : tidied ninth ≡ list 40000 (1 ∷ 2 ∷ 3 ∷ 4 ∷ 5 ∷ 6 ∷ 7 ∷ 8 ∷ []) (replicate 8 40000)
unfolding of_lists
ninth_unread = refl

-- "level 0 has threshold 0"
thresholds-of_levels : map (threshold_at (thresholds eight)) (0 ∷ 1 ∷ 2 ∷ 8 ∷ []) ≡ 0 ∷ 1 ∷ 2 ∷ 1000000 ∷ []
unfolding of_lists
thresholds-of_levels = refl

-- "level 0 has .. a wait of its own"; each other level has that at its place; a level that is not of the list waits the longest
waits-of_levels :
    map (wait_of (list 40000 (5 ∷ 6 ∷ []) (50000 ∷ 60000 ∷ []))) (0 ∷ 1 ∷ 2 ∷ 3 ∷ 8 ∷ 9 ∷ [])
    ≡ 40000 ∷ 50000 ∷ 60000 ∷ 1000000 ∷ 1000000 ∷ 1000000 ∷ []
unfolding of_lists
waits-of_levels = refl

-- other profiles' states: zero in every place
none-listed :
    map none_listed
    (no_levels ∷ levels_of 1 0 (replicate 8 0) (replicate 8 0) ∷ levels_of 0 1 (replicate 8 0) (replicate 8 0)
    ∷ levels_of 0 0 (set (replicate 8 0) 7 1) (replicate 8 0) ∷ levels_of 0 0 (replicate 8 0) (set (replicate 8 0) 7 1) ∷ [])
    ≡ true ∷ false ∷ false ∷ false ∷ false ∷ []
unfolding of_lists
none-listed = refl

unfoldable of-loads : Type 0
unfolding within filled padded all_are packed sound_loads none_held
of-loads = Unit {0}

none-held :
    map none_held (no_loads ∷ loads_of 1 (replicate 50 0) ∷ loads_of 0 (set (replicate 50 0) 49 1) ∷ []) ≡ true ∷ false ∷ false
    ∷ []
unfolding of-loads
none-held = refl

-- "at most 50, unused room zero", "loads at most 1,000,000"
loads_judged :
    map sound_loads
    (no_loads ∷ loads_of 50 (replicate 50 1000000) ∷ loads_of 51 (replicate 50 0) ∷ loads_of 51 (replicate 51 0)
    ∷ loads_of 50 (set (replicate 50 0) 49 1000001)
    ∷ loads_of 49 (set (replicate 50 0) 49 1) ∷ loads_of 49 (set (replicate 50 0) 48 1) ∷ [])
    ≡ true ∷ true ∷ false ∷ false ∷ false ∷ false ∷ true ∷ []
unfolding of-loads
loads_judged = refl

-- "in order of coming", the oldest first, compact
in_order_lem : packed (noted (noted (noted [] 7) 8) 9) ≡ loads_of 3 (7 ∷ 8 ∷ 9 ∷ replicate 47 0)
unfolding of-loads
in_order_lem = refl

-- a length past the array reads all of it
too_long : loads (loads_of 51 (replicate 50 3)) ≡ replicate 50 3
too_long = refl

oldest_goes : noted (7 ∷ 8 ∷ replicate 48 5) 9 ≡ 8 ∷ (replicate 48 5 ++ (9 ∷ []))
oldest_goes = refl

unfoldable of_moves : Type 0
unfolding packed filled threshold_at least_from greatest_from least_of low_of high_of reaches highest_to level_after moved_by
of_moves = Unit {0}

-- "Low is the least load of the last 10 samples, 0 before there are ten"
lows :
    map low_of
    (replicate 9 5 ∷ replicate 10 5 ∷ (1 ∷ replicate 10 5) ∷ (5 ∷ 1 ∷ replicate 9 5) ∷ (replicate 9 5 ++ (1 ∷ []))
    ∷ replicate 10 1000000 ∷ [])
    ≡ 0 ∷ 5 ∷ 5 ∷ 1 ∷ 1 ∷ 1000000 ∷ []
unfolding of_moves
lows = refl

-- "high is the greatest of the last 50, or of those there are"
highs :
    map high_of ([] ∷ (7 ∷ []) ∷ (9 ∷ replicate 49 5) ∷ (9 ∷ replicate 50 5) ∷ (replicate 49 5 ++ (9 ∷ [])) ∷ [])
    ≡ 0 ∷ 7 ∷ 9 ∷ 5 ∷ 9 ∷ []
unfolding of_moves
highs = refl

-- "Up is the highest level whose threshold low reaches": just reached, and one below; the highest of several
highest_reached :
    map (highest (thresholds eight))
    (0 ∷ 1 ∷ 2 ∷ 99999 ∷ 100000 ∷ 400000 ∷ 400001 ∷ 999998 ∷ 999999 ∷ 1000000 ∷ [])
    ≡ 0 ∷ 1 ∷ 2 ∷ 3 ∷ 4 ∷ 5 ∷ 6 ∷ 6 ∷ 7 ∷ 8 ∷ []
unfolding of_moves
highest_reached = refl

-- samples one after the other
unfoldable run : Levels → Moved → List ℕ → Moved
run l m [] = m
run l m (load ∷ more) = run l (moved_by l m.loads m.level load) more

abbrev fresh : Moved
fresh = record { level = 0; loads = no_loads }

abbrev level_after_lem : Levels → List ℕ → ℕ
level_after_lem l samples = (run l fresh samples).level

-- "itself counted": nine full samples leave level 0, the tenth gives the top at once
nine_full : level_after_lem eight (replicate 9 1000000) ≡ 0
unfolding run of_moves
nine_full = refl

ten_full : level_after_lem eight (replicate 10 1000000) ≡ 8
unfolding run of_moves
ten_full = refl

-- 49 quiet ones leave it, since high is still full; the 50th brings it down at once
quiet_49 : level_after_lem eight (replicate 10 1000000 ++ replicate 49 0) ≡ 8
unfolding run of_moves
quiet_49 = refl

quiet_50 : level_after_lem eight (replicate 10 1000000 ++ replicate 50 0) ≡ 0
unfolding run of_moves
quiet_50 = refl

-- the loads of a run: the last 50, and no more
held_50 : (run eight fresh (replicate 10 3 ++ replicate 49 4)).loads ≡ loads_of 50 (3 ∷ replicate 49 4)
unfolding run of_moves
held_50 = refl

-- up is 2 and down 4, of four levels: each level moves the least needed, one that is not of the list too
least_needed :
    map (level_after (10 ∷ 20 ∷ 30 ∷ 40 ∷ []) (40 ∷ 20 ∷ replicate 9 25)) (0 ∷ 1 ∷ 2 ∷ 3 ∷ 4 ∷ 5 ∷ 9 ∷ [])
    ≡ 2 ∷ 2 ∷ 2 ∷ 3 ∷ 4 ∷ 4 ∷ 4 ∷ []
unfolding of_moves
least_needed = refl

-- The control channel (G5CC) of document 000, as far as a list can say it: RELAXED with NDL_minPacketInterval 0,04 s (Table A.6);
-- Active 1 from 20 % on (Table A.11), whose interval is "ref", the one before it; RESTRICTIVE from NDL_maxChannelLoad 40 % on
-- (Table A.8), with NDL_maxPacketInterval 1 s. NDL_timeUp 1 s and NDL_timeDown 5 s (Table A.10) are 10 and 50 samples.
abbrev g5cc : Levels
g5cc = list 40000 (200000 ∷ 400000 ∷ []) (40000 ∷ 1000000 ∷ [])

g5cc_good : good_list g5cc ≡ true
unfolding of_lists
g5cc_good = refl

g5cc_levels :
    map (λ (load : ℕ). level_after_lem g5cc (replicate 10 load)) (150000 ∷ 199999 ∷ 200000 ∷ 399999 ∷ 400000 ∷ [])
    ≡ 0 ∷ 0 ∷ 1 ∷ 1 ∷ 2 ∷ []
unfolding run of_moves
g5cc_levels = refl

g5cc_waits : map (wait_of g5cc) (0 ∷ 1 ∷ 2 ∷ []) ≡ 40000 ∷ 40000 ∷ 1000000 ∷ []
unfolding of_lists
g5cc_waits = refl

-- its service channels (G5SC) have NDL_maxPacketInterval 2 s, which no list may have; with 1 s in its place it may
g5sc_judged :
    map
    (λ (longest : ℕ).
    bad_list
    (list 40000 (250000 ∷ 300000 ∷ 350000 ∷ 400000 ∷ 500000 ∷ []) (40000 ∷ 40000 ∷ 40000 ∷ 1000000 ∷ longest ∷ [])))
    (2000000 ∷ 1000000 ∷ [])
    ≡ true ∷ false ∷ []
unfolding of_lists
g5sc_judged = refl
