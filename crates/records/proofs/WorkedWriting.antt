-- Worked examples of the writer (document 02, W-206), each computed from the definitions.
use Prim.Native.Nat.{ℕ, ◌-◌, ◌^◌}
use mathlib.Core.Path.{◌≡◌, refl}
use mathlib.Core.List.{List, [], ◌∷◌, ◌++◌, map}
use lib.ListN.{replicate}
use Rattle.machine.specs.declared.Levels.{Levels}
use Rattle.machine.specs.Levels.{levels_of, no_levels}
use Rattle.model.specs.Calls.{words, count, offer, poll, making_of}
use Rattle.model.proofs.Computing.{of_samples}
use Rattle.records.specs.Records.{two_at, four_at, record_at, Asked, makes, calls, unknown, probes_in, profile_in, asked_by}
use Rattle.records.specs.Writing.{little_endian, bytes_of, probes_field, record_of, argument_checks, write_number, log_after}

-- what a write on literal bytes opens, by name
unfoldable of_writes : Type 0
unfolding of_samples little_endian bytes_of probes_field record_of argument_checks write_number log_after
of_writes = Unit {0}

make : (profile oldway stamp : ℕ) → Asked
make profile oldway stamp = makes (making_of profile oldway no_levels stamp)

offered : (priority ontime lifetime : ℕ) → Asked
offered priority ontime lifetime =
    calls (offer 269422093 (record { id = 202050057; priority = priority; ontime = ontime; lifetime = lifetime }))

-- a sample of 16 words, all quiet but the first and the last
sample : (first last : ℕ) → Asked
sample first last = calls (words 9 1000 (first ∷ replicate 14 0 ++ (last ∷ [])))

-- a log of so many bytes, each 255
full : (bytes : ℕ) → List ℕ
full bytes = replicate bytes 255

-- "kind (1), priority (1), on-time (2), lifetime (4), identifier (4), stamp (4)", the low byte first; an offer has all
-- of them, and "Other bytes of the buffer keep what they had."
offer_bytes :
    log_after (full 19) 2 (offered 1 1027 134678021)
    ≡ 255 ∷ 255 ∷ 2 ∷ 1 ∷ 3 ∷ 4 ∷ 5 ∷ 6 ∷ 7 ∷ 8 ∷ 9 ∷ 10 ∷ 11 ∷ 12 ∷ 13 ∷ 14 ∷ 15 ∷ 16 ∷ 255 ∷ []
unfolding of_writes offered full
offer_bytes = refl

-- "Kind 0 makes a state (priority field = profile)", lifetime field 1 for the old way; "ignored fields written as zero"
make_bytes :
    map (log_after (full 17) 1) (make 3 1 67305985 ∷ make 77 0 9 ∷ [])
    ≡ (255 ∷ 0 ∷ 3 ∷ 0 ∷ 0 ∷ 1 ∷ 0 ∷ 0 ∷ 0 ∷ 0 ∷ 0 ∷ 0 ∷ 0 ∷ 1 ∷ 2 ∷ 3 ∷ 4 ∷ [])
    ∷ (255 ∷ 0 ∷ 77 ∷ 0 ∷ 0 ∷ 0 ∷ 0 ∷ 0 ∷ 0 ∷ 0 ∷ 0 ∷ 0 ∷ 0 ∷ 9 ∷ 0 ∷ 0 ∷ 0 ∷ [])
    ∷ []
unfolding of_writes make full
make_bytes = refl

-- "in the writer profile 5 is refused with 1" (W-213), with a good list too; the profiles beside it are not
one_level : Levels
one_level = levels_of 1 60000 (300000 ∷ replicate 7 0) (100000 ∷ replicate 7 0)

listed : (profile : ℕ) → Asked
listed profile = makes (making_of profile 0 one_level 9)

five_refused :
    map (write_number (full 16) 0) (make 5 0 9 ∷ make 5 1 9 ∷ listed 5 ∷ make 4 0 9 ∷ make 6 0 9 ∷ listed 4 ∷ [])
    ≡ 1 ∷ 1 ∷ 1 ∷ 0 ∷ 0 ∷ 0 ∷ []
unfolding of_writes make listed one_level full
five_refused = refl

-- "another profile's make is written without its list"
list_left_out :
    map (log_after (full 16) 0) (listed 4 ∷ listed 5 ∷ [])
    ≡ (0 ∷ 4 ∷ 0 ∷ 0 ∷ 0 ∷ 0 ∷ 0 ∷ 0 ∷ 0 ∷ 0 ∷ 0 ∷ 0 ∷ 9 ∷ 0 ∷ 0 ∷ 0 ∷ []) ∷ full 16 ∷ []
unfolding of_writes listed one_level full
list_left_out = refl

-- "1 is a sample (identifier field = busy count)", all 32 bits of it
count_bytes :
    log_after (full 17) 0 (calls (count 9 67305985 1000))
    ≡ 1 ∷ 0 ∷ 0 ∷ 0 ∷ 0 ∷ 0 ∷ 0 ∷ 0 ∷ 1 ∷ 2 ∷ 3 ∷ 4 ∷ 9 ∷ 0 ∷ 0 ∷ 0 ∷ 255 ∷ []
unfolding of_writes full
count_bytes = refl

-- "A sample by words is written by its busy count": two busy probes in either of two ways, and 104 of them
words_bytes :
    map (log_after (full 16) 0) (sample 3 0 ∷ sample (2 ^ 63) (2 ^ 39) ∷ sample (2 ^ 64 - 1) (2 ^ 40 - 1) ∷ [])
    ≡ (1 ∷ 0 ∷ 0 ∷ 0 ∷ 0 ∷ 0 ∷ 0 ∷ 0 ∷ 2 ∷ 0 ∷ 0 ∷ 0 ∷ 9 ∷ 0 ∷ 0 ∷ 0 ∷ [])
    ∷ (1 ∷ 0 ∷ 0 ∷ 0 ∷ 0 ∷ 0 ∷ 0 ∷ 0 ∷ 2 ∷ 0 ∷ 0 ∷ 0 ∷ 9 ∷ 0 ∷ 0 ∷ 0 ∷ [])
    ∷ (1 ∷ 0 ∷ 0 ∷ 0 ∷ 0 ∷ 0 ∷ 0 ∷ 0 ∷ 104 ∷ 0 ∷ 0 ∷ 0 ∷ 9 ∷ 0 ∷ 0 ∷ 0 ∷ [])
    ∷ []
unfolding of_writes sample full
words_bytes = refl

-- "a sample's lifetime field is the probe count", and "The writer writes 1,000 as 0" (W-208): 513 of 1,027 probes, 2 of 65 by
-- words, 1 of 3 and 1 of 4, which share no record
probes_bytes :
    map (log_after (full 16) 0)
    (calls (count 9 513 1027)
    ∷ calls (words 9 65 (1 ∷ 1 ∷ []))
    ∷ calls (words 9 3 (1 ∷ []))
    ∷ calls (words 9 4 (1 ∷ []))
    ∷ calls (count 9 1 1000)
    ∷ [])
    ≡ (1 ∷ 0 ∷ 0 ∷ 0 ∷ 3 ∷ 4 ∷ 0 ∷ 0 ∷ 1 ∷ 2 ∷ 0 ∷ 0 ∷ 9 ∷ 0 ∷ 0 ∷ 0 ∷ [])
    ∷ (1 ∷ 0 ∷ 0 ∷ 0 ∷ 65 ∷ 0 ∷ 0 ∷ 0 ∷ 2 ∷ 0 ∷ 0 ∷ 0 ∷ 9 ∷ 0 ∷ 0 ∷ 0 ∷ [])
    ∷ (1 ∷ 0 ∷ 0 ∷ 0 ∷ 3 ∷ 0 ∷ 0 ∷ 0 ∷ 1 ∷ 0 ∷ 0 ∷ 0 ∷ 9 ∷ 0 ∷ 0 ∷ 0 ∷ [])
    ∷ (1 ∷ 0 ∷ 0 ∷ 0 ∷ 4 ∷ 0 ∷ 0 ∷ 0 ∷ 1 ∷ 0 ∷ 0 ∷ 0 ∷ 9 ∷ 0 ∷ 0 ∷ 0 ∷ [])
    ∷ (1 ∷ 0 ∷ 0 ∷ 0 ∷ 0 ∷ 0 ∷ 0 ∷ 0 ∷ 1 ∷ 0 ∷ 0 ∷ 0 ∷ 9 ∷ 0 ∷ 0 ∷ 0 ∷ [])
    ∷ []
unfolding of_writes full
probes_bytes = refl

-- "3 a poll"
poll_bytes :
    log_after (full 16) 0 (calls (poll 4294967295))
    ≡ 3 ∷ 0 ∷ 0 ∷ 0 ∷ 0 ∷ 0 ∷ 0 ∷ 0 ∷ 0 ∷ 0 ∷ 0 ∷ 0 ∷ 255 ∷ 255 ∷ 255 ∷ 255 ∷ []
unfolding of_writes full
poll_bytes = refl

-- "an argument too wide for its field with its own number", and at the widest none
widths :
    map (write_number (full 16) 0)
    (make 256 0 9 ∷ make 255 1 9 ∷ make 1 2 9
    ∷ calls (count 9 4294967296 1000) ∷ calls (count 9 4294967295 1000)
    ∷ calls (count 9 0 4294967296) ∷ calls (count 9 0 4294967295)
    ∷ offered 256 1 1 ∷ offered 255 1 1
    ∷ offered 0 65536 1 ∷ offered 0 65535 1
    ∷ offered 0 1 4294967296 ∷ offered 0 1 4294967295 ∷ [])
    ≡ 1 ∷ 0 ∷ 1 ∷ 4 ∷ 0 ∷ 4 ∷ 0 ∷ 5 ∷ 0 ∷ 6 ∷ 0 ∷ 7 ∷ 0 ∷ []
unfolding of_writes make offered full
widths = refl

-- width is judged, not worth: profile 0, 5,000 busy of 1,000 probes, 20,000 probes, priority 200, on-time and lifetime 0
not_worth :
    map (write_number (full 16) 0) (make 0 0 9 ∷ calls (count 9 5000 1000) ∷ calls (count 9 0 20000) ∷ offered 200 0 0 ∷ [])
    ≡ 0 ∷ 0 ∷ 0 ∷ 0 ∷ []
unfolding of_writes make offered full
not_worth = refl

-- "A bad sample by words is refused with 4": a bit above bit 39 in the last word; too few words; other probe counts
bad_words :
    map (write_number (full 16) 0)
    (sample 0 (2 ^ 40) ∷ calls (words 9 1000 []) ∷ calls (words 9 0 []) ∷ calls (words 9 1 (2 ∷ [])) ∷ calls (words 9 1 (1 ∷ []))
    ∷ [])
    ≡ 4 ∷ 4 ∷ 4 ∷ 4 ∷ 0 ∷ []
unfolding of_writes sample full
bad_words = refl

-- the writer "refuses a probe count of 0 with 4" (W-208)
no_probes : map (write_number (full 16) 0) (calls (count 9 0 0) ∷ calls (count 9 5 0) ∷ calls (count 9 5 1) ∷ []) ≡ 4 ∷ 4 ∷ 0 ∷ []
unfolding of_writes full
no_probes = refl

-- "lowest first": 5 before 6 before 7; "after those, a place without 16 bytes with 12"
order :
    map (write_number (full 15) 0)
    (offered 256 65536 4294967296 ∷ offered 0 65536 4294967296 ∷ offered 0 0 4294967296 ∷ offered 0 0 0
    ∷ make 256 2 9 ∷ make 1 2 9 ∷ make 5 0 9 ∷ make 1 1 9
    ∷ sample 0 (2 ^ 40) ∷ sample 0 0 ∷ calls (count 9 0 0) ∷ calls (count 9 0 1000) ∷ calls (poll 9) ∷ [])
    ≡ 5 ∷ 6 ∷ 7 ∷ 12 ∷ 1 ∷ 1 ∷ 1 ∷ 12 ∷ 4 ∷ 12 ∷ 4 ∷ 12 ∷ 12 ∷ []
unfolding of_writes make offered sample full
order = refl

-- a place without 16 bytes: past the last that has them, and near 2^64
places :
    map (λ (at : ℕ). write_number (full 20) at (calls (poll 9)))
    (0 ∷ 4 ∷ 5 ∷ 20 ∷ 21 ∷ (2 ^ 64 - 17) ∷ (2 ^ 64 - 16) ∷ (2 ^ 64 - 1) ∷ [])
    ≡ 0 ∷ 0 ∷ 12 ∷ 12 ∷ 12 ∷ 12 ∷ 12 ∷ 12 ∷ []
unfolding of_writes full
places = refl

-- "A refusal writes nothing."
nothing_written :
    map (log_after (full 16) 0) (make 256 0 9 ∷ sample 0 (2 ^ 40) ∷ offered 256 1 1 ∷ unknown ∷ [])
    ++ map (λ (at : ℕ). log_after (full 16) at (calls (poll 9))) (1 ∷ 16 ∷ (2 ^ 64 - 16) ∷ [])
    ≡ replicate 7 (full 16)
unfolding of_writes make sample offered full
nothing_written = refl

-- a record read and written back: of a poll, a make and a sample, "ignored fields" come back zero
again : List ℕ → List ℕ
again log = log_after log 0 (asked_by (record_at log 0))

ignored_zeroed :
    map again
    ((3 ∷ 1 ∷ 2 ∷ 3 ∷ 4 ∷ 5 ∷ 6 ∷ 7 ∷ 8 ∷ 9 ∷ 10 ∷ 11 ∷ 12 ∷ 13 ∷ 14 ∷ 15 ∷ [])
    ∷ (0 ∷ 2 ∷ 2 ∷ 3 ∷ 1 ∷ 0 ∷ 0 ∷ 0 ∷ 8 ∷ 9 ∷ 10 ∷ 11 ∷ 12 ∷ 13 ∷ 14 ∷ 15 ∷ [])
    ∷ (1 ∷ 1 ∷ 2 ∷ 3 ∷ 4 ∷ 5 ∷ 6 ∷ 7 ∷ 8 ∷ 9 ∷ 10 ∷ 11 ∷ 12 ∷ 13 ∷ 14 ∷ 15 ∷ [])
    ∷ (2 ∷ 1 ∷ 2 ∷ 3 ∷ 4 ∷ 5 ∷ 6 ∷ 7 ∷ 8 ∷ 9 ∷ 10 ∷ 11 ∷ 12 ∷ 13 ∷ 14 ∷ 15 ∷ [])
    ∷ [])
    ≡ (3 ∷ 0 ∷ 0 ∷ 0 ∷ 0 ∷ 0 ∷ 0 ∷ 0 ∷ 0 ∷ 0 ∷ 0 ∷ 0 ∷ 12 ∷ 13 ∷ 14 ∷ 15 ∷ [])
    ∷ (0 ∷ 2 ∷ 0 ∷ 0 ∷ 1 ∷ 0 ∷ 0 ∷ 0 ∷ 0 ∷ 0 ∷ 0 ∷ 0 ∷ 12 ∷ 13 ∷ 14 ∷ 15 ∷ [])
    ∷ (1 ∷ 0 ∷ 0 ∷ 0 ∷ 4 ∷ 5 ∷ 6 ∷ 7 ∷ 8 ∷ 9 ∷ 10 ∷ 11 ∷ 12 ∷ 13 ∷ 14 ∷ 15 ∷ [])
    ∷ (2 ∷ 1 ∷ 2 ∷ 3 ∷ 4 ∷ 5 ∷ 6 ∷ 7 ∷ 8 ∷ 9 ∷ 10 ∷ 11 ∷ 12 ∷ 13 ∷ 14 ∷ 15 ∷ [])
    ∷ []
unfolding of_writes again probes_in profile_in asked_by record_at four_at two_at
ignored_zeroed = refl

-- a kind 0 whose lifetime is neither 0 nor 1 does not come back: 1
no_way : write_number (full 16) 0 (asked_by (record_at (0 ∷ 1 ∷ 0 ∷ 0 ∷ 2 ∷ replicate 11 0) 0)) ≡ 1
unfolding of_writes full probes_in profile_in asked_by record_at four_at two_at
no_way = refl

-- "a kind 0 record that says 5 is outside W-206's way back" (W-213): it is read as one that says 0, and written so
five_again : map again ((0 ∷ 5 ∷ replicate 14 0) ∷ (0 ∷ 4 ∷ replicate 14 0) ∷ []) ≡ replicate 16 0 ∷ (0 ∷ 4 ∷ replicate 14 0) ∷ []
unfolding of_writes again probes_in profile_in asked_by record_at four_at two_at
five_again = refl

-- a sample's record with 0, 999, 1,000 and 20,000 as its lifetime: "a record that says 1,000 reads alike and is outside W-206's
-- way back" (W-208): it comes back as 0
sampled : (low high : ℕ) → List ℕ
sampled low high = 1 ∷ 0 ∷ 0 ∷ 0 ∷ low ∷ high ∷ 0 ∷ 0 ∷ 7 ∷ replicate 7 0

probes_again :
    map again (sampled 0 0 ∷ sampled 231 3 ∷ sampled 232 3 ∷ sampled 32 78 ∷ [])
    ≡ sampled 0 0 ∷ sampled 231 3 ∷ sampled 0 0 ∷ sampled 32 78 ∷ []
unfolding of_writes again sampled probes_in asked_by record_at four_at two_at
probes_again = refl
