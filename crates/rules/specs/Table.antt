-- Profile 4's factor by a table, and the wait by it (document 02, W-210).
use Rattle.std.specs.Prelude.{◌≡◌, ℕ, zero, suc, ◌*◌, ◌≤◌, List, [], ◌∷◌, drop, slice_index}
use Rattle.rules.specs.Profiles.{profile4, full_load}
use Rattle.rules.specs.Duty.{held}
use Rattle.rules.specs.Harmonised.{per_mille, factor_of, harmonised_wait}

-- n values of a rule, from place i on
unfoldable pub values : (rule : ℕ → ℕ) → (i n : ℕ) → List ℕ
values rule i zero = []
values rule i (suc n) = rule i ∷ values rule (suc i) n

-- the first n of a list's numbers, zeros behind its end
unfoldable pub entries_from : (n : ℕ) → List ℕ → List ℕ
entries_from zero xs = []
entries_from (suc n) [] = 0 ∷ entries_from n []
entries_from (suc n) (x ∷ xs) = x ∷ entries_from n xs

-- "A table of 1,001 whole numbers, one for each per mille, replaces the factor, with 0 up to 620.": the
-- factor's rule over all entries at once
unfoldable pub factor_table : List ℕ
factor_table = values (factor_of profile4) 0 1001

-- sixteen entries from place 16 k on, zeros behind the last entry of the table
unfoldable pub factor_row : (k : ℕ) → List ℕ
factor_row k = entries_from 16 (drop (16 * k) factor_table)

-- the wait with the factor from the table. Where that is 0, what is held is the wait of a calm channel
unfoldable pub table_wait : (ontime load : ℕ) → ℕ
table_wait ontime load =
    held profile4.limits.leastwait profile4.limits.mostwait
    (slice_index factor_table (per_mille load) * ontime)

-- the rule holds of each entry
abbrev pub EachEntry : Type 0
EachEntry = (c : ℕ) → c ≤ 1000 → slice_index factor_table c ≡ factor_of profile4 c

-- the waits with the table and with the formula are alike, for every on-time and every load
abbrev pub WaitsAlike : Type 0
WaitsAlike =
    (ontime load : ℕ) → load ≤ full_load → table_wait ontime load ≡ harmonised_wait profile4 ontime load
