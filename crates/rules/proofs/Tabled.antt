-- What the table has at a place is its rule there, by walking the places; and where the factor is 0, what is held is the least
-- wait. So the waits with the table and with the formula are alike.
use Rattle.std.proofs.Common.{◌≡◌, ℕ, zero, suc, ◌+◌, ◌*◌, ◌/◌, ◌%◌, ◌<◌, ◌≤◌, leb, List, [], ◌∷◌, get_or, drop, refl, ap, ◌∙◌}
use Rattle.std.proofs.Common.{zero-add, arith, get_or-drop, le-leb}
use Rattle.rules.specs.Profiles.{profile4, full_load}
use Rattle.rules.specs.Duty.{held}
use Rattle.rules.specs.Harmonised.{per_mille, factor_of, harmonised_wait}
use Rattle.rules.specs.Table.{values, entries_from, factor_table, factor_row, table_wait, EachEntry, WaitsAlike}
use Rattle.rules.proofs.Cases.{split}

-- entry k of n values from i on
value_at : (f : ℕ → ℕ) (i n k : ℕ) → k < n → get_or (values f i n) k 0 ≡ f (i + k)
unfolding values
value_at f i zero k h = absurd (omega arith)
value_at f i (suc n) zero h = let e : i ≡ i + 0 = omega arith in ap f e
value_at f i (suc n) (suc k) h =
    let e : suc i + k ≡ i + suc k = omega arith in
    value_at f (suc i) n k (omega arith) ∙ ap f e

pub each_entry : EachEntry
unfolding factor_table
each_entry c h = value_at (factor_of profile4) 0 1001 c (omega arith) ∙ ap (factor_of profile4) (zero-add c)

-- up to 620 per mille it is 0
pub calm_entry : (c : ℕ) → c ≤ 620 → get_or factor_table c 0 ≡ 0
unfolding factor_of
calm_entry c h = each_entry c (omega arith) ∙ rw (le-leb c 620 h)

-- the first n of a list have at place i what the list has there, 0 behind its end
get_d_entries : (n : ℕ) (xs : List ℕ) (i : ℕ) → i < n → get_or (entries_from n xs) i 0 ≡ get_or xs i 0
unfolding entries_from
get_d_entries zero xs i h = absurd (omega arith)
get_d_entries (suc n) [] zero h = refl
get_d_entries (suc n) [] (suc i) h = get_d_entries n [] i (omega arith)
get_d_entries (suc n) (x ∷ xs) zero h = refl
get_d_entries (suc n) (x ∷ xs) (suc i) h = get_d_entries n xs i (omega arith)

-- an entry of the table is that of its row
pub row_entry : (c : ℕ) → get_or (factor_row (c / 16)) (c % 16) 0 ≡ get_or factor_table c 0
unfolding factor_row
row_entry c =
    let e : 16 * (c / 16) + c % 16 ≡ c = omega arith in
    get_d_entries 16 (drop (16 * (c / 16)) factor_table) (c % 16) (omega arith)
    ∙ get_or-drop (16 * (c / 16)) factor_table (c % 16) 0
    ∙ ap (λ (i : ℕ). get_or factor_table i 0) e

pub factor_le : (c : ℕ) → factor_of profile4 c ≤ profile4.top
unfolding factor_of
factor_le c = split (leb c 620) (λ e. rw e (omega arith)) (λ e. rw e (omega arith))

-- every entry is at most 3,999
pub entry_le : (c : ℕ) → c ≤ 1000 → get_or factor_table c 0 ≤ profile4.top
entry_le c h = omega (arith, each_entry c h, factor_le c)

-- a load in per mille is a place of the table
pub place : (load : ℕ) → load ≤ full_load → per_mille load ≤ 1000
unfolding per_mille
place load h = omega arith

by_factor : (ontime load : ℕ)
    → held profile4.limits.leastwait profile4.limits.mostwait (factor_of profile4 (per_mille load) * ontime)
    ≡ harmonised_wait profile4 ontime load
unfolding factor_of harmonised_wait
by_factor ontime load = split (leb (per_mille load) 620) (λ e. rw e (omega arith)) (λ e. rw e)

pub waits_alike : WaitsAlike
unfolding table_wait
waits_alike ontime load h =
    ap (λ (f : ℕ). held 25000 1000000 (f * ontime)) (each_entry (per_mille load) (place load h)) ∙ by_factor ontime load
