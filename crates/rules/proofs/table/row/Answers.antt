-- Each row is the definition's: the checker computes the rule at its sixteen places, and compares.
use Rattle.std.proofs.Common.{◌≡◌, ℕ, ◌+◌, ◌≤◌, refl, arith}
use Rattle.rules.specs.Harmonised.{factor_of}
use Rattle.rules.specs.Table.{values, entries_from, factor_table, factor_row}
use Rattle.rules.proofs.table.row.Goals as goal

computing : Type 0
unfolding values factor_of factor_table factor_row entries_from
computing = Unit {0}

pub returns-in-38 : goal.returns-in-38
unfolding computing
returns-in-38 c = rw c.in-38.is refl

pub returns-in-39 : goal.returns-in-39
unfolding computing
returns-in-39 c = rw c.in-39.is refl

pub returns-in-40 : goal.returns-in-40
unfolding computing
returns-in-40 c = rw c.in-40.is refl

pub returns-in-41 : goal.returns-in-41
unfolding computing
returns-in-41 c = rw c.in-41.is refl

pub returns-in-42 : goal.returns-in-42
unfolding computing
returns-in-42 c = rw c.in-42.is refl

pub returns-in-43 : goal.returns-in-43
unfolding computing
returns-in-43 c = rw c.in-43.is refl

pub returns-in-44 : goal.returns-in-44
unfolding computing
returns-in-44 c = rw c.in-44.is refl

pub returns-in-45 : goal.returns-in-45
unfolding computing
returns-in-45 c = rw c.in-45.is refl

pub returns-in-46 : goal.returns-in-46
unfolding computing
returns-in-46 c = rw c.in-46.is refl

pub returns-in-47 : goal.returns-in-47
unfolding computing
returns-in-47 c = rw c.in-47.is refl

pub returns-in-48 : goal.returns-in-48
unfolding computing
returns-in-48 c = rw c.in-48.is refl

pub returns-in-49 : goal.returns-in-49
unfolding computing
returns-in-49 c = rw c.in-49.is refl

pub returns-in-50 : goal.returns-in-50
unfolding computing
returns-in-50 c = rw c.in-50.is refl

pub returns-in-51 : goal.returns-in-51
unfolding computing
returns-in-51 c = rw c.in-51.is refl

pub returns-in-52 : goal.returns-in-52
unfolding computing
returns-in-52 c = rw c.in-52.is refl

pub returns-in-53 : goal.returns-in-53
unfolding computing
returns-in-53 c = rw c.in-53.is refl

pub returns-in-54 : goal.returns-in-54
unfolding computing
returns-in-54 c = rw c.in-54.is refl

pub returns-in-55 : goal.returns-in-55
unfolding computing
returns-in-55 c = rw c.in-55.is refl

pub returns-in-56 : goal.returns-in-56
unfolding computing
returns-in-56 c = rw c.in-56.is refl

pub returns-in-57 : goal.returns-in-57
unfolding computing
returns-in-57 c = rw c.in-57.is refl

pub returns-in-58 : goal.returns-in-58
unfolding computing
returns-in-58 c = rw c.in-58.is refl

pub returns-in-59 : goal.returns-in-59
unfolding computing
returns-in-59 c = rw c.in-59.is refl

pub returns-in-60 : goal.returns-in-60
unfolding computing
returns-in-60 c = rw c.in-60.is refl

pub returns-in-61 : goal.returns-in-61
unfolding computing
returns-in-61 c = rw c.in-61.is refl

-- a row that is at least n and not n is one of those after it
past : {k : ℕ} (n : ℕ) → n ≤ k → (k ≡ n → ⊥) → n + 1 ≤ k
past n h f = omega (arith, f)

pub returns-in_default : goal.returns-in_default
unfolding computing
returns-in_default c =
    let last_row : c.args.k ≡ 62 =
    let r = c.in_default.in_default-own.rest in
    let p38 = c.requires.le_k in
    let p39 = past 38 p38 r.0.0.0.0.0.0.0.0.0.0.0.0.0.0.0.0.0.0.0.0.0.0.0.1 in
    let p40 = past 39 p39 r.0.0.0.0.0.0.0.0.0.0.0.0.0.0.0.0.0.0.0.0.0.0.1 in
    let p41 = past 40 p40 r.0.0.0.0.0.0.0.0.0.0.0.0.0.0.0.0.0.0.0.0.0.1 in
    let p42 = past 41 p41 r.0.0.0.0.0.0.0.0.0.0.0.0.0.0.0.0.0.0.0.0.1 in
    let p43 = past 42 p42 r.0.0.0.0.0.0.0.0.0.0.0.0.0.0.0.0.0.0.0.1 in
    let p44 = past 43 p43 r.0.0.0.0.0.0.0.0.0.0.0.0.0.0.0.0.0.0.1 in
    let p45 = past 44 p44 r.0.0.0.0.0.0.0.0.0.0.0.0.0.0.0.0.0.1 in
    let p46 = past 45 p45 r.0.0.0.0.0.0.0.0.0.0.0.0.0.0.0.0.1 in
    let p47 = past 46 p46 r.0.0.0.0.0.0.0.0.0.0.0.0.0.0.0.1 in
    let p48 = past 47 p47 r.0.0.0.0.0.0.0.0.0.0.0.0.0.0.1 in
    let p49 = past 48 p48 r.0.0.0.0.0.0.0.0.0.0.0.0.0.1 in
    let p50 = past 49 p49 r.0.0.0.0.0.0.0.0.0.0.0.0.1 in
    let p51 = past 50 p50 r.0.0.0.0.0.0.0.0.0.0.0.1 in
    let p52 = past 51 p51 r.0.0.0.0.0.0.0.0.0.0.1 in
    let p53 = past 52 p52 r.0.0.0.0.0.0.0.0.0.1 in
    let p54 = past 53 p53 r.0.0.0.0.0.0.0.0.1 in
    let p55 = past 54 p54 r.0.0.0.0.0.0.0.1 in
    let p56 = past 55 p55 r.0.0.0.0.0.0.1 in
    let p57 = past 56 p56 r.0.0.0.0.0.1 in
    let p58 = past 57 p57 r.0.0.0.0.1 in
    let p59 = past 58 p58 r.0.0.0.1 in
    let p60 = past 59 p59 r.0.0.1 in
    let p61 = past 60 p60 r.0.1 in
    let p62 = past 61 p61 r.1 in
    omega (arith, p62, c.requires.k_bound) in
    rw last_row refl
