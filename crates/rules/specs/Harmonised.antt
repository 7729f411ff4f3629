-- The wait of the harmonised profile, and that rounding never makes it shorter (document 02, W-209).
use Rattle.std.specs.Prelude.{ℕ, ◌+◌, ◌-◌, ◌*◌, ◌/◌, ◌<◌, ◌≤◌, cond, nat_le}
use Rattle.rules.specs.declared.Harmonised.{Harmonised}
use Rattle.rules.specs.Profiles.{profile4}
use Rattle.rules.specs.Duty.{held}
use Rattle.rules.specs.Wait.{ceil_div}

-- "let c be the latest load in per mille, rounded up"
unfoldable pub per_mille : (load : ℕ) → ℕ
per_mille load = ceil_div load 1000

-- "the factor is 3,999 − floor(2,480,000 / c)", above 620; "with 0 up to 620" (W-210)
unfoldable pub factor_of : Harmonised → (c : ℕ) → ℕ
factor_of h c = cond (nat_le c h.calm) 0 (h.top - h.scale / c)

-- "For c at most 620 the wait is 25,000. Above that .. the wait is the factor times the last on-time, held
-- within 25,000 to 1,000,000."
unfoldable pub harmonised_wait : Harmonised → (ontime load : ℕ) → ℕ
harmonised_wait h ontime load =
    cond (nat_le (per_mille load) h.calm) h.limits.leastwait
    (held h.limits.leastwait h.limits.mostwait (factor_of h (per_mille load) * ontime))

-- "for a load L above 620,000, a wait below 1,000,000 has wait × L at least on-time × (3,999 × L −
-- 2,480,000,000)", of every load and every on-time. The minus is cut off at 0
abbrev pub NeverShorter : Type 0
NeverShorter =
    (load ontime : ℕ)
    → 620000 < load
    → harmonised_wait profile4 ontime load < 1000000
    → ontime * (3999 * load - 2480000000) ≤ harmonised_wait profile4 ontime load * load

-- the same with the minus carried over. Up to a load of 620,155 the bracket is below zero, and this says
-- more: nothing is cut off
abbrev pub NeverShorterWhole : Type 0
NeverShorterWhole =
    (load ontime : ℕ)
    → 620000 < load
    → harmonised_wait profile4 ontime load < 1000000
    → ontime * (3999 * load) ≤ harmonised_wait profile4 ontime load * load + ontime * 2480000000
