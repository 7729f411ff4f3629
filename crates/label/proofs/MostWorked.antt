-- What is heard of a packet, and the most by the waits, on small numbers: each side computes to the other.
use Prim.Native.Nat.{ℕ}
use mathlib.Core.Path.{◌≡◌, refl}
use mathlib.Core.List.{[], ◌∷◌, map}
use Rattle.rules.specs.declared.Limits.{Limits}
use Rattle.rules.specs.Profiles.{within}
use Rattle.control.specs.Owed.{claims_ceiling}
use Rattle.model.specs.declared.Admission.{Admission}
use Rattle.model.specs.Journal.{air_in}
use Rattle.label.specs.OnAir.{heard, on_air}
use Rattle.label.specs.Most.{by_waits, by_second, by_ceiling, most}

abbrev admission : (at ontime : ℕ) → Admission
admission at ontime = record { at = at; ontime = ontime }

-- from 10 up to 20: whole, cut as the stretch begins, cut as it ends, longer than it, over before it, begun behind it
parts_heard :
    map (heard 10 20)
    (admission 12 5 ∷ admission 8 5 ∷ admission 18 5 ∷ admission 5 30 ∷ admission 4 6 ∷ admission 20 5 ∷ [])
    ≡ 5 ∷ 3 ∷ 2 ∷ 10 ∷ 0 ∷ 0 ∷ []
unfolding heard
parts_heard = refl

-- a packet is admitted whole where it begins, and heard where it is on air
admitted_and_heard :
    map (λ from. air_in from 20 (admission 18 5 ∷ admission 8 5 ∷ [])) (8 ∷ 9 ∷ [])
    ≡ 10 ∷ 5 ∷ []
unfolding air_in
admitted_and_heard = refl

heard-of_both : map (λ from. on_air from 20 (admission 18 5 ∷ admission 8 5 ∷ [])) (8 ∷ 9 ∷ []) ≡ 7 ∷ 6 ∷ []
unfolding on_air heard
heard-of_both = refl

-- packets of 4 µs at most and waits of 10. From the end: one in 11 µs; in 12 there is time for 1 µs and a second one, at 11; in
-- 15 for two longest ones. From the start: two from 11 on
abbrev limits : (fromend : ℕ) → Limits
limits fromend = record { ontime = 4; fromend = fromend; leastwait = 10; mostwait = 20 }

small_waits :
    map (by_waits (limits 1)) (1 ∷ 11 ∷ 12 ∷ 14 ∷ 15 ∷ 25 ∷ 26 ∷ 29 ∷ [])
    ≡ 4 ∷ 4 ∷ 5 ∷ 7 ∷ 8 ∷ 8 ∷ 9 ∷ 12 ∷ []
small_waits = refl

from_the_start : map (by_waits (limits 0)) (1 ∷ 10 ∷ 11 ∷ 20 ∷ 21 ∷ []) ≡ 4 ∷ 4 ∷ 8 ∷ 8 ∷ 12 ∷ []
from_the_start = refl

-- which of the three it is, in 0.1 s, 0.5 s, 1 s and 1.5 s of profile 3: the ceiling, the ceiling, the second, the ceiling
which_binds :
    (map (most 3) (100000 ∷ 500000 ∷ 1000000 ∷ 1500000 ∷ []) ≡ 6999 ∷ 18999 ∷ 30000 ∷ 48999 ∷ [])
    × (map by_ceiling (100000 ∷ 500000 ∷ 1000000 ∷ 1500000 ∷ []) ≡ 6999 ∷ 18999 ∷ 33999 ∷ 48999 ∷ [])
    × (map by_second (100000 ∷ 500000 ∷ 1000000 ∷ 1500000 ∷ []) ≡ 30000 ∷ 30000 ∷ 30000 ∷ 60000 ∷ [])
unfolding most claims_ceiling within
which_binds = (refl, refl, refl)

-- profile 4 has no ceiling: a µs more than 0.174 s takes seven longest packets, and 0.203 s would take eight by the waits
without_ceiling : map (most 4) (174000 ∷ 174001 ∷ 203001 ∷ []) ≡ 27999 ∷ 28000 ∷ 30000 ∷ []
unfolding most claims_ceiling within
without_ceiling = refl
