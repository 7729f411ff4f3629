-- A word in numbers: its age is the quotient and its on-time the remainder by 4,096, so each is found again, and a gap times
-- 4,096 adds to the age alone.
use Prim.Native.Nat.{ℕ, ◌+◌, ◌-◌, ◌*◌, ◌≤◌, ◌<◌}
use mathlib.Core.Path.{◌≡◌, ◌∙◌}
use mathlib.Core.List.{List}
use native.Mathlib.Omega.{arith}
use lib.ListN.{length, take, length-map}
use lib.Seq.{length-take-le}
use Rattle.model.specs.declared.Admission.{Admission}
use Rattle.model.specs.Ledger.{full_age}
use Rattle.ledger.specs.Layout.{unit, age_in, ontime_in, admission_in, word_of, Fitting, read_from}

pub age_read : (age ontime : ℕ) → ontime < unit → age_in (age * unit + ontime) ≡ age
age_read age ontime h = omega arith

pub ontime_read : (age ontime : ℕ) → ontime < unit → ontime_in (age * unit + ontime) ≡ ontime
ontime_read age ontime h = omega arith

pub age_moved : (w gap : ℕ) → age_in (w + gap * unit) ≡ age_in w + gap
age_moved w gap = omega arith

pub ontime_moved : (w gap : ℕ) → ontime_in (w + gap * unit) ≡ ontime_in w
ontime_moved w gap = omega arith

pub same_admission : (a b : Admission) → a.at ≡ b.at → a.ontime ≡ b.ontime → a ≡ b
same_admission a b e f = λ i. record { at = e i; ontime = f i }

-- written and read
pub word_read : (base : ℕ) (a : Admission) → Fitting base a → admission_in base (word_of base a) ≡ a
word_read base a h =
    same_admission _ _ (omega (arith, age_read (base - a.at) a.ontime h.1))
    (ontime_read (base - a.at) a.ontime h.1)

-- read and written
pub read_word : (base w : ℕ) → age_in w ≤ base → word_of base (admission_in base w) ≡ w
read_word base w h = omega arith

-- what is read fits
pub fitting : (base w : ℕ) → Fitting base (admission_in base w)
fitting base w = (omega arith, omega arith)

-- a gap later
pub word_moved : (base now : ℕ) (a : Admission) → base ≤ now → a.at ≤ base
    → word_of base a + (now - base) * unit ≡ word_of now a
word_moved base now a b h = omega arith

-- what is young fits 32 bits: less than 1,000,000 times 4,096
pub word_fits : (base now : ℕ) (a : Admission) → base ≤ now → Fitting base a → now < a.at + full_age
    → word_of base a + (now - base) * unit ≤ 4294967295
word_fits base now a b h y = omega (arith, h.0, h.1)

-- as many are read as are asked for
pub length_read : (base n : ℕ) (ws : List ℕ) → n ≤ length ws → length (read_from base (take n ws)) ≡ n
length_read base n ws k = length-map (take n ws) (λ (w : ℕ). admission_in base w) ∙ length-take-le n ws k
