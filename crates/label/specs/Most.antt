-- The most that a profile admits in a stretch of time, from its constants, and so the most that is heard of
-- it (docs/LABEL.md, "The figures").
use Rattle.std.specs.Prelude.{ℕ, suc, ◌+◌, ◌-◌, ◌*◌, ◌/◌, ◌%◌, ◌≤◌, min, ◌≡◌, Bool, cond, List, [], ◌∷◌, map}
use Rattle.rules.specs.declared.Limits.{Limits}
use Rattle.rules.specs.Profiles.{limits_of}
use Rattle.rules.specs.Wait.{ceil_div}
use Rattle.control.specs.Owed.{spare, second, least_gap, claims_ceiling}
use Rattle.model.specs.Journal.{air_in}
use Rattle.model.specs.Claims.{All, most_in_second}
use Rattle.label.specs.Trailer.{Run, Answers, book_of}
use Rattle.label.specs.Site.{sum}
use Rattle.label.specs.Restarts.{Started, sent_in_all, Restarts}
use Rattle.label.specs.OnAir.{on_air}

-- from the admission of a longest packet to the next admission, at least: the shortest wait, from where it
-- starts
abbrev pub stride : Limits → ℕ
stride l = l.fromend * l.ontime + l.leastwait

-- by the waits alone: as many longest packets as start in w µs, a stride apart; and where the last stride
-- that is begun leaves more than the shortest wait, so much more in one packet more
abbrev pub by_waits : Limits → (w : ℕ) → ℕ
by_waits l w = suc ((w - 1) / stride l) * l.ontime + ((w - 1) % stride l - l.leastwait)

-- by W-207: 30 ms for each second, the last one begun
abbrev pub by_second : (w : ℕ) → ℕ
by_second w = ceil_div w second * most_in_second

-- by the ceiling, whose window of w - 1 µs has both its ends
abbrev pub by_ceiling : (w : ℕ) → ℕ
by_ceiling w = (3 * (w - 1) + spare) / 100

-- by both, where the ceiling is claimed
abbrev pub by_claims : (claims : Bool) → (w : ℕ) → ℕ
by_claims claims w = cond claims (min (by_second w) (by_ceiling w)) (by_second w)

-- the least of what a profile is held to
unfoldable pub most : (profile w : ℕ) → ℕ
most profile w = min (by_waits (limits_of profile) w) (by_claims (claims_ceiling profile) w)

-- runs of one profile, one after the other
pub record Alike (by : Answers) (profile : ℕ) : Type 0 where
  pub runs : List Started
  pub restarts : Restarts by runs
  pub same : All (λ (s : Started). s.run.making.profile ≡ profile) runs

-- "admitted in any stretch, its end not counted, at most"; and so much is on air in it, at most, where it is
-- 25 ms or longer
pub record AtMost (by : Answers) (profile w : ℕ) : Type 0 where
  pub admitted : (r : Run) → r.making.profile ≡ profile
      → (from : ℕ) → air_in from (from + w) (book_of by r).admissions ≤ most profile w
  pub heard_on_air : least_gap ≤ w → (r : Run) → r.making.profile ≡ profile
      → (from : ℕ) → on_air from (from + w) (book_of by r).admissions ≤ most profile w
  -- and across restarts
  pub admitted_in_all : (rs : Alike by profile) (from : ℕ)
      → air_in from (from + w) (sent_in_all by rs.runs) ≤ most profile w
  pub on_air_in_all : least_gap ≤ w
      → (rs : Alike by profile) (from : ℕ) → on_air from (from + w) (sent_in_all by rs.runs) ≤ most profile w

abbrev pub MostHolds : Answers → Type 0
MostHolds by = (profile w : ℕ) → AtMost by profile w

-- "n trailers together": each one's most, added up. Each one's stretch starts at a time of its own clock
abbrev pub TogetherOnAir : Answers → Type 0
TogetherOnAir by =
    (w : ℕ) → least_gap ≤ w → (ts : List (Run × ℕ))
    → sum (λ (t : Run × ℕ). on_air t.1 (t.1 + w) (book_of by t.0).admissions) ts
    ≤ sum (λ (t : Run × ℕ). most t.0.making.profile w) ts

-- the heads of the label's table: "in any 0.1 s", "0.5 s", "1 s", "1.5 s", "10 s", "minute", "hour"
abbrev pub stretches : List ℕ
stretches = 100000 ∷ 500000 ∷ 1000000 ∷ 1500000 ∷ 10000000 ∷ 60000000 ∷ 3600000000 ∷ []

-- a profile's figures for them
abbrev pub MostIs : (profile : ℕ) → (figures : List ℕ) → Type 0
MostIs profile figures = map (most profile) stretches ≡ figures

-- in profiles 3 and 4 the 30 ms of each second are the least of a second, a minute and an hour
abbrev pub MostByProfile : Type 0
MostByProfile =
    MostIs 1 (1000 ∷ 5000 ∷ 10000 ∷ 15000 ∷ 100000 ∷ 595000 ∷ 35644000 ∷ [])
    × MostIs 2 (1000 ∷ 5000 ∷ 10000 ∷ 15000 ∷ 99500 ∷ 594500 ∷ 35644000 ∷ [])
    × MostIs 3 (6999 ∷ 18999 ∷ 30000 ∷ 48999 ∷ 300000 ∷ 1800000 ∷ 108000000 ∷ [])
    × MostIs 4 (16000 ∷ 30000 ∷ 30000 ∷ 60000 ∷ 300000 ∷ 1800000 ∷ 108000000 ∷ [])
    × MostIs 5 (3000 ∷ 13000 ∷ 25000 ∷ 37000 ∷ 244000 ∷ 1464000 ∷ 87805000 ∷ [])

-- a run of a profile that reaches the most in its first w µs, admitted and on air
pub record Reached (by : Answers) (profile w : ℕ) : Type 0 where
  pub run : Run
  pub its_profile : run.making.profile ≡ profile
  pub admitted : air_in 0 w (book_of by run).admissions ≡ most profile w
  pub heard_on_air : on_air 0 w (book_of by run).admissions ≡ most profile w

-- in a second, a minute and an hour
abbrev pub ReachedBy : Answers → (profile : ℕ) → Type 0
ReachedBy by profile =
    Reached by profile 1000000 × Reached by profile 60000000 × Reached by profile 3600000000

-- so no figure could be less
abbrev pub MostReached : Answers → Type 0
MostReached by = ReachedBy by 1 × ReachedBy by 2 × ReachedBy by 3 × ReachedBy by 4 × ReachedBy by 5
