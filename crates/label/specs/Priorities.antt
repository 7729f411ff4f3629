-- How long a packet of any priority waits: what stands before it, and what comes before it while it waits
-- (docs/LABEL.md, "How long may a status message wait?").
use Rattle.std.specs.Prelude.{ℕ, zero, suc, ◌+◌, ◌-◌, ◌*◌, ◌/◌, ◌≤◌, ◌<◌, ◌≡◌, List, [], ◌∷◌, map, length}
use Rattle.control.specs.Owed.{quiet}
use Rattle.model.specs.declared.Offer.{Offer}
use Rattle.model.specs.declared.Answer.TheVariants.{Taken}
use Rattle.model.specs.Fours.{Four, column}
use Rattle.model.specs.Calls.{Call, offer}
use Rattle.model.specs.Journal.{Entry, Journal}
use Rattle.model.specs.Delivery.{Among, offered_entry, OfferedBy}
use Rattle.label.specs.Trailer.{Run, Answers, book_of, onward, book_after, time_of, messages_in, ServedFrom}

-- how many are of a lower number than a priority: those go before it
abbrev pub below : {A : Type 0} → (priority : ℕ) → Four A → ℕ
below zero q = 0
below (suc zero) q = length q.c0
below (suc (suc zero)) q = length q.c0 + length q.c1
below (suc (suc (suc n))) q = length q.c0 + length q.c1 + length q.c2

-- a packet that is TAKEN at the end of a run, and calls behind it
pub record Wait (by : Answers) : Type 0 where
  pub run : Run
  pub stamp : ℕ
  pub packet : Offer
  pub taken : by.next run (offer stamp packet) ≡ Taken
  pub during : List Call

-- the run with its offer
abbrev pub with_offer : {by : Answers} → Wait by → Run
with_offer w = onward w.run (offer w.stamp w.packet ∷ [])

-- the book right behind the offer, and at the end
abbrev pub when_it_came : {by : Answers} → Wait by → Journal
when_it_came {by} w = book_of by (with_offer w)

abbrev pub since_it_came : {by : Answers} → Wait by → Journal
since_it_came {by} w = book_after by (with_offer w) w.during

-- its entry
abbrev pub its : {by : Answers} → Wait by → Entry
its {by} w = offered_entry (book_of by w.run) w.stamp w.packet

-- it waits still
abbrev pub WaitsStill : {by : Answers} → Wait by → Type 0
WaitsStill w = Among (its w) (column w.packet.priority (since_it_came w).columns)

-- "before it": of its own queue, and of lower numbers
abbrev pub before : {by : Answers} → Wait by → ℕ
before w = (its w).above + below w.packet.priority (when_it_came w).columns

-- "of lower number, TAKEN while it waits"
abbrev pub meanwhile : {by : Answers} → Wait by → ℕ
meanwhile w =
    below w.packet.priority (since_it_came w).offers - below w.packet.priority (when_it_came w).offers

-- the packets that went since it came
abbrev pub went : {by : Answers} → Wait by → ℕ
went {by} w = messages_in by (with_offer w) w.during

-- "while it waits, no more packets go than were before it and of lower number came meanwhile"
abbrev pub InItsTurn : Answers → Type 0
InItsTurn by = (w : Wait by) → WaitsStill w → went w ≤ before w + meanwhile w

-- "polled at least every p, and something waiting at each poll"
abbrev pub ServedSince : (p : ℕ) → {by : Answers} → Wait by → Type 0
ServedSince p {by} w = ServedFrom by p (with_offer w) w.during

-- the time for which it has waited
abbrev pub waited : {by : Answers} → Wait by → ℕ
waited {by} w = time_of by (with_offer w) w.during

-- "(before it + meanwhile + 1) x (floor + p)"
abbrev pub WaitsAtMost : Answers → Type 0
WaitsAtMost by =
    (p : ℕ) (w : Wait by) → ServedSince p w → WaitsStill w
    → waited w ≤ suc (before w + meanwhile w) * (quiet w.run.making.profile + p)

-- "(k + 1) x (floor + p)" for a warning, of priority 0, with k before it (model/specs/Delivery)
abbrev pub WarningsGo : Answers → Type 0
WarningsGo by =
    (p : ℕ) (w : Wait by) → w.packet.priority ≡ 0
    → OfferedBy (quiet w.run.making.profile) w.run.making p (its w) (when_it_came w)
    (by.since (with_offer w) w.during)

-- "of lower numbers at most one comes in any so many µs": one when it came, and one more for each such time
-- that has passed
abbrev pub OneEvery : (every : ℕ) → {by : Answers} → Wait by → Type 0
OneEvery every w = meanwhile w * every ≤ waited w + every

-- "(before it + 2) x (floor + p) x every / (every - (floor + p))": the others take floor + p of every such
-- time
abbrev pub among_others : (profile p every before : ℕ) → ℕ
among_others profile p every before =
    (before + 2) * (quiet profile + p) * every / (every - (quiet profile + p))

-- then, where they come less often than packets go, it waits for at most that
abbrev pub WaitsAmongOthers : Answers → Type 0
WaitsAmongOthers by =
    (p every : ℕ) (w : Wait by) → ServedSince p w → WaitsStill w → OneEvery every w
    → quiet w.run.making.profile + p < every
    → waited w ≤ among_others w.run.making.profile p every (before w)

-- "a warning every 2.2 s, 5 s or 10 s", polled every 50 ms, none before it: at most so long in profile 1
abbrev pub AmongWarnings : Type 0
AmongWarnings =
    map (λ every. among_others 1 50000 every 0) (2200000 ∷ 5000000 ∷ 10000000 ∷ [])
    ≡ 4024717 ∷ 2661433 ∷ 2348865 ∷ []
