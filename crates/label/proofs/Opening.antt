-- Once the wait after the newest admission is over and the second has room, a poll that finds a packet sends it; and CLOSED's
-- number, the least time after which it would go, is over by then.
use Prim.Native.Nat.{ℕ, ◌+◌, ◌-◌, ◌≤◌}
use mathlib.Core.Path.{◌≡◌, refl, ap, sym, ◌∙◌, subst}
use mathlib.Core.Bool.{true, false, ◌&&◌}
use mathlib.Core.List.{List, [], ◌∷◌}
use native.Mathlib.Omega.{arith}
use lib.Dec.{leb, ltb, eqb}
use lib.ListN.{take}
use borrow.Author.Tests.{leb-true, le-leb, le-ltb}
use Rattle.rules.proofs.Cases.{split, on_test, clash}
use Rattle.rules.proofs.Tests.{tested}
use Rattle.control.specs.Wait.{closed_after}
use Rattle.model.specs.declared.Packet.{Packet}
use Rattle.model.specs.declared.Answer.TheVariants.{Sent}
use Rattle.model.specs.Fours.{column}
use Rattle.model.specs.Queues.{choice}
use Rattle.model.specs.Calls.{poll, is_sent, is_refused}
use Rattle.model.specs.State.{View}
use Rattle.model.specs.Ledger.{most_air, young, air_of, air_allows}
use Rattle.model.specs.Effects.{refreshed, closed, may_send, polled}
use Rattle.model.specs.Gate.{call, waited}
use Rattle.model.specs.Journal.{Entry, Journal, turned, lowest, top, at_poll, last_second}
use Rattle.model.specs.Claims.{All, most_in_second}
use Rattle.model.proofs.AnySecond.{young_last}
use Rattle.model.proofs.Closing.{closed_is_least}
use Rattle.model.proofs.Columns.{choice_by}
use Rattle.model.proofs.Demand3.{sends_open}
use Rattle.model.proofs.Sound.{test_view}
use Rattle.model.proofs.Invariant.{Tied, refreshed_tied, chosen_lowest}
use Rattle.label.specs.Trailer.{Run, view_at_end, journal}
use Rattle.label.specs.Calm.{HasRoom}
use Rattle.label.proofs.Restarts.{in_run}
use Rattle.label.proofs.Shorter.{Shorter, poll_shorter, column_slim}
use Rattle.label.proofs.Steps.{OpensBy}

-- the wait after the last admission of a view, if there was one, is over by a time
abbrev pub WaitOver : View → (now : ℕ) → Type 0
WaitOver v now =
    eqb v.last.admitted 1 ≡ true → v.last.at + closed_after v.control v.last.ontime ≤ now

not-closed : (v : View) → WaitOver v v.clock.time → closed v ≡ false
unfolding closed
not-closed v h =
    on_test (λ u. u && ltb (v.clock.time - v.last.at) (closed_after v.control v.last.ontime) ≡ false)
    (eqb v.last.admitted 1)
    (λ e. le-ltb (v.clock.time - v.last.at) (closed_after v.control v.last.ontime) (omega (arith, h e)))
    (λ e. refl)

module _ (ontime : ℕ) (r : Run) (short : Shorter ontime (journal r)) where
  abbrev v : View
  v = view_at_end r

  abbrev j : Journal
  j = journal r

  -- the wait is over, and the second has room for the longest packet
  pub record OpenAt (now : ℕ) : Type 0 where
    pub over : WaitOver v now
    pub room : ontime + air_of (last_second now j.admissions) ≤ most_in_second

  module _ (stamp : ℕ) (some : top (at_poll j stamp).columns ≡ [] → ⊥) where
    abbrev w : View
    w = refreshed v stamp

    abbrev found : List Entry
    found = column (lowest (at_poll j stamp).columns) (at_poll j stamp).columns

    tied : Tied w (at_poll j stamp)
    tied = refreshed_tied v j stamp (in_run r).tied

    found_short : (l : Entry) (ls : List Entry) → found ≡ l ∷ ls → l.packet.ontime ≤ ontime
    found_short l ls e =
        let waiting = (poll_shorter ontime j stamp short).waiting in
        let all = column_slim ontime (lowest (at_poll j stamp).columns) (at_poll j stamp).columns waiting in
        (rw e at all).0

    -- the second has room for the packet of an entry
    abbrev Roomy : Entry → Type 0
    Roomy l = l.packet.ontime + air_of (last_second (turned j stamp).time j.admissions) ≤ most_in_second

    goes : WaitOver v (turned j stamp).time → ((l : Entry) (ls : List Entry) → found ≡ l ∷ ls → Roomy l)
        → is_refused (call v (poll stamp)).answer ≡ false → (q : Packet) × ((call v (poll stamp)).answer ≡ Sent q)
    goes over room accepted =
        sends_open v j (in_run r).tied stamp (test_view v (in_run r).sounds) some
        (λ u. let n = not-closed w (λ e. omega (arith, over e, tied.time)) in clash (cc))
        (λ l ls e k. rw tied.followed.same (le-leb _ most_air (room l ls e))) accepted

    pub goes_with_room : WaitOver v (turned j stamp).time → HasRoom (journal r) stamp
        → is_refused (call v (poll stamp)).answer ≡ false → (q : Packet) × ((call v (poll stamp)).answer ≡ Sent q)
    goes_with_room over room =
        goes over (λ l ls e. (subst (λ (k : List Entry). All Roomy (take 1 k)) e room).0)

    goes_open : OpenAt (turned j stamp).time → is_refused (call v (poll stamp)).answer ≡ false
        → (q : Packet) × ((call v (poll stamp)).answer ≡ Sent q)
    goes_open o = goes o.over (λ l ls e. omega (arith, o.room, found_short l ls e))

    -- so many µs later
    ledger_then : (d : ℕ) → (waited w d).ledger ≡ last_second (w.clock.time + d) j.admissions
    ledger_then d =
        ap (young (w.clock.time + d)) tied.followed.same
        ∙ young_last (turned j stamp).time (w.clock.time + d) j.admissions (omega (arith, tied.time))

    would_go : (d : ℕ) → OpenAt (w.clock.time + d) → is_sent (polled (waited w d) (choice w.waiting)).answer ≡ true
    would_go d o = rw (chosen_lowest w (at_poll j stamp) tied) (by found refl)
      where
        by : (ls : List Entry) → found ≡ ls → is_sent (polled (waited w d) (choice_by (at_poll j stamp).columns ls)).answer ≡ true
        by [] e = absurd (some (ap (take 1) e))
        by (l ∷ ls) e =
            let fits : l.packet.ontime + air_of (last_second (w.clock.time + d) j.admissions) ≤ most_air =
            omega (arith, o.room, found_short l ls e) in
            let air : air_allows l.packet.ontime (waited w d).ledger ≡ true = rw (ledger_then d) (le-leb _ most_air fits) in
            let sends : may_send (waited w d) l.packet ≡ true = rw (not-closed (waited w d) o.over, air) in
            rw sends refl

  -- where it is so from a time on
  pub opens : (from : ℕ) → ((now : ℕ) → from ≤ now → OpenAt now) → OpensBy v j from
  opens from o =
      record {
        sends = λ stamp accepted some late. goes_open stamp some (o _ late) accepted;
        tells = λ stamp left e some.
            let time = (tied stamp some).time in
            let d = from - (refreshed v stamp).clock.time in
            split (leb from (turned j stamp).time)
            (λ u. let s = goes_open stamp some (o _ (omega tested)) (ap is_refused e) in clash (cc s.1))
            (λ u.
            let least : left ≤ d =
            leb-true left d (sym (closed_is_least v stamp left e d) ∙ would_go stamp some d (o _ (omega arith))) in
            omega (tested, least));
      }
