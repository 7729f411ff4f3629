-- What is said of a host's rows and of its run, from the proofs, on rows and calls that meet what it asks: one that says less
-- fails here, and one whose hypothesis nothing meets.
use Prim.Native.Nat.{ℕ, ◌+◌, ◌≤◌}
use mathlib.Core.Path.{◌≡◌, refl, ap, sym}
use mathlib.Core.List.{List, [], ◌∷◌}
use native.Mathlib.Omega.{arith}
use lib.ListN.{length}
use Rattle.rules.proofs.Cases.{clash}
use Rattle.machine.specs.Levels.{no_levels}
use Rattle.model.specs.Calls.{Call, offer, Making, making_of, plain_reply, reply_of}
use Rattle.model.specs.Journal.{Entry, at_poll, top, air_in}
use Rattle.model.proofs.Computing.{of_runs}
use Rattle.ledger.specs.Layout as ledger
use Rattle.waiting.specs.Layout as waiting
use Rattle.gate.specs.declared.State.{State}
use Rattle.gate.specs.Layout.{sound_state, call_on, make_state}
use Rattle.gate.specs.Runs.{state_after, events_on}
use Rattle.gate.proofs.Keeping.{wides, narrows}
use Rattle.host.specs.Turns.{offer_of, call_in, asked, Lent}
use Rattle.host.specs.Runs.{Called, Move, single, several, answer_in, AllDone, book_of, HostRun}
use Rattle.host.proofs.Refusing.{refused_writes_nothing}
use Rattle.host.proofs.Runs.{host_runs}

of_states : Type 0
unfolding of_runs waiting.triples waiting.words_of waiting.packed waiting.flat waiting.queues waiting.laid waiting.four_of
    waiting.rows_for waiting.tidy ledger.packed ledger.tidy sound_state call_on make_state state_after events_on call_in asked
    answer_in
of_states = Unit {0}

-- rows in which a state lies
abbrev rows_for : State → Lent
rows_for s =
    record {
      wide = wides s.head;
      narrow = narrows s.head;
      queues = s.queues;
      came = s.came;
      air = s.air;
      loads = s.loads;
      above = s.above;
      waits = s.waits;
    }

-- a call that leaves those, with its reply
abbrev calling : State → (kind a b c d stamp : ℕ) → Called
calling s kind a b c d stamp =
    let o = asked s kind a b c d stamp in
    record {
      kind = kind;
      a = a;
      b = b;
      c = c;
      d = d;
      stamp = stamp;
      reply = reply_of o.answer;
      after = rows_for o.state;
    }

-- a make of profile 1 at stamp 7, an offer, and a call of no kind
abbrev made : Making
made = making_of 1 0 no_levels 7

abbrev fresh : State
fresh = (make_state made).state

abbrev one : State
one = (asked fresh 2 1 0 400 60000000 7).state

abbrev moves : List Move
moves = single (calling fresh 2 1 0 400 60000000 7) ∷ []

all_done : AllDone (rows_for fresh) moves
unfolding of_states
all_done = (refl, tt)

run : HostRun made (rows_for fresh) moves
unfolding of_states
run = host_runs made (rows_for fresh) (plain_reply 0 0) moves refl refl all_done

thirty_ms : (from : ℕ) → air_in from (from + 1000000) (book_of made moves).admissions ≤ 30000
thirty_ms = run.claims.in_any_second

-- the floor: a poll that is not REFUSED and finds the packet, with no admission before it, is SENT; it carries the one on top
abbrev next : Called
next = calling one 3 0 0 0 0 7

goes : next.reply.kind ≡ 2
unfolding of_states
goes = run.polls.floor next refl refl (λ five. omega arith) (λ none. clash (sym (ap length none))) tt

on_top : (e : Entry) × (top (at_poll (book_of made moves) 7).columns ≡ e ∷ []) × (e.packet ≡ next.reply.packet)
unfolding of_states
on_top = run.polls.sent next refl refl refl

-- what counts as a single offer
abbrev another : Call
another = offer 7 (offer_of 2 0 400 60000000)

abbrev counted : List Move
counted =
    several
    (record {
      calls = another ∷ [];
      heard = events_on fresh (another ∷ []);
      after = rows_for (state_after fresh (another ∷ []));
    })
    ∷ []

counted_done : AllDone (rows_for fresh) counted
unfolding of_states
counted_done = (record { state = refl; answers = refl }, tt)

-- a poll whose clock goes back writes nothing
nothing_written : (calling fresh 3 0 0 0 0 6).after ≡ rows_for fresh
unfolding of_states
nothing_written =
    refused_writes_nothing (rows_for fresh) (calling fresh 3 0 0 0 0 6).after 3 0 0 0 0 6 (plain_reply 5 2)
    (record { wide = refl; narrow = refl }) (record { wide = refl; narrow = refl }) refl refl
