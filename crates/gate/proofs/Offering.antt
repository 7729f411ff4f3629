-- An offer: its room, and the packet at the back of its queue, where the front one left or did not.
use Prim.Native.Nat.{ℕ, ◌+◌, ◌≤◌, ◌<◌}
use mathlib.Core.Path.{◌≡◌, refl, ap, ap₂, sym, ◌∙◌}
use mathlib.Core.Bool.{Bool, true, false, cond}
use mathlib.Core.List.{List, [], ◌∷◌, ◌++◌}
use native.Mathlib.Omega.{arith}
use lib.Dec.{leb}
use lib.ListN.{length, drop}
use borrow.Author.Tests.{le-leb, lt-leb}
use Rattle.rules.proofs.Cases.{split}
use Rattle.rules.specs.Profiles.{room}
use Rattle.machine.specs.Loads.{loads_of}
use Rattle.model.specs.declared.Counts.{Counts}
use Rattle.model.specs.declared.Packet.{Packet}
use Rattle.model.specs.declared.Offer.{Offer}
use Rattle.model.specs.declared.Answer.TheVariants.{Taken}
use Rattle.model.specs.Packets.{packet_of, at_back}
use Rattle.model.specs.Fours.{Four, column, change}
use Rattle.model.specs.Calls.{offer}
use Rattle.model.specs.Effects.{displaced, joined}
use Rattle.checks.proofs.Entry.{Passed, refreshed-sound}
use Rattle.checks.proofs.Offering as offering
use Rattle.waiting.specs.declared.Cell.{Cell}
use Rattle.waiting.specs.Layout.{Rows, rows, Held, queues, queue_of, laid, changed, alive, packet_in, waiting_in, rows_for}
use Rattle.waiting.proofs.Wholes.{queue_short}
use Rattle.waiting.proofs.Joining.{column-length, column_live, rows_pushed, popped_held, popped_waiting, popped_length}
use Rattle.gate.specs.declared.Head.{Head}
use Rattle.gate.specs.declared.State.{State}
use Rattle.gate.specs.Layout.{state_with, rows_in, ledger_in, view_of, state_of, sound_state, outcome, call_on}
use Rattle.gate.specs.Steps.{live_of, Settled, head_with, ledger_for, has_five}
use Rattle.gate.specs.Steps.{Advanced, Cleared, Freed, Joinable, counts_joined, Joined}
use Rattle.gate.proofs.Views.{engine, known}
use Rattle.gate.proofs.Entry.{good_priority}
use Rattle.gate.proofs.Moving.{assembled, refreshes, cleared_settled}

-- the live packets of a priority
pub live_count : (r : Rows) (k time n : ℕ) → k < 4 → n ≡ length (alive time (queue_of (queues r) k))
    → n ≡ live_of (waiting_in r) k time
live_count r k time n b f = f ∙ sym (column_live r k b time)

-- room for one more: the front one left, or did not
module _ (r : Rows) (k : ℕ) (b : k < 4) (h : Held r) (n : ℕ) (e : n ≡ length (queue_of (queues r) k)) where
  many : n ≡ length (column k (waiting_in r))
  many = e ∙ sym (column-length r k b)

  pub has_room : n < room → Freed k r 0 r
  has_room l =
      let u : has_five k r ≡ false = ap (leb room) (sym many) ∙ lt-leb room n l in
      record { held = h; free = omega (arith, e, l); gone = rw u; left = rw u }

  pub makes_room : room ≤ n → (r' : Rows) → r' ≡ laid (changed k (drop 1) (queues r)) → Freed k r 1 r'
  makes_room l r' f =
      let u : has_five k r ≡ true = ap (leb room) (sym many) ∙ le-leb room n l in
      record {
        held = popped_held r k b h r' f;
        free = omega (arith, popped_length r k b h r' f, queue_short r h.size k b);
        gone = rw u;
        left = rw u (popped_waiting r k b h r' f);
      }

pub few_gone : (k : ℕ) (r : Rows) (n : ℕ) (r' : Rows) → Freed k r n r' → n ≤ 1
few_gone k r n r' f =
    split (has_five k r) (λ u. omega (arith, rw u at f.gone)) (λ u. omega (arith, rw u at f.gone))

-- a packet that joins
abbrev counts_by : Counts → ℕ → Counts
counts_by c gone =
    record { accepted = c.accepted + 1; sent = c.sent; expired = c.expired; displaced = c.displaced + gone }

joined_counts : (u : Bool) (c : Counts) (gone : ℕ) → gone ≡ cond u 1 0 → counts_by c gone ≡ counts_joined u c
joined_counts true c gone e = ap (counts_by c) e
joined_counts false c gone e =
    λ i.
    record {
      accepted = c.accepted + 1;
      sent = c.sent;
      expired = c.expired;
      displaced = stays i;
    }
  where
    stays : c.displaced + gone ≡ c.displaced
    stays = omega (arith, e)

pub joins : (h : Head) (o : Offer) (r r₁ r' : Rows) (gone : ℕ) (c : Cell) → Joinable h r o → Freed o.priority r gone r₁
    → packet_in o.priority c ≡ packet_of o h.clock.time
    → r' ≡ laid (changed o.priority (λ q. q ++ (c ∷ [])) (queues r₁))
    → Joined h o r (head_with h h.clock h.last (counts_by h.counts gone) h.admissions) r'
joins h o r r₁ r' gone c j f p g =
    record {
      head =
          ap (λ (x : Counts). head_with h h.clock h.last x h.admissions)
          (joined_counts (has_five o.priority r) h.counts gone f.gone);
      rows =
          g
          ∙ rows_pushed r₁ o.priority j.queue c
          ∙ ap₂ (λ (x : Packet) (q : Four Packet). rows_for (change o.priority (at_back x) q)) p f.left;
    }

-- as a state
joined_by : (s : State) (h : Head) (words came : List ℕ) (o : Offer) (u : Bool) → Settled s
    → h ≡ head_with s.head s.head.clock s.head.last (counts_joined u s.head.counts) s.head.admissions
    → rows words came
    ≡ rows_for (change o.priority (at_back (packet_of o s.head.clock.time))
    (cond u (change o.priority (drop 1) (waiting_in (rows_in s))) (waiting_in (rows_in s))))
    → state_with h words came s.air s.loads s.above s.waits
    ≡ state_of (joined (cond u (displaced (view_of s) o.priority) (view_of s)) (packet_of o s.head.clock.time))
joined_by s h words came o true t e f =
    assembled e f (ap (λ (x : Head). ledger_for x s.air) e ∙ ap (λ (x : State). ledger_in x) t.tight)
    (ap (λ (x : Head). loads_of x.loads s.loads) e)
joined_by s h words came o false t e f =
    assembled e f (ap (λ (x : Head). ledger_for x s.air) e ∙ ap (λ (x : State). ledger_in x) t.tight)
    (ap (λ (x : Head). loads_of x.loads s.loads) e)

-- the offer, from what its steps leave
module _ (given : State) (stamp : ℕ) (o : Offer) (e : Passed engine given (offer stamp o)) (h₁ h₂ : Head)
    (air words came : List ℕ) (a : Advanced given.head stamp given.air h₁ air)
    (c : Cleared h₁ (rows_in given) h₂ (rows words came)) where
  abbrev s : State
  s = state_with h₂ words came air given.loads given.above given.waits

  settled : Settled s
  settled = cleared_settled given stamp h₁ h₂ air words came a c (refreshed-sound engine given stamp e.0)

  pub joinable : Joinable h₂ (rows words came) o
  joinable =
      let k = known s settled in
      record {
        held = k.held;
        queue = good_priority given stamp o e;
        accepted = k.groups.most;
        displaced = omega (arith, k.groups.sum, k.groups.most);
      }

  pub offer_taken : (h : Head) (words' came' : List ℕ) → Joined h₂ o (rows words came) h (rows words' came')
      → outcome (state_with h words' came' air given.loads given.above given.waits) Taken
      ≡ call_on given (offer stamp o)
  unfolding call_on sound_state
  offer_taken h words' came' j =
      offering.offer_taken engine given stamp e.0 o s _ (packet_of o s.head.clock.time) e.1
      (refreshes given stamp h₁ h₂ air words came a c) refl
      (joined_by s h words' came' o (has_five o.priority (rows words came)) settled j.head j.rows)
