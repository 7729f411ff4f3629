-- What displaces a line of priority 0 that waits is the fifth or a later accepted offer of priority 0 after it, by demand 3; so
-- where fewer come while it waits nothing does. And in the old way nothing is displaced at all.
use Prim.Native.Nat.{ℕ, suc}
use mathlib.Core.Path.{◌≡◌, ap, sym, ◌∙◌, subst}
use mathlib.Core.Logic.{inl, ⊎_elim}
use mathlib.Core.List.{List, [], ◌∷◌, map}
use native.Mathlib.Omega.{arith}
use lib.ListN.{length}
use Rattle.rules.proofs.Cases.{on_cond, clash}
use Rattle.model.specs.declared.Packet.{Packet}
use Rattle.model.specs.declared.Answer.{Answer}
use Rattle.model.specs.Fours.{column, change}
use Rattle.model.specs.Calls.{Call, words, count, offer, poll, is_sent, is_refused}
use Rattle.model.specs.State.{View}
use Rattle.model.specs.Gate.{call}
use Rattle.model.specs.Journal.{Entry, Departure, displacement, Journal, turned, outlived_in, struck, arriving, room_for}
use Rattle.model.specs.Journal.{entered, top, sent_of, at_poll, recorded, fed, journal_of}
use Rattle.model.specs.Claims.{view_after, events, All, Claims}
use Rattle.model.specs.Delivery.{Among, Waits, Left, FewAfter, FewerThanFive}
use Rattle.model.proofs.Turns.{by_expiry}
use Rattle.model.proofs.Displacing.{DisplacedByTheFifth, StaysUndisplaced, on_room}
use Rattle.model.proofs.DeliveryLines.{all_of, of_both, was_there, not_both, none-struck}

-- the claims hold from here on, whatever comes
abbrev pub ClaimsOn : ℕ → View → Journal → Type 0
ClaimsOn profile v j = (calls : List Call) → Claims profile (view_after v calls) (journal_of j (events v calls))

abbrev pub NotDisplacedYet : Entry → Journal → Type 0
NotDisplacedYet l j = (priority n at : ℕ) → Left l (displacement priority n) at j → ⊥

-- nor by any of these calls
abbrev pub NeverDisplaced : Entry → Journal → List (Call × Answer) → Type 0
NeverDisplaced l j [] = Unit {0}
NeverDisplaced l j (e ∷ es) = NotDisplacedYet l (fed j e.0 e.1) × NeverDisplaced l (fed j e.0 e.1) es

-- expiry and admission displace nothing
pub not-struck : (l : Entry) (j : Journal) → NotDisplacedYet l j → NotDisplacedYet l (struck j)
not-struck l j h priority n at =
    of_both _ (map (by_expiry j.time) (outlived_in j)) j.departures
    (none-struck _ (λ w. clash (cc)) j.time at l (outlived_in j)) (h priority n at)

pub not_sent : (l : Entry) (j : Journal) (ls : List Entry) → NotDisplacedYet l j → NotDisplacedYet l (sent_of j ls)
not_sent l j [] h priority n at = h priority n at
not_sent l j (x ∷ ls) h priority n at = ⊎_elim (not_both _ _ _ at x l (λ w. clash (cc))) (h priority n at)

module _ (l : Entry) (zero : l.packet.priority ≡ 0) where
  -- an offer: the top of its column is the line only if five came
  not_spilled : (j : Journal) (new : Packet) → NotDisplacedYet l j
      → (Waits l j → FewAfter l (entered (room_for j new.priority) new))
      → All DisplacedByTheFifth (room_for j new.priority).departures → NotDisplacedYet l (room_for j new.priority)
  not_spilled j new h =
      on_room
      (λ (k : Journal). (Waits l j → FewAfter l (entered k new))
      → All DisplacedByTheFifth k.departures
      → NotDisplacedYet l k)
      j new.priority (λ few by. h)
      (λ x xs e few by priority n at.
      ⊎_elim
      (λ d.
      let same : x ≡ l = ap (λ (y : Departure). y.entry) d in
      let own : new.priority ≡ 0 = by.0.0 ∙ ap (λ (y : Entry). y.packet.priority) same ∙ zero in
      let there : Waits l j =
      subst (λ (m : ℕ). Among l (column m j.columns)) own (subst (Among l) (sym e) (inl same)) in
      let one : length (change new.priority (λ (ps : List Packet). new ∷ ps) j.offers).c0 ≡ suc (length j.offers.c0) =
      ap (λ (m : ℕ). length (change m (λ (ps : List Packet). new ∷ ps) j.offers).c0) own in
      omega (
        arith,
        few there,
        by.0.1,
        one,
        ap (λ (y : Entry). y.ordinal) same,
        ap (λ (m : ℕ). length (column m j.offers)) own,
      ))
      (h priority n at))

  not_by_call : (j : Journal) (c : Call) (a : Answer) → NotDisplacedYet l j
      → (Waits l j → FewAfter l (recorded j c a)) → All DisplacedByTheFifth (recorded j c a).departures
      → NotDisplacedYet l (recorded j c a)
  not_by_call j (words stamp probes ws) a h few by = h
  not_by_call j (count stamp busy probes) a h few by = h
  not_by_call j (offer stamp o) a h few by =
      not_spilled (at_poll j stamp) (arriving (turned j stamp) o) (not-struck l (turned j stamp) h)
      (λ w. few (was_there _ l j.columns.c0 w).0) by
  not_by_call j (poll stamp) a h few by =
      on_cond (NotDisplacedYet l) (is_sent a)
      (λ u. not_sent l (at_poll j stamp) (top (at_poll j stamp).columns) (not-struck l (turned j stamp) h))
      (λ u. not-struck l (turned j stamp) h)

  not_by_one : (j : Journal) (c : Call) (a : Answer) → NotDisplacedYet l j
      → (Waits l j → FewAfter l (fed j c a)) → All DisplacedByTheFifth (fed j c a).departures
      → NotDisplacedYet l (fed j c a)
  not_by_one j c a h =
      on_cond
      (λ (k : Journal). (Waits l j → FewAfter l k)
      → All DisplacedByTheFifth k.departures
      → NotDisplacedYet l k)
      (is_refused a) (λ u few by. h) (λ u. not_by_call j c a h)

  -- fewer than five
  pub few_spare : (profile : ℕ) (v : View) (j : Journal) (calls : List Call) → ClaimsOn profile v j → NotDisplacedYet l j
      → FewerThanFive l j (events v calls) → NeverDisplaced l j (events v calls)
  unfolding view_after events journal_of
  few_spare profile v j [] c h few = tt
  few_spare profile v j (d ∷ calls) c h few =
      let one = not_by_one j d (call v d).answer h few.0 (c (d ∷ [])).displacing in
      (one, few_spare profile (call v d).view (fed j d (call v d).answer) calls (λ ds. c (d ∷ ds)) one few.1)

-- the old way
pub undisplaced_yet : (l : Entry) (j : Journal) → All StaysUndisplaced j.departures → NotDisplacedYet l j
undisplaced_yet l j h priority n at m =
    all_of StaysUndisplaced (record { entry = l; way = displacement priority n; at = at }) j.departures h m

pub old_spares : (l : Entry) (v : View) (j : Journal) (calls : List Call)
    → ((cs : List Call) → All StaysUndisplaced (journal_of j (events v cs)).departures) → NeverDisplaced l j (events v calls)
unfolding view_after events journal_of
old_spares l v j [] h = tt
old_spares l v j (d ∷ calls) h = (
  undisplaced_yet l (fed j d (call v d).answer) (h (d ∷ [])),
  old_spares l (call v d).view (fed j d (call v d).answer) calls (λ cs. h (d ∷ cs)),
)
