-- A burst's records one at a time: a byte holds the answer of each, and there are as many answers as records.
use Prim.Native.Nat.{ℕ, zero, suc, ◌<◌}
use mathlib.Core.Path.{◌≡◌, refl}
use mathlib.Core.List.{List, [], ◌∷◌}
use native.Mathlib.Omega.{arith}
use lib.Dec.{eqb}
use lib.ListN.{length, length-append}
use Rattle.rules.specs.Refusals.{first_of}
use Rattle.rules.proofs.Cases.{on_cond}
use Rattle.model.specs.declared.Offer.{Offer}
use Rattle.model.specs.Calls.{offer, is_refused}
use Rattle.model.specs.Effects.{Result, effect}
use Rattle.model.specs.Gate.{checks, call}
use Rattle.line.specs.Line.{in_list, Listed}
use Rattle.records.specs.declared.Record.{Record}
use Rattle.calllog.specs.Bursts.{is_offer, answer_byte}
use Rattle.calllog.proofs.Bursts.{first_small}
use Rattle.plain.specs.declared.State.{State}
use Rattle.plain.specs.declared.Outcome.{Outcome}
use Rattle.plain.specs.Layout.{view_of, sound_state, call_on}
use Rattle.plain.specs.Bursts.{offered_by, offered_at, offered_to, answers_to}

-- an outcome whose answer a byte holds
abbrev Told : Outcome → Type 0
Told o = answer_byte o.answer < 256

view_told : (v : Listed) (stamp : ℕ) (o : Offer) → answer_byte (call v (offer stamp o)).answer < 256
unfolding call effect checks answer_byte
view_told v stamp o =
    on_cond (λ (r : Result in_list). answer_byte r.answer < 256) (eqb (first_of (checks v (offer stamp o))) 0)
    (λ e. omega arith) (λ e. first_small (checks v (offer stamp o)) (omega arith))

offer_told : (s : State) (stamp : ℕ) (o : Offer) → Told (call_on s (offer stamp o))
unfolding call_on answer_byte
offer_told s stamp o =
    on_cond Told (sound_state s)
    (λ e. on_cond Told (is_refused (call (view_of s) (offer stamp o)).answer)
    (λ r. view_told (view_of s) stamp o) (λ r. view_told (view_of s) stamp o))
    (λ e. omega arith)

pub record_told : (s : State) (rec : Record) → Told (offered_by s rec)
unfolding offered_by answer_byte
record_told s rec = on_cond Told (is_offer rec) (λ e. offer_told s _ _) (λ e. omega arith)

pub answers_length : (s : State) (records : List ℕ) (n : ℕ) → length (answers_to s records n) ≡ n
unfolding answers_to
answers_length s records zero = refl
answers_length s records (suc n) =
    omega (
      arith,
      answers_length s records n,
      length-append (answers_to s records n) (answer_byte (offered_at (offered_to s records n) records n).answer ∷ []),
    )
