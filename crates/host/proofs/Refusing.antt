-- A refused call writes nothing: the state is as it was, and the rows are its numbers.
use Prim.Native.Nat.{ℕ}
use mathlib.Core.Path.{◌≡◌, refl, ap, sym, ◌∙◌}
use mathlib.Core.List.{List}
use borrow.Author.Tests.{eq-eqb}
use Rattle.rules.specs.Profiles.{within}
use Rattle.rules.proofs.Cases.{on_cond}
use Rattle.model.specs.Calls.{reply_of}
use Rattle.gate.specs.declared.State.{State}
use Rattle.gate.specs.declared.Outcome.{Outcome}
use Rattle.gate.proofs.Keeping.{wides, narrows, wides_read, narrows_read}
use Rattle.gate.proofs.Runs.{refused_unchanged}
use Rattle.host.specs.Turns.{Handed, call_in, asked, Lent, state_on, Filled, RefusedWritesNothing}

-- whatever its kind
unchanged : (s : State) (kind a b c d stamp : ℕ)
    → (reply_of (asked s kind a b c d stamp).answer).kind ≡ 5 → (asked s kind a b c d stamp).state ≡ s
unfolding asked
unchanged s kind a b c d stamp =
    on_cond (λ (o : Outcome). (reply_of o.answer).kind ≡ 5 → o.state ≡ s) (within 1 3 kind)
    (λ w k. refused_unchanged s (call_in kind a b c d stamp) (eq-eqb _ 5 k)) (λ w k. refl)

-- rows in which the same state lies are the same
abbrev lent : (wide narrow : List ℕ) → State → Lent
lent wide narrow s =
    record {
      wide = wide;
      narrow = narrow;
      queues = s.queues;
      came = s.came;
      air = s.air;
      loads = s.loads;
      above = s.above;
      waits = s.waits;
    }

same_rows : (before after : Lent) → Filled before → Filled after → state_on after ≡ state_on before → after ≡ before
same_rows before after f g e =
    let wide : after.wide ≡ before.wide =
    sym (wides_read after.wide after.narrow g.wide)
    ∙ ap (λ (s : State). wides s.head) e
    ∙ wides_read before.wide before.narrow f.wide in
    let narrow : after.narrow ≡ before.narrow =
    sym (narrows_read after.wide after.narrow g.narrow)
    ∙ ap (λ (s : State). narrows s.head) e
    ∙ narrows_read before.wide before.narrow f.narrow in
    ap (λ (w : List ℕ). lent w after.narrow (state_on after)) wide
    ∙ ap (λ (n : List ℕ). lent before.wide n (state_on after)) narrow
    ∙ ap (λ (s : State). lent before.wide before.narrow s) e

pub refused_writes_nothing : RefusedWritesNothing
refused_writes_nothing before after kind a b c d stamp r f g e k =
    same_rows before after f g
    (ap (λ (t : Handed). t.state) e
    ∙ unchanged (state_on before) kind a b c d stamp (sym (ap (λ (t : Handed). t.reply.kind) e) ∙ k))
