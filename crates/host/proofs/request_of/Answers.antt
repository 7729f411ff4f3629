-- Each kind is the clause of its case.
use Rattle.std.proofs.Common.{◌≡◌, arith, ne_eqb}
use Rattle.host.specs.Turns.{call_in}
use Rattle.host.proofs.request_of.Goals as goal

pub returns-in-1 : goal.returns-in-1
unfolding call_in
returns-in-1 c = λ stamp. rw c.in-1.is

pub returns-in-2 : goal.returns-in-2
unfolding call_in
returns-in-2 c = λ stamp. rw c.in-2.is

pub returns-in_default : goal.returns-in_default
unfolding call_in
returns-in_default c =
    let no_sample : c.args.kind ≡ 1 → ⊥ = λ e. omega arith in
    let no_offer : c.args.kind ≡ 2 → ⊥ = λ e. omega arith in
    λ stamp. rw (ne_eqb _ _ no_sample, ne_eqb _ _ no_offer)
