-- What is left of the line is what expiry keeps of it, and the rest is counted.
use Prim.Native.Nat.{◌-◌}
use mathlib.Core.Path.{ap, sym, ◌∙◌}
use native.Mathlib.Omega.{arith}
use Rattle.line.specs.declared.Line.{Line}
use Rattle.model.specs.declared.Counts.{Counts}
use Rattle.model.specs.Effects.{moved, more_expired}
use Rattle.plain.specs.Layout.{view_of}
use Rattle.plain.proofs.Views.{known}
use Rattle.plain.proofs.Doing.{same_line, same_counts, shorter, with_line, refreshes}
use Rattle.plain.proofs.State.refresh.Goals as goal

pub overflow_sub-gone : goal.overflow_sub-gone
overflow_sub-gone c =
    let l = same_line c.args.self.now c.advance.new.self c.args.stamp c.requires.0 c.advance.ensures in
    omega (arith, shorter _ _ _ c.expire-left.ensures, ap (λ (x : Line). x.len) l)

pub overflow_add-self : goal.overflow_add-self
overflow_add-self c =
    let k = known _ c.requires in
    let n = same_counts c.args.self.now c.advance.new.self c.args.stamp c.advance.ensures in
    let gone = ap (λ (x : Counts). x.expired) n in
    let sent = ap (λ (x : Counts). x.sent) n in
    omega (arith, k.sum, k.groups.most, gone, sent)

pub returns : goal.returns
returns c =
    let a = c.advance.new.self in
    let left = c.expire-left.result in
    let l = same_line c.args.self.now a c.args.stamp c.requires.0 c.advance.ensures in
    ap (λ (x : Line). with_line a left (more_expired a.counts (x.len - left.len))) (sym l)
    ∙ refreshes a (moved (view_of c.args.self.now) c.args.stamp) left c.advance.ensures c.expire-left.ensures
