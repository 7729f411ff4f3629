-- The greater of what is left of the wait, the list's in profile 5, and of what is left until the air allows it.
use Prim.Native.Nat.{ℕ, max}
use mathlib.Core.Path.{sym, ◌∙◌, ap, ap₂}
use Rattle.control.specs.Wait.{closed_with}
use Rattle.checks.specs.Checks.{left_at}
use Rattle.checks.proofs.Closing.{left_waits}
use Rattle.plain.specs.Layout.{view_of}
use Rattle.plain.proofs.Views.{known}
use Rattle.plain.proofs.State.left_for.Goals as goal

pub closed_after-closed-requires : goal.closed_after-closed-requires
closed_after-closed-requires c = let k = known _ c.requires in record {
  steerable = k.groups.control;
  ontime_le_ontime = k.groups.last_air;
}

pub left_of-left-requires : goal.left_of-left-requires
left_of-left-requires c = (known _ c.requires).groups.last_past

pub air_left-late-requires : goal.air_left-late-requires
air_left-late-requires c =
    let k = known _ c.requires in record {
      len_le_forty = k.few;
      l_bound = k.groups.ledger.sum;
      timely = k.in_good_time;
    }

pub returns : goal.returns
returns c =
    let s = c.args.self.now in
    c.longer.ensures
    ∙ ap₂ max
    (c.left_of-left.ensures
    ∙ ap (λ (n : ℕ). left_at n s.last s.clock.time)
    (c.closed_after-closed.ensures
    ∙ ap (λ (n : ℕ). closed_with s.profile s.tuning n s.last.ontime) c.wait-listed.ensures)
    ∙ sym (left_waits (view_of s)))
    c.air_left-late.ensures
