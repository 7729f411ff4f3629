-- The length, then the room past the loads, then the loads.
use Prim.Native.Nat.{◌-◌}
use mathlib.Core.Path.{◌≡◌, ap, sym, ◌∙◌}
use lib.ListN.{length, take, drop}
use borrow.Author.Tests.{le-leb, lt-leb}
use Rattle.packing.specs.Packing.{all_are, padded, is_unused}
use Rattle.machine.specs.Loads.{load_allowed, sound_loads}
use Rattle.machine.proofs.Parts.{rest, take_fewer, drop_fewer}
use Rattle.machine.proofs.are_loads_sound.Goals as goal

pub returns-then-n-gt-HIGH_OVER : goal.returns-then-n-gt-HIGH_OVER
unfolding sound_loads padded
returns-then-n-gt-HIGH_OVER c = rw (lt-leb _ 50 c.if-n-gt-HIGH_OVER.true)

pub returns-then-not-are_zero : goal.returns-then-not-are_zero
unfolding sound_loads padded
returns-then-not-are_zero c =
    let zeros : (let xs = c.args.slots.now in
    all_are is_unused (take (length xs - c.min-m.result) (drop c.min-m.result xs)) ≡ all_are is_unused (drop c.args.n xs)) =
    let xs = c.args.slots.now in
    ap (all_are is_unused)
    (rest xs c.min-m.result ∙ rw c.min-m.ensures (drop_fewer xs c.args.n)) in
    rw (
      le-leb _ 50 c.if-n-gt-HIGH_OVER.false,
      sym zeros ∙ sym c.are_zero.ensures ∙ c.if-not-are_zero.true,
    )

pub returns : goal.returns
unfolding sound_loads padded
returns c =
    let zeros : (let xs = c.args.slots.now in
    all_are is_unused (take (length xs - c.min-m.result) (drop c.min-m.result xs)) ≡ all_are is_unused (drop c.args.n xs)) =
    let xs = c.args.slots.now in
    ap (all_are is_unused)
    (rest xs c.min-m.result ∙ rw c.min-m.ensures (drop_fewer xs c.args.n)) in
    let xs = c.args.slots.now in
    let held : take c.min-m.result xs ≡ take c.args.n xs = rw c.min-m.ensures (take_fewer xs c.args.n) in
    c.all_lie_within.ensures
    ∙ ap (all_are load_allowed) held
    ∙ sym
    (rw (
      le-leb _ 50 c.if-n-gt-HIGH_OVER.false,
      sym zeros ∙ sym c.are_zero.ensures ∙ c.if-not-are_zero.false,
    ))
