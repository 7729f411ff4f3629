-- The library's `fill`, behind the places that are kept.
use Rattle.std.proofs.Common.{◌≡◌, ◌-◌, length, replicate, rules}
use Rattle.std.proofs.lemmas.Slice.{overwrites}
use Rattle.packing.proofs.Packing.{filled_past}
use Rattle.machine.proofs.clear.Goals as goal

pub returns : goal.returns
returns c =
    let xs = c.args.xs.now in
    let zeros : c.fill.new.self ≡ replicate (length xs - c.args.n) 0 = search (rules, overwrites) in
    rw zeros (filled_past 0 c.args.n xs c.requires)
