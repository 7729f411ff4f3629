-- The library's bytes of the number, as many as the field has, are put in their place one by one.
use Rattle.std.proofs.Common.{ℕ, ◌≡◌, ◌+◌, ◌<◌, ◌∙◌, ◌++◌, List, ap, sym, take, drop, length, set, get_or, add-one, arith}
use lib.Seq.{paste, paste-zero, paste-suc}
use Rattle.records.specs.Writing.{little_endian}
use Rattle.records.proofs.Writing.{length_bytes, low_bytes}
use Rattle.records.proofs.writer.put.Goals as goal

pub loop-i-init : goal.loop-i-init
loop-i-init g c = paste-zero c.args.log.now c.args.at c.to_le_bytes-bytes.result

pub loop-i-preserved : goal.loop-i-preserved
loop-i-preserved g c =
    let log = c.args.log.now in
    let at = c.args.at in
    let bytes = c.to_le_bytes-bytes.result in
    let i = c.loop-i.i in
    let room : at + i < length log = omega (arith, c.requires.room, c.loop-i-test.true) in
    let four : length bytes ≡ 4 = ap length c.to_le_bytes-bytes.ensures in
    ap (λ (d : List ℕ). set d (at + i) (get_or bytes i 0)) c.loop-i.invariant
    ∙ paste-suc log at bytes i 0 room (omega (arith, c.requires.width, c.loop-i-test.true, four))
    ∙ ap (paste log at bytes) (sym (add-one i))

pub returns : goal.returns
returns g c =
    let width = g.row.BYTES in
    let log = c.args.log.now in
    let at = c.args.at in
    let all : c.loop-i.i ≡ width = omega (arith, c.loop-i-test.false, c.loop-i.auto.i-end) in
    let text : take width c.to_le_bytes-bytes.result ≡ little_endian width c.args.n =
    ap (take width) c.to_le_bytes-bytes.ensures ∙ low_bytes width c.args.n c.requires.width in
    c.loop-i.invariant
    ∙ ap (paste log at c.to_le_bytes-bytes.result) all
    ∙ ap (λ (t : List ℕ). take at log ++ t ++ drop (at + width) log) text
    ∙ ap (λ (k : ℕ). take at log ++ little_endian width c.args.n ++ drop (at + k) log) (sym (length_bytes width c.args.n))
