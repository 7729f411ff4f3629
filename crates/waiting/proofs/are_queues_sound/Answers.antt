-- All are sound where each is.
use mathlib.Core.Path.{◌≡◌, refl}
use mathlib.Core.Bool.{true, false}
use Rattle.std.proofs.Common.{rules, tests, arith}
use Rattle.std.proofs.lemmas.Iterator.{cases_from_all, YieldsList-from_range}
use Rattle.waiting.specs.Layout.{rows, Sized, sound_queue}
use Rattle.waiting.proofs.Wholes.{lent_rows}
use Rattle.waiting.proofs.Judged.{all_sound}
use Rattle.waiting.proofs.are_queues_sound.Goals as goal

pub returns : goal.returns
returns c =
    let r = rows c.args.words.now c.args.came.now in
    let s : Sized 4 r = record { words = omega arith; came = omega arith } in
    let S = λ (k : _). sound_queue c.most_ontime-most.result c.args.time (lent_rows k r) in
    all_sound c.args.profile c.args.time _ s _ c.most_ontime-most.ensures c.all.result
    (cases_from_all _ _ _ (λ k. S k ≡ true) (λ k. S k ≡ false) c.all.ensures.ran (YieldsList-from_range 0 4 4 refl refl)
    (λ x q k. search (rules, tests)) (λ x q k. search (rules, tests)))
