-- A sample by words is answered as the one by its busy number.
use Prim.Native.Nat.{ℕ}
use mathlib.Core.Path.{◌≡◌, ap}
use mathlib.Core.Bool.{true, cond}
use mathlib.Core.List.{List}
use lib.Dec.{ltb}
use native.Mathlib.Omega.{arith}
use borrow.Author.Tests.{lt-ltb}
use Rattle.std.specs.Option.{unwrap_or}
use Rattle.rules.specs.Samples.{most_probes, good_words, good_probes, busy_of, sample_of, bad_count}
use Rattle.rules.proofs.Cases.{split, within-true}
use Rattle.model.specs.declared.Answer.TheVariants.{Refused}
use Rattle.model.specs.Queues.{in_queues}
use Rattle.model.specs.Calls.{Call, words, count}
use Rattle.model.specs.Effects.{Result}
use Rattle.model.specs.Gate.{call}
use Rattle.model.proofs.Sampling.{good_alike, bad_alike}
use Rattle.gate.specs.declared.State.{State}
use Rattle.gate.specs.Layout.{view_of, sound_state, outcome, outcome_of, call_on}
use Rattle.host.specs.Turns.{busy_number, CountedAlike}

-- the number of what is read
pub number_read : (probes : ℕ) (ws : List ℕ) → unwrap_or (sample_of probes ws) 4294967295 ≡ busy_number probes ws
unfolding sample_of busy_number
number_read probes ws = split (good_words probes ws) (λ g. rw g) (λ g. rw g)

-- so many are busy in no sample
few : (probes : ℕ) → good_probes probes ≡ true → ltb probes 4294967295 ≡ true
unfolding good_probes
few probes g = let h = within-true 1 most_probes probes g in lt-ltb probes 4294967295 (omega arith)

too_many : (probes : ℕ) → bad_count 4294967295 probes ≡ true
unfolding bad_count
too_many probes = split (good_probes probes) (λ g. rw (g, few probes g)) (λ g. rw g)

-- calls alike on what a state says are alike on the state
alike : (s : State) (c d : Call) → call (view_of s) c ≡ call (view_of s) d → call_on s c ≡ call_on s d
unfolding call_on
alike s c d e = ap (λ (o : Result in_queues). cond (sound_state s) (outcome_of s o) (outcome s (Refused 9))) e

pub counted_alike : CountedAlike
unfolding busy_number
counted_alike s stamp probes ws =
    split (good_words probes ws)
    (λ g. rw g
    (alike s (count stamp (busy_of ws probes) probes) (words stamp probes ws) (good_alike (view_of s) stamp probes ws g)))
    (λ g. rw g
    (alike s (count stamp 4294967295 probes) (words stamp probes ws)
    (bad_alike (view_of s) stamp 4294967295 probes probes ws (too_many probes) g)))
