-- A sample by words is one by its busy count: the same checks and the same effect. A bad one is refused as a count that is as
-- bad.
use Prim.Native.Nat.{ℕ}
use mathlib.Core.Path.{◌≡◌, refl, ap, sym, ◌∙◌}
use mathlib.Core.Bool.{Bool, true, false, cond, not}
use mathlib.Core.List.{List}
use Rattle.std.specs.Prelude.{Some, None}
use Rattle.rules.specs.Clock.{step_of, goes_back, passes_end}
use Rattle.rules.specs.Refusals.{first_of}
use Rattle.rules.specs.Samples.{busy_of, good_words, sample_of, sample_number, bad_count}
use Rattle.rules.proofs.Cases.{split, clash}
use Rattle.rules.proofs.Probes.{words_count}
use Rattle.model.specs.Packets.{Holding}
use Rattle.model.specs.Calls.{words, count}
use Rattle.model.specs.State.{Status, sound}
use Rattle.model.specs.Effects.{Result, stepped, effect}
use Rattle.model.specs.Gate.{own_checks, checks, unless_refused, call}

-- the checks of a sample, with whether it is bad
abbrev judged : {h : Holding} → Status h → (stamp : ℕ) → (bad : Bool) → Result h → Result h
judged v stamp bad done =
    unless_refused
    (cond (not (sound v)) 9
    (cond (goes_back (step_of stamp v.clock.stamp)) 2 (cond (passes_end (stepped v.clock stamp).time) 3 (cond bad 4 0))))
    v done

-- a bad sample has no effect
no_effect : {h : Holding} (v : Status h) (a b c : Bool) (x y : Result h)
    → unless_refused (cond a 9 (cond b 2 (cond c 3 4))) v x ≡ unless_refused (cond a 9 (cond b 2 (cond c 3 4))) v y
no_effect v true b c x y = refl
no_effect v false true c x y = refl
no_effect v false false true x y = refl
no_effect v false false false x y = refl

call_count : {h : Holding} (v : Status h) (stamp busy probes : ℕ)
    → call v (count stamp busy probes) ≡ judged v stamp (bad_count busy probes) (effect v (count stamp busy probes))
unfolding call checks first_of
call_count v stamp busy probes = refl

call_words : {h : Holding} (v : Status h) (stamp probes : ℕ) (ws : List ℕ)
    → call v (words stamp probes ws) ≡ judged v stamp (not (good_words probes ws)) (effect v (words stamp probes ws))
unfolding call checks first_of
call_words v stamp probes ws = refl

pub good_alike : {h : Holding} (v : Status h) (stamp probes : ℕ) (ws : List ℕ) → good_words probes ws ≡ true
    → call v (count stamp (busy_of ws probes) probes) ≡ call v (words stamp probes ws)
unfolding effect
good_alike v stamp probes ws g =
    call_count v stamp (busy_of ws probes) probes
    ∙ ap (λ (u : Bool). judged v stamp u (effect v (words stamp probes ws))) (words_count probes ws g ∙ sym (ap not g))
    ∙ sym (call_words v stamp probes ws)

pub bad_alike : {h : Holding} (v : Status h) (stamp busy n probes : ℕ) (ws : List ℕ) → bad_count busy n ≡ true
    → good_words probes ws ≡ false
    → call v (count stamp busy n) ≡ call v (words stamp probes ws)
bad_alike v stamp busy n probes ws b g =
    call_count v stamp busy n
    ∙ ap (λ (u : Bool). judged v stamp u (effect v (count stamp busy n))) b
    ∙ no_effect v (not (sound v)) (goes_back (step_of stamp v.clock.stamp)) (passes_end (stepped v.clock stamp).time)
    (effect v (count stamp busy n)) (effect v (words stamp probes ws))
    ∙ ap (λ (u : Bool). judged v stamp u (effect v (words stamp probes ws))) (sym (ap not g))
    ∙ sym (call_words v stamp probes ws)

-- the number of a sample by words is that of what is read
pub words_number : {h : Holding} (v : Status h) (stamp probes : ℕ) (ws : List ℕ)
    → first_of (own_checks v (words stamp probes ws)) ≡ sample_number (sample_of probes ws)
unfolding first_of sample_of sample_number
words_number v stamp probes ws = split (good_words probes ws) (λ e. rw e refl) (λ e. rw e refl)

-- what reading a sample says
pub read_good : (probes : ℕ) (ws : List ℕ) (busy : ℕ) → sample_of probes ws ≡ Some busy
    → (good_words probes ws ≡ true) × (busy_of ws probes ≡ busy)
unfolding sample_of
read_good probes ws busy e =
    split (good_words probes ws)
    (λ g. let f : Some (busy_of ws probes) ≡ Some busy = rw g at e in (g, cc))
    (λ g. let f : None ≡ Some busy = rw g at e in clash (cc))

pub read_bad : (probes : ℕ) (ws : List ℕ) → sample_of probes ws ≡ None → good_words probes ws ≡ false
unfolding sample_of
read_bad probes ws e =
    split (good_words probes ws) (λ g. let f : Some (busy_of ws probes) ≡ None = rw g at e in clash (cc)) (λ g. g)
