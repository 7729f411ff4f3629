-- A bad probe count, a wrong number of words or a stray bit is bad; without stray bits the ones of all words are those of the
-- probes.
use Rattle.std.proofs.Common.{◌≡◌, ◌≤◌, true, false, length, sym, ap, ◌∙◌, arith, eq-eqb, ne_eqb}
use Rattle.rules.specs.Samples.{most_probes, good_probes, busy_of, words_for, no_stray, good_words, sample_of}
use Rattle.std.specs.Prelude.{Some}
use Rattle.rules.proofs.Probes.{good_probes_lem, just_enough}
use Rattle.rules.proofs.read_words.Goals as goal

pub returns-then-not-lies_within : goal.returns-then-not-lies_within
unfolding sample_of good_words good_probes
returns-then-not-lies_within c =
    let outside : good_probes c.args.probes ≡ false =
    sym c.lies_within.ensures ∙ c.if-not-lies_within.true in
    simp outside

pub returns-then-words-div_ceil : goal.returns-then-words-div_ceil
unfolding sample_of good_words good_probes
returns-then-words-div_ceil c =
    let good : good_probes c.args.probes ≡ true =
    sym c.lies_within.ensures ∙ c.if-not-lies_within.false in
    let a = c.args in
    let other : length a.words.now ≡ words_for a.probes → ⊥ = λ e. c.if-words-div_ceil.true (omega (arith, e)) in
    simp (good, ne_eqb _ _ other)

pub has_no_stray-requires : goal.has_no_stray-requires
unfolding good_probes
has_no_stray-requires c =
    let good : good_probes c.args.probes ≡ true =
    sym c.lies_within.ensures ∙ c.if-not-lies_within.false in
    let few : c.args.probes ≤ most_probes =
    (good_probes_lem _ good).1 in
    let enough : (let a = c.args in length a.words.now ≡ words_for a.probes) =
    omega (arith, c.if-words-div_ceil.false) in
    (omega (arith, enough), omega (arith, enough, few))

pub returns-then-not-has_no_stray : goal.returns-then-not-has_no_stray
unfolding sample_of good_words good_probes
returns-then-not-has_no_stray c =
    let good : good_probes c.args.probes ≡ true =
    sym c.lies_within.ensures ∙ c.if-not-lies_within.false in
    let enough : (let a = c.args in length a.words.now ≡ words_for a.probes) =
    omega (arith, c.if-words-div_ceil.false) in
    let a = c.args in
    let stray : no_stray a.probes a.words.now ≡ false =
    sym c.has_no_stray.ensures ∙ c.if-not-has_no_stray.true in
    simp (good, eq-eqb _ _ enough, stray)

pub busy_count-requires : goal.busy_count-requires
unfolding good_probes
busy_count-requires c =
    let good : good_probes c.args.probes ≡ true =
    sym c.lies_within.ensures ∙ c.if-not-lies_within.false in
    let few : c.args.probes ≤ most_probes =
    (good_probes_lem _ good).1 in
    let enough : (let a = c.args in length a.words.now ≡ words_for a.probes) =
    omega (arith, c.if-words-div_ceil.false) in
    omega (arith, enough, few)

pub returns : goal.returns
unfolding sample_of good_words good_probes
returns c =
    let good : good_probes c.args.probes ≡ true =
    sym c.lies_within.ensures ∙ c.if-not-lies_within.false in
    let enough : (let a = c.args in length a.words.now ≡ words_for a.probes) =
    omega (arith, c.if-words-div_ceil.false) in
    let a = c.args in
    let tidy : no_stray a.probes a.words.now ≡ true =
    sym c.has_no_stray.ensures ∙ c.if-not-has_no_stray.false in
    let all : c.busy_count.result ≡ busy_of a.words.now a.probes =
    c.busy_count.ensures ∙ just_enough a.probes a.words.now enough tidy in
    simp (good, eq-eqb _ _ enough, tidy) (ap Some all)
