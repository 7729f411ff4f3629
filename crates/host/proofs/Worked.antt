-- Kinds, numbers and samples, worked.
use mathlib.Core.Path.{◌≡◌, refl}
use mathlib.Core.List.{[], ◌∷◌}
use Rattle.rules.specs.Profiles.{within}
use Rattle.rules.specs.Samples.{good_probes, good_words, no_stray, probe, busy_of}
use Rattle.model.specs.declared.Answer.TheVariants.{Refused}
use Rattle.model.specs.Calls.{count, offer, poll, plain_reply}
use Rattle.gate.specs.declared.State.{State}
use Rattle.gate.specs.Layout.{outcome, call_on}
use Rattle.host.specs.Turns.{handed_by, offer_of, call_in, asked, busy_number}

module _ (s : State) where
  sample : asked s 1 600 1000 0 0 50 ≡ call_on s (count 50 600 1000)
  unfolding asked call_in within
  sample = refl

  an_offer : asked s 2 7 0 400 1000000 50 ≡ call_on s (offer 50 (offer_of 7 0 400 1000000))
  unfolding asked call_in within
  an_offer = refl

  a_poll : asked s 3 0 0 0 0 50 ≡ call_on s (poll 50)
  unfolding asked call_in within
  a_poll = refl

  -- no make, and no kind after the poll
  no_make : asked s 0 1 0 0 0 50 ≡ outcome s (Refused 10)
  unfolding asked within
  no_make = refl

  no_kind : asked s 4 1 0 0 0 50 ≡ outcome s (Refused 10)
  unfolding asked within
  no_kind = refl

  ten : (handed_by (asked s 4294967295 1 0 0 0 50)).reply ≡ plain_reply 5 10
  unfolding asked within
  ten = refl

-- three of four probes are busy; a stray bit, a word too many, no probe, and too many probes for the words
three : busy_number 4 (13 ∷ []) ≡ 3
unfolding busy_number good_words good_probes within no_stray busy_of probe
three = refl

stray : busy_number 4 (16 ∷ []) ≡ 4294967295
unfolding busy_number good_words good_probes within no_stray
stray = refl

too_long : busy_number 4 (13 ∷ 0 ∷ []) ≡ 4294967295
unfolding busy_number good_words good_probes within no_stray
too_long = refl

no_probe : busy_number 0 [] ≡ 4294967295
unfolding busy_number good_words good_probes within
no_probe = refl

no_words : busy_number 12500 [] ≡ 4294967295
unfolding busy_number good_words good_probes within
no_words = refl

most : busy_number 4294967295 (13 ∷ []) ≡ 4294967295
unfolding busy_number good_words good_probes within
most = refl
