-- What the figures of a calm channel come to. A sample fewer or a µs sooner, and a poll is told CLOSED: so calm floors and
-- numbers of samples are the least in profiles 1, 2, 4 and 5, and in profile 3 the first sample can't be counted. The rate of a
-- host that obeys CLOSED is met to the µs. Each side computes to the other.
use Prim.Native.Nat.{ℕ, suc, ◌*◌, ◌+◌}
use mathlib.Core.Path.{◌≡◌, refl, ap, sym}
use mathlib.Core.Bool.{Bool, true, false}
use mathlib.Core.List.{List, [], ◌∷◌, ◌++◌, map}
use native.Mathlib.Omega.{arith}
use lib.ListN.{length, replicate}
use Rattle.rules.specs.Profiles.{most_ontime}
use Rattle.rules.proofs.Cases.{clash}
use Rattle.machine.specs.Levels.{no_levels}
use Rattle.model.specs.declared.Offer.{Offer}
use Rattle.model.specs.declared.Answer.{Answer}
use Rattle.model.specs.Calls.{Call, count, offer, poll, stamp_of, Making, making_of, is_sent}
use Rattle.model.specs.Gate.{make}
use Rattle.model.specs.Claims.{view_after, events}
use Rattle.model.proofs.Computing.{of_runs}
use Rattle.label.specs.Trailer.{Run, by_model, journal, time_of, messages_in, Obeys}
use Rattle.label.specs.Calm.{loads_in, always_room, calm_wait, calm_floor, duty_after, worst_duty, settles_in, Calm, settled}
use Rattle.label.specs.CalmFigures.{example_list}

-- an offer of priority 0
warning : (id ontime : ℕ) → Offer
warning id ontime = record { id = id; priority = 0; ontime = ontime; lifetime = 60000000 }

-- so many samples of 1,000 probes, so many of them busy
sampling : (n busy : ℕ) → List Call
sampling n busy = replicate n (count 0 busy 1000)

-- a full channel for so many samples; a packet of an on-time goes and one more waits; and then so many samples of another load
jammed : (full ontime calm busy : ℕ) → List Call
jammed full ontime calm busy =
    sampling full 1000 ++ (offer 0 (warning 7 ontime) ∷ poll 0 ∷ offer 0 (warning 8 ontime) ∷ []) ++ sampling calm busy

-- which polls at some stamps are answered with SENT, behind that
sent_at : Making → (before : List Call) → (stamps : List ℕ) → List Bool
sent_at m before stamps =
    map (λ (e : Call × Answer). is_sent e.1) (events (view_after (make m).view before) (map poll stamps))

-- a gate of a profile
gate : (profile : ℕ) → Making
gate profile = making_of profile 0 no_levels 0

-- profile 1, below 30 %: four samples and 101,000 µs
four_in_1 : sent_at (gate 1) (jammed 4 1000 4 299) (100999 ∷ 101000 ∷ []) ≡ false ∷ true ∷ []
unfolding of_runs warning sampling jammed sent_at gate
four_in_1 = refl

three_in_1 : sent_at (gate 1) (jammed 4 1000 3 299) (101000 ∷ 200999 ∷ 201000 ∷ []) ≡ false ∷ false ∷ true ∷ []
unfolding of_runs warning sampling jammed sent_at gate
three_in_1 = refl

-- and not of 30 %
thirty_in_1 : sent_at (gate 1) (jammed 4 1000 4 300) (101000 ∷ 200999 ∷ 201000 ∷ []) ≡ false ∷ false ∷ true ∷ []
unfolding of_runs warning sampling jammed sent_at gate
thirty_in_1 = refl

-- profile 2: four samples and 50,500 µs
four_in_2 : sent_at (gate 2) (jammed 4 500 4 299) (50499 ∷ 50500 ∷ []) ≡ false ∷ true ∷ []
unfolding of_runs warning sampling jammed sent_at gate
four_in_2 = refl

three_in_2 : sent_at (gate 2) (jammed 4 500 3 299) (50500 ∷ 100499 ∷ 100500 ∷ []) ≡ false ∷ false ∷ true ∷ []
unfolding of_runs warning sampling jammed sent_at gate
three_in_2 = refl

-- profile 3, packets of 100 µs, 40 %: five samples are two updates whatever came before, and 133,977 µs
five_floor : calm_floor (gate 3) 400000 5 100 ≡ 133977
unfolding of_runs gate calm_floor calm_wait worst_duty duty_after
five_floor = refl

five_in_3 : sent_at (gate 3) (jammed 41 100 5 400) (133977 ∷ []) ≡ true ∷ []
unfolding of_runs warning sampling jammed sent_at gate
five_in_3 = refl

-- four are not, where the first was paired with one of the jam; where it wasn't, not a µs less would do
four_in_3 : sent_at (gate 3) (jammed 41 100 4 400) (133977 ∷ []) ≡ false ∷ []
unfolding of_runs warning sampling jammed sent_at gate
four_in_3 = refl

pairs_in_3 : sent_at (gate 3) (jammed 40 100 5 400) (133976 ∷ 133977 ∷ []) ≡ false ∷ true ∷ []
unfolding of_runs warning sampling jammed sent_at gate
pairs_in_3 = refl

-- profile 4: one sample of 62 % and 26,000 µs; with none, or of a full channel, more
one_in_4 : sent_at (gate 4) (jammed 1 1000 1 620) (25999 ∷ 26000 ∷ []) ≡ false ∷ true ∷ []
unfolding of_runs warning sampling jammed sent_at gate
one_in_4 = refl

none_in_4 : sent_at (gate 4) (jammed 1 1000 0 620) (26000 ∷ 1000999 ∷ 1001000 ∷ []) ≡ false ∷ false ∷ true ∷ []
unfolding of_runs warning sampling jammed sent_at gate
none_in_4 = refl

-- profile 5 with the example's list, below 40 %: fifty samples and 101,000 µs
fifty_in_5 : sent_at (making_of 5 0 example_list 0) (jammed 10 1000 50 399) (100999 ∷ 101000 ∷ []) ≡ false ∷ true ∷ []
unfolding of_runs warning sampling jammed sent_at
fifty_in_5 = refl

forty_nine_in_5 :
    sent_at (making_of 5 0 example_list 0) (jammed 10 1000 49 399) (101000 ∷ 1000999 ∷ 1001000 ∷ []) ≡ false ∷ false ∷ true ∷ []
unfolding of_runs warning sampling jammed sent_at
forty_nine_in_5 = refl

-- the second always has room for the longest packet in profiles 1, 2 and 5, and for 750 µs in profiles 3 and 4
longest_in_room :
    map (λ (p : ℕ × ℕ). always_room p.0 p.1) ((1, 1000) ∷ (2, 500) ∷ (3, 750) ∷ (4, 750) ∷ (5, 1000) ∷ [])
    ≡ true ∷ true ∷ true ∷ true ∷ true ∷ []
longest_in_room = refl

a_us_more : map (λ (p : ℕ × ℕ). always_room p.0 p.1) ((3, 751) ∷ (4, 751) ∷ []) ≡ false ∷ false ∷ []
a_us_more = refl

-- A host that obeys CLOSED, 1,000 µs late: profile 1 after a jam, a packet just sent and two that wait; four samples below 30 %,
-- and then polls when it is told to. One message goes in 204,000 µs, which is (1 + 1) x (101,000 + 1,000).
before : Run
unfolding of_runs warning sampling jammed gate
before = record { making = gate 1; calls = jammed 4 1000 0 0 ++ (offer 0 (warning 9 1000) ∷ []); ready = refl }

during : List Call
during = poll 1000 ∷ poll 102000 ∷ poll 103000 ∷ count 204000 0 1000 ∷ []

calm : Calm by_model 299999 4 1000
unfolding of_runs loads_in settles_in most_ontime before during sampling
calm =
    record {
      before = before;
      settling = sampling 4 299;
      during = during;
      a_load = omega arith;
      an_ontime = omega arith;
      settles = omega arith;
      enough = omega arith;
      none_above = omega arith;
      stays = omega arith;
      none_longer = omega arith;
    }

same_stamp : (a b : ℕ) → poll a ≡ poll b → b ≡ a
same_stamp a b e = sym (ap stamp_of e)

obeys : Obeys 1000 (journal (settled calm)).time (journal (settled calm)) (by_model.since (settled calm) during)
unfolding calm during
obeys = (
  omega arith,
  λ t e u. rw (same_stamp 1000 t e) (λ none. clash (sym (ap length none))),
  (
    omega arith,
    λ t e u. rw (same_stamp 102000 t e) (λ none. clash (sym (ap length none))),
    (
      omega arith,
      λ t e u. rw (same_stamp 103000 t e) (λ none. clash (sym (ap length none))),
      (omega arith, λ t e. clash (cc), tt),
    ),
  ),
)

one_message : messages_in by_model (settled calm) during ≡ 1
unfolding calm during
one_message = refl

exactly :
    time_of by_model (settled calm) during
    ≡ suc (messages_in by_model (settled calm) during) * (calm_floor before.making 299999 4 1000 + 1000)
unfolding calm during before calm_floor calm_wait
exactly = refl
