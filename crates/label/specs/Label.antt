-- All that the label says of runs, in one: it holds of any way in which calls are answered, if it is the
-- model's (docs/LABEL.md, "Where it is proved").
use Rattle.label.specs.Trailer.{Answers, by_model, Ceiling, Second, Rate, PolledObeys, RateOfObeying}
use Rattle.label.specs.Trailer.{PerMinute}
use Rattle.label.specs.Site.{Together, Enough, AllFigures}
use Rattle.label.specs.Restarts.{RestartsKeep, WaitingRestarts}
use Rattle.label.specs.OnAir.{ReceiverHears}
use Rattle.label.specs.Most.{MostHolds, TogetherOnAir, MostReached}
use Rattle.label.specs.Priorities.{InItsTurn, WaitsAtMost, WarningsGo, WaitsAmongOthers}
use Rattle.label.specs.Calm.{NeverLonger, CalmFloors}
use Rattle.label.specs.CalmRate.{CalmRate, CalmMessages, CalmWaits, CalmDelivery, Recovers}

pub record Label (by : Answers) : Type 0 where
  -- C, Z
  pub ceiling : Ceiling by
  pub second : Second by
  -- W, I, A
  pub most_holds : MostHolds by
  pub most_reached : MostReached by
  pub receiver_hears : ReceiverHears by
  pub together : Together by
  pub together_on_air : TogetherOnAir by
  -- Y
  pub restarts_keep : RestartsKeep by
  pub waiting_restarts : WaitingRestarts by
  -- M, S, and P, F and D in their numbers
  pub rate : Rate by
  pub each_minute : PerMinute by
  pub polled_obeys : PolledObeys by
  pub rate_of_obeying : RateOfObeying by
  pub enough : Enough by
  pub figures : AllFigures by
  -- D, U
  pub warnings_go : WarningsGo by
  pub in_its_turn : InItsTurn by
  pub waits_at_most : WaitsAtMost by
  pub waits_among_others : WaitsAmongOthers by
  -- J
  pub never_longer : NeverLonger by
  pub calm_floors : CalmFloors by
  pub calm_rate : CalmRate by
  pub messages_when_calm : CalmMessages by
  pub calm_waits : CalmWaits by
  pub calm_delivery : CalmDelivery by
  pub recovers : Recovers by

-- of the model
abbrev pub LabelHolds : Type 0
LabelHolds = Label by_model
