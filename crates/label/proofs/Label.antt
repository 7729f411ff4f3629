-- All of the label, from its theorems.
use Rattle.label.specs.Label.{LabelHolds}
use Rattle.label.proofs.Ceiling.{ceiling}
use Rattle.label.proofs.Second.{second}
use Rattle.label.proofs.Most.{most_holds, together_on_air}
use Rattle.label.proofs.Reached.{most_reached}
use Rattle.label.proofs.OnAir.{receiver_hears}
use Rattle.label.proofs.Site.{together, enough, figures}
use Rattle.label.proofs.Restarts.{restarts_keep, waiting_restarts}
use Rattle.label.proofs.Rate.{rate, each_minute, polled_obeys, rate_of_obeying}
use Rattle.label.proofs.Priorities.{warnings_go, in_its_turn, waits_at_most, waits_among_others}
use Rattle.label.proofs.Shorter.{never_longer}
use Rattle.label.proofs.Calm.{calm_floors}
use Rattle.label.proofs.CalmRate.{calm_rate, messages_when_calm, calm_waits, calm_delivery}
use Rattle.label.proofs.Recovery.{recovers}

pub label_holds : LabelHolds
label_holds =
    record {
      ceiling = ceiling;
      second = second;
      most_holds = most_holds;
      most_reached = most_reached;
      receiver_hears = receiver_hears;
      together = together;
      together_on_air = together_on_air;
      restarts_keep = restarts_keep;
      waiting_restarts = waiting_restarts;
      rate = rate;
      each_minute = each_minute;
      polled_obeys = polled_obeys;
      rate_of_obeying = rate_of_obeying;
      enough = enough;
      figures = figures;
      warnings_go = warnings_go;
      in_its_turn = in_its_turn;
      waits_at_most = waits_at_most;
      waits_among_others = waits_among_others;
      never_longer = never_longer;
      calm_floors = calm_floors;
      calm_rate = calm_rate;
      messages_when_calm = messages_when_calm;
      calm_waits = calm_waits;
      calm_delivery = calm_delivery;
      recovers = recovers;
    }
