-- The tables of a calm channel, each figure computed: the floors of every gate of a profile, and the messages by them.
use Prim.Native.Nat.{ℕ}
use mathlib.Core.Path.{◌≡◌, refl, ap, ◌∙◌}
use mathlib.Core.List.{List, map}
use Rattle.rules.specs.Profiles.{most_ontime}
use Rattle.rules.specs.Levels.{wanted_by, wait_by}
use Rattle.rules.specs.Duty.{smoothed_of, offset_of, duty_of}
use Rattle.rules.specs.Wait.{adaptive_wait, start_of}
use Rattle.rules.specs.Harmonised.{per_mille, factor_of, harmonised_wait}
use Rattle.machine.specs.Levels.{threshold_at, wait_at}
use Rattle.machine.specs.Moves.{reaches, highest_to}
use Rattle.control.specs.Owed.{second, quiet}
use Rattle.model.specs.Calls.{Making}
use Rattle.label.specs.Trailer.{minute}
use Rattle.label.specs.Calm.{duty_after, worst_duty, longest_to, calm_wait, calm_floor}
use Rattle.label.specs.CalmRate.{messages_by}
use Rattle.label.specs.CalmFigures.{InProfile, WithExample, MessagesAre, AMinute, CalmTable, ASecond, Climb, FloorsAre}
use Rattle.label.specs.CalmFigures.{CalmFloorsAre}

-- what the floors are computed with
unfoldable of_floors : Type 0
unfolding wanted_by wait_by smoothed_of offset_of duty_of adaptive_wait start_of per_mille factor_of harmonised_wait threshold_at
    wait_at
    reaches highest_to duty_after worst_duty longest_to calm_wait calm_floor
of_floors = Unit {0}

-- and the messages
unfoldable of-messages : Type 0
unfolding messages_by quiet start_of most_ontime
of-messages = Unit {0}

pub calm_floors_are : CalmFloorsAre
unfolding of_floors
calm_floors_are =
    record {
      one = λ m e. rw e;
      two = λ m e. rw e;
      three_500 = λ m e. rw e;
      three_750 = λ m e. rw e;
      three_1000 = λ m e. rw e;
      three_any = λ m e. rw e;
      four_500 = λ m e. rw e;
      four_750 = λ m e. rw e;
      four_1000 = λ m e. rw e;
      four-any = λ m e. rw e;
      five = λ m e. rw (e.0, e.1);
    }

-- gates whose floors are known
module _ (Made : Making → Type 0) (profile samples ontime : ℕ) (is : (m : Making) → Made m → m.profile ≡ profile)
    (floors : List ℕ) (known : FloorsAre Made samples ontime floors) where
  abbrev by : (late time : ℕ) → List ℕ
  by late time = map (λ floor. messages_by profile floor ontime late time) floors

  messages : (late time : ℕ) (figures : List ℕ) → by late time ≡ figures → MessagesAre Made samples ontime late time figures
  messages late time figures e m made =
      ap (map (λ floor. messages_by m.profile floor ontime late time)) (known m made)
      ∙ ap (λ (p : ℕ). map (λ floor. messages_by p floor ontime late time) floors) (is m made)
      ∙ e

  minutes : (ten fifty obeying : List ℕ) → by 10000 minute ≡ ten → by 50000 minute ≡ fifty → by 1000 minute ≡ obeying
      → AMinute Made samples ontime ten fifty obeying
  minutes ten fifty obeying a b c =
      record {
        every_10_ms = messages 10000 minute ten a;
        every_50_ms = messages 50000 minute fifty b;
        obeying_1_ms = messages 1000 minute obeying c;
      }

pub calm_table : CalmTable
unfolding of-messages
calm_table =
    let f = calm_floors_are in
    record {
      one = minutes (InProfile 1) 1 4 1000 (λ m e. e) _ f.one _ _ _ refl refl refl;
      two = minutes (InProfile 2) 2 4 500 (λ m e. e) _ f.two _ _ _ refl refl refl;
      three_500 = minutes (InProfile 3) 3 600 500 (λ m e. e) _ f.three_500 _ _ _ refl refl refl;
      three_750 = minutes (InProfile 3) 3 600 750 (λ m e. e) _ f.three_750 _ _ _ refl refl refl;
      three_1000 = minutes (InProfile 3) 3 600 1000 (λ m e. e) _ f.three_1000 _ _ _ refl refl refl;
      three_any = minutes (InProfile 3) 3 600 4000 (λ m e. e) _ f.three_any _ _ _ refl refl refl;
      four_500 = minutes (InProfile 4) 4 1 500 (λ m e. e) _ f.four_500 _ _ _ refl refl refl;
      four_750 = minutes (InProfile 4) 4 1 750 (λ m e. e) _ f.four_750 _ _ _ refl refl refl;
      four_1000 = minutes (InProfile 4) 4 1 1000 (λ m e. e) _ f.four_1000 _ _ _ refl refl refl;
      four-any = minutes (InProfile 4) 4 1 4000 (λ m e. e) _ f.four-any _ _ _ refl refl refl;
      five = minutes WithExample 5 50 1000 (λ m e. e.0) _ f.five _ _ _ refl refl refl;
    }

pub a_second : ASecond
unfolding of-messages
a_second =
    let f = calm_floors_are in
    record {
      one = messages (InProfile 1) 1 4 1000 (λ m e. e) _ f.one 1000 second _ refl;
      two = messages (InProfile 2) 2 4 500 (λ m e. e) _ f.two 1000 second _ refl;
      three_500 = messages (InProfile 3) 3 600 500 (λ m e. e) _ f.three_500 1000 second _ refl;
      three_750 = messages (InProfile 3) 3 600 750 (λ m e. e) _ f.three_750 1000 second _ refl;
      four_500 = messages (InProfile 4) 4 1 500 (λ m e. e) _ f.four_500 1000 second _ refl;
      four_750 = messages (InProfile 4) 4 1 750 (λ m e. e) _ f.four_750 1000 second _ refl;
      five = messages WithExample 5 50 1000 (λ m e. e.0) _ f.five 1000 second _ refl;
    }

pub climb : Climb
unfolding of_floors of-messages
climb m e = rw e
