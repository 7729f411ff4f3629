-- The tables of a calm channel, as a planner reads them (docs/LABEL.md, "On a calm channel").
use Rattle.std.specs.Prelude.{ℕ, ◌≡◌, List, [], ◌∷◌, map}
use Rattle.machine.specs.declared.Levels.{Levels}
use Rattle.machine.specs.Levels.{levels_of}
use Rattle.control.specs.Owed.{second}
use Rattle.model.specs.Calls.{Making}
use Rattle.label.specs.Trailer.{minute}
use Rattle.label.specs.Calm.{calm_floor}
use Rattle.label.specs.CalmRate.{calm_messages}

-- the heads of the table, "no sample": "above 20 %", "of 30 % or more", "of 40 % or more", "above 40 %",
-- "above 50 %", "above 60 %", "above 65 %"; "any load"
abbrev pub table_loads : List ℕ
table_loads = 200000 ∷ 299999 ∷ 399999 ∷ 400000 ∷ 500000 ∷ 600000 ∷ 650000 ∷ 1000000 ∷ []

-- a gate of a profile
abbrev pub InProfile : (profile : ℕ) → Making → Type 0
InProfile profile m = m.profile ≡ profile

-- one of profile 5 with the list of examples/c/first_edition.c: 60 ms, and from 20, 40 and 70 % on 100, 300
-- and 1,000 ms
abbrev pub example_list : Levels
example_list =
    levels_of 3 60000 (200000 ∷ 400000 ∷ 700000 ∷ 0 ∷ 0 ∷ 0 ∷ 0 ∷ 0 ∷ [])
    (100000 ∷ 300000 ∷ 1000000 ∷ 0 ∷ 0 ∷ 0 ∷ 0 ∷ 0 ∷ [])

abbrev pub WithExample : Making → Type 0
WithExample m = (m.profile ≡ 5) × (m.list ≡ example_list)

-- the messages in a time of every gate made so, so many samples after a jam, with no packet longer than an
-- on-time, by the load
abbrev pub MessagesAre : (Making → Type 0) → (samples ontime late time : ℕ) → (figures : List ℕ) → Type 0
MessagesAre Made samples ontime late time figures =
    (m : Making) → Made m
    → map (λ load. calm_messages m load samples ontime late time) table_loads ≡ figures

-- the messages a minute: "polled every 10 ms", "every 50 ms", "a host that obeys CLOSED, 1 ms late"
pub record AMinute (Made : Making → Type 0) (samples ontime : ℕ) (ten fifty obeying : List ℕ) : Type 0 where
  pub every_10_ms : MessagesAre Made samples ontime 10000 minute ten
  pub every_50_ms : MessagesAre Made samples ontime 50000 minute fifty
  pub obeying_1_ms : MessagesAre Made samples ontime 1000 minute obeying

-- "Messages a minute, at least": 4 samples after a jam in profiles 1 and 2, 600 in profile 3, 1 in profile 4,
-- 50 in profile 5; in profiles 3 and 4 for packets of up to 0.5, 0.75 and 1 ms, and for any that they allow
pub record CalmTable : Type 0 where
  pub one : AMinute (InProfile 1) 4 1000
      (540 ∷ 540 ∷ 284 ∷ 145 ∷ 117 ∷ 117 ∷ 59 ∷ 59 ∷ [])
      (397 ∷ 397 ∷ 239 ∷ 133 ∷ 108 ∷ 108 ∷ 57 ∷ 57 ∷ [])
      (588 ∷ 588 ∷ 297 ∷ 149 ∷ 119 ∷ 119 ∷ 59 ∷ 59 ∷ [])
  pub two : AMinute (InProfile 2) 4 500
      (991 ∷ 991 ∷ 542 ∷ 285 ∷ 230 ∷ 230 ∷ 230 ∷ 59 ∷ [])
      (597 ∷ 597 ∷ 398 ∷ 239 ∷ 199 ∷ 199 ∷ 199 ∷ 57 ∷ [])
      (1165 ∷ 1165 ∷ 591 ∷ 297 ∷ 238 ∷ 238 ∷ 238 ∷ 59 ∷ [])
  pub three_500 : AMinute (InProfile 3) 600 500
      (1714 ∷ 1714 ∷ 1714 ∷ 1714 ∷ 1267 ∷ 638 ∷ 256 ∷ 71 ∷ [])
      (799 ∷ 799 ∷ 799 ∷ 799 ∷ 687 ∷ 447 ∷ 219 ∷ 67 ∷ [])
      (2307 ∷ 2307 ∷ 2307 ∷ 2307 ∷ 1565 ∷ 706 ∷ 267 ∷ 71 ∷ [])
  pub three_750 : AMinute (InProfile 3) 600 750
      (1714 ∷ 1642 ∷ 1304 ∷ 1304 ∷ 909 ∷ 441 ∷ 173 ∷ 59 ∷ [])
      (799 ∷ 783 ∷ 697 ∷ 697 ∷ 566 ∷ 340 ∷ 155 ∷ 57 ∷ [])
      (2307 ∷ 2179 ∷ 1621 ∷ 1621 ∷ 1052 ∷ 472 ∷ 178 ∷ 59 ∷ [])
  pub three_1000 : AMinute (InProfile 3) 600 1000
      (1361 ∷ 1300 ∷ 1017 ∷ 1017 ∷ 696 ∷ 331 ∷ 129 ∷ 59 ∷ [])
      (707 ∷ 691 ∷ 601 ∷ 601 ∷ 473 ∷ 270 ∷ 118 ∷ 57 ∷ [])
      (1718 ∷ 1621 ∷ 1203 ∷ 1203 ∷ 779 ∷ 349 ∷ 131 ∷ 59 ∷ [])
  pub three_any : AMinute (InProfile 3) 600 4000
      (408 ∷ 389 ∷ 292 ∷ 292 ∷ 191 ∷ 86 ∷ 59 ∷ 59 ∷ [])
      (321 ∷ 308 ∷ 243 ∷ 243 ∷ 169 ∷ 81 ∷ 57 ∷ 57 ∷ [])
      (412 ∷ 412 ∷ 305 ∷ 305 ∷ 196 ∷ 87 ∷ 59 ∷ 59 ∷ [])
  pub four_500 : AMinute (InProfile 4) 1 500
      (1690 ∷ 1690 ∷ 1690 ∷ 1690 ∷ 1690 ∷ 1690 ∷ 585 ∷ 77 ∷ [])
      (794 ∷ 794 ∷ 794 ∷ 794 ∷ 794 ∷ 794 ∷ 421 ∷ 74 ∷ [])
      (2264 ∷ 2264 ∷ 2264 ∷ 2264 ∷ 2264 ∷ 2264 ∷ 641 ∷ 78 ∷ [])
  pub four_750 : AMinute (InProfile 4) 1 750
      (1678 ∷ 1678 ∷ 1678 ∷ 1678 ∷ 1678 ∷ 1678 ∷ 403 ∷ 59 ∷ [])
      (792 ∷ 792 ∷ 792 ∷ 792 ∷ 792 ∷ 792 ∷ 317 ∷ 57 ∷ [])
      (2242 ∷ 2242 ∷ 2242 ∷ 2242 ∷ 2242 ∷ 2242 ∷ 429 ∷ 59 ∷ [])
  pub four_1000 : AMinute (InProfile 4) 1 1000
      (1638 ∷ 1638 ∷ 1638 ∷ 1638 ∷ 1638 ∷ 1638 ∷ 302 ∷ 59 ∷ [])
      (776 ∷ 776 ∷ 776 ∷ 776 ∷ 776 ∷ 776 ∷ 251 ∷ 56 ∷ [])
      (1768 ∷ 1768 ∷ 1768 ∷ 1768 ∷ 1768 ∷ 1768 ∷ 317 ∷ 59 ∷ [])
  pub four-any : AMinute (InProfile 4) 1 4000
      (408 ∷ 408 ∷ 408 ∷ 408 ∷ 408 ∷ 408 ∷ 78 ∷ 59 ∷ [])
      (393 ∷ 393 ∷ 393 ∷ 393 ∷ 393 ∷ 393 ∷ 74 ∷ 56 ∷ [])
      (412 ∷ 412 ∷ 412 ∷ 412 ∷ 412 ∷ 412 ∷ 79 ∷ 59 ∷ [])
  pub five : AMinute WithExample 50 1000
      (540 ∷ 540 ∷ 540 ∷ 192 ∷ 192 ∷ 192 ∷ 192 ∷ 59 ∷ [])
      (397 ∷ 397 ∷ 397 ∷ 170 ∷ 170 ∷ 170 ∷ 170 ∷ 57 ∷ [])
      (588 ∷ 588 ∷ 588 ∷ 198 ∷ 198 ∷ 198 ∷ 198 ∷ 59 ∷ [])

-- "and in any second": a host that obeys CLOSED, 1 ms late
pub record ASecond : Type 0 where
  pub one : MessagesAre (InProfile 1) 4 1000 1000 second
      (9 ∷ 9 ∷ 4 ∷ 2 ∷ 1 ∷ 1 ∷ 0 ∷ 0 ∷ [])
  pub two : MessagesAre (InProfile 2) 4 500 1000 second
      (19 ∷ 19 ∷ 9 ∷ 4 ∷ 3 ∷ 3 ∷ 3 ∷ 0 ∷ [])
  pub three_500 : MessagesAre (InProfile 3) 600 500 1000 second
      (38 ∷ 38 ∷ 38 ∷ 38 ∷ 26 ∷ 11 ∷ 4 ∷ 1 ∷ [])
  pub three_750 : MessagesAre (InProfile 3) 600 750 1000 second
      (38 ∷ 36 ∷ 27 ∷ 27 ∷ 17 ∷ 7 ∷ 2 ∷ 0 ∷ [])
  pub four_500 : MessagesAre (InProfile 4) 1 500 1000 second
      (37 ∷ 37 ∷ 37 ∷ 37 ∷ 37 ∷ 37 ∷ 10 ∷ 1 ∷ [])
  pub four_750 : MessagesAre (InProfile 4) 1 750 1000 second
      (37 ∷ 37 ∷ 37 ∷ 37 ∷ 37 ∷ 37 ∷ 7 ∷ 0 ∷ [])
  pub five : MessagesAre WithExample 50 1000 1000 second
      (9 ∷ 9 ∷ 9 ∷ 3 ∷ 3 ∷ 3 ∷ 3 ∷ 0 ∷ [])

-- profile 3 settles bit by bit: no sample above 40 %, packets of up to 0.75 ms, polled every 50 ms; 50, 100,
-- 200, 300, 600 and 1,200 samples after a jam
abbrev pub Climb : Type 0
Climb =
    (m : Making) → m.profile ≡ 3
    → map (λ samples. calm_messages m 400000 samples 750 50000 minute)
    (50 ∷ 100 ∷ 200 ∷ 300 ∷ 600 ∷ 1200 ∷ [])
    ≡ 369 ∷ 518 ∷ 632 ∷ 671 ∷ 697 ∷ 699 ∷ []

-- the calm floors themselves, in µs, by the load
abbrev pub FloorsAre : (Making → Type 0) → (samples ontime : ℕ) → (floors : List ℕ) → Type 0
FloorsAre Made samples ontime floors =
    (m : Making) → Made m → map (λ load. calm_floor m load samples ontime) table_loads ≡ floors

pub record CalmFloorsAre : Type 0 where
  pub one : FloorsAre (InProfile 1) 4 1000
      (101000 ∷ 101000 ∷ 201000 ∷ 401000 ∷ 501000 ∷ 501000 ∷ 1001000 ∷ 1001000 ∷ [])
  pub two : FloorsAre (InProfile 2) 4 500
      (50500 ∷ 50500 ∷ 100500 ∷ 200500 ∷ 250500 ∷ 250500 ∷ 250500 ∷ 1000500 ∷ [])
  pub three_500 : FloorsAre (InProfile 3) 600 500
      (25000 ∷ 25000 ∷ 25000 ∷ 25000 ∷ 37336 ∷ 83977 ∷ 223656 ∷ 833334 ∷ [])
  pub three_750 : FloorsAre (InProfile 3) 600 750
      (25000 ∷ 26532 ∷ 36006 ∷ 36006 ∷ 56004 ∷ 125965 ∷ 335484 ∷ 1000000 ∷ [])
  pub three_1000 : FloorsAre (InProfile 3) 600 1000
      (33334 ∷ 35375 ∷ 48008 ∷ 48008 ∷ 74672 ∷ 167953 ∷ 447312 ∷ 1000000 ∷ [])
  pub three_any : FloorsAre (InProfile 3) 600 4000
      (133334 ∷ 141500 ∷ 192029 ∷ 192030 ∷ 298687 ∷ 671810 ∷ 1000000 ∷ 1000000 ∷ [])
  pub four_500 : FloorsAre (InProfile 4) 1 500
      (25500 ∷ 25500 ∷ 25500 ∷ 25500 ∷ 25500 ∷ 25500 ∷ 92500 ∷ 760000 ∷ [])
  pub four_750 : FloorsAre (InProfile 4) 1 750
      (25750 ∷ 25750 ∷ 25750 ∷ 25750 ∷ 25750 ∷ 25750 ∷ 138750 ∷ 1000750 ∷ [])
  pub four_1000 : FloorsAre (InProfile 4) 1 1000
      (26000 ∷ 26000 ∷ 26000 ∷ 26000 ∷ 26000 ∷ 26000 ∷ 185000 ∷ 1001000 ∷ [])
  pub four-any : FloorsAre (InProfile 4) 1 4000
      (29000 ∷ 29000 ∷ 29000 ∷ 29000 ∷ 29000 ∷ 29000 ∷ 740000 ∷ 1004000 ∷ [])
  pub five : FloorsAre WithExample 50 1000
      (101000 ∷ 101000 ∷ 101000 ∷ 301000 ∷ 301000 ∷ 301000 ∷ 301000 ∷ 1001000 ∷ [])
