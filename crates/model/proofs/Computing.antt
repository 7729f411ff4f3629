-- What a computed example opens, so that it needs to name one thing: the rules on numbers, what samples steer, a call, a run.
use Rattle.rules.specs.Profiles.{within, reactive_of, most_ontime, ontime_allowed}
use Rattle.rules.specs.Clock.{step_of, goes_back, passes_end}
use Rattle.rules.specs.Refusals.{first_of}
use Rattle.rules.specs.Samples.{good_probes, probe, busy_of, no_stray, good_words, bad_count, load_of}
use Rattle.rules.specs.Levels.{wanted_by, towards, wait_by}
use Rattle.rules.specs.Duty.{smoothed_of, offset_of, duty_of}
use Rattle.rules.specs.Wait.{adaptive_wait, start_of}
use Rattle.rules.specs.Harmonised.{per_mille, factor_of, harmonised_wait}
use Rattle.packing.specs.Packing as packing
use Rattle.machine.specs.Levels.{threshold_at, wait_at, rising, good_list, sound_list, tidied, none_listed}
use Rattle.machine.specs.Loads.{packed, sound_loads, none_held}
use Rattle.machine.specs.Moves.{least_from, greatest_from, least_of, low_of, high_of, reaches, highest_to, level_after, moved_by}
use Rattle.control.specs.Control.{list_kept, pairing_sound, latest_sound, top_of, listing_sound, tuning_sound, sound_control}
use Rattle.control.specs.Control.{tuned, sampled}
use Rattle.control.specs.Wait.{wait_with}
use Rattle.control.specs.Owed.{quiet}
use Rattle.model.specs.Packets.{without_expired, in_order}
use Rattle.model.specs.Queues.{queue_sound, choice}
use Rattle.model.specs.Ledger.{young, air_of, allowed_from, spaced_out, newest_is}
use Rattle.model.specs.State.{sound}
use Rattle.model.specs.Effects.{closed, effect}
use Rattle.model.specs.Gate.{checks, make_in, call}
use Rattle.model.specs.Journal.{picked, lowest, journal_of, air_time, air_in, last_second}
use Rattle.model.specs.Claims.{view_after, events}

unfoldable pub of_numbers : Type 0
unfolding within reactive_of most_ontime ontime_allowed step_of goes_back passes_end first_of
of_numbers = Unit {0}

unfoldable pub of_lists : Type 0
unfolding tidied packed threshold_at least_from greatest_from least_of low_of high_of reaches highest_to level_after moved_by
    packing.all_are packing.filled packing.padded
of_lists = Unit {0}

unfoldable pub of_samples : Type 0
unfolding of_numbers good_probes probe busy_of no_stray good_words bad_count load_of wanted_by towards smoothed_of offset_of
    duty_of
    list_kept tuned sampled of_lists
of_samples = Unit {0}

unfoldable pub of-waits : Type 0
unfolding of_numbers wait_by adaptive_wait per_mille factor_of harmonised_wait start_of wait_at wait_with quiet
of-waits = Unit {0}

unfoldable pub of_soundness : Type 0
unfolding of_numbers pairing_sound latest_sound top_of listing_sound tuning_sound sound_control good_list rising sound_list
    none_listed
    sound_loads none_held of_lists in_order queue_sound spaced_out newest_is air_of sound
of_soundness = Unit {0}

unfoldable pub of_calls : Type 0
unfolding of_samples of-waits of_soundness young allowed_from without_expired choice closed effect checks make_in call
of_calls = Unit {0}

unfoldable pub of_runs : Type 0
unfolding of_calls view_after events picked lowest journal_of air_time air_in last_second
of_runs = Unit {0}
