-- Which records can't stand next, by what is kept of those before.
use Rattle.std.specs.Prelude.{ℕ, ◌==◌, ◌&&◌, ◌||◌, not, Bool, true, false, List, length, Option, Some, None, option_map, slice_get}
use Rattle.std.specs.List.{list_all}
use Rattle.arn_base.specs.declared.records.Give.{Give}
use Rattle.arn_base.specs.declared.records.Origin.{Origin}
use Rattle.arn_base.specs.declared.records.Record.{Record}
use Rattle.arn_base.specs.declared.records.Record.TheVariants as entry
use Rattle.acts_model.specs.Records.{give_of}
use Rattle.history_model.specs.Broken.{Behind, is_behind, lies_in_event, origins_len, start_in, has_blocks_wrong, child_in, misplaces_start}
use Rattle.history_index.specs.declared.events.EventAt.{EventAt}
use Rattle.history_index.specs.Families.{lives_in}
use Rattle.history_index.specs.Tables.{Tables}

-- it comes on the wrong side of the boot
abbrev pub comes_wrong_by : Bool → Record → Bool
comes_wrong_by is_booted (entry.File name bytes) = is_booted
comes_wrong_by is_booted (entry.Boot name give) = is_booted
comes_wrong_by is_booted (entry.Typed bytes) = not is_booted
comes_wrong_by is_booted (entry.Unplug device) = not is_booted
comes_wrong_by is_booted (entry.Slice pid ran) = not is_booted
comes_wrong_by is_booted other = false

-- its process doesn't live
abbrev pub lacks_process_by : List Bool → Record → Bool
lacks_process_by lives (entry.Slice pid ran) = not (lives_in lives pid)
lacks_process_by lives other = false

-- its process has no open slice
abbrev pub lacks_slice_by : Behind → Record → Bool
lacks_slice_by at_hand (entry.Signal pid signal cut handler) = not (is_behind pid at_hand)
lacks_slice_by at_hand (entry.Call pid number result more) = not (is_behind pid at_hand)
lacks_slice_by at_hand (entry.End pid status) = not (is_behind pid at_hand)
lacks_slice_by at_hand other = false

-- its origins name bytes of events, one for each byte
abbrev pub is_origin_by : List EventAt → Origin → Bool
is_origin_by events o = lies_in_event o (option_map (λ e. e.len) (slice_get events o.event))

abbrev pub are_origins_by : List EventAt → Option Give → Bool
are_origins_by events None = true
are_origins_by events (Some give) = list_all (is_origin_by events) give.origins && (origins_len give.origins == length give.bytes)

-- its child's number isn't the next
abbrev pub misnumbers_by : ℕ → Option ℕ → Bool
misnumbers_by next None = false
misnumbers_by next (Some child) = not (child == next)

abbrev pub refuses : Tables → Record → Bool
refuses t e =
    comes_wrong_by t.is_booted e || (lacks_process_by t.families.lives e || (lacks_slice_by t.at_hand e || (not (are_origins_by t.events (give_of e)) || (has_blocks_wrong (start_in e) || (misnumbers_by (length t.families.lives) (child_in e) || misplaces_start e)))))
