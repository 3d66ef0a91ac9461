-- The events of a history, by their numbers from 0.
use Rattle.std.specs.Prelude.{ℕ, ◌+◌, nat_le, ◌&&◌, Bool, false, List, length, filter, Option, Some, None, option_map, slice_get}
use Rattle.arn_base.specs.declared.records.Record.{Record}
use Rattle.parts_model.specs.declared.limits.TheConstants.{MOST_ASKED}
use Rattle.acts_model.specs.Records.{is_event, event_len}

-- the records of events, in order
abbrev pub events : List Record → List Record
events entries = filter is_event entries

-- how many events there are
abbrev pub how_many : List Record → ℕ
how_many entries = length (events entries)

-- the record of event n
abbrev pub event_at : List Record → ℕ → Option Record
event_at entries n = slice_get (events entries) n

-- how many bytes event n has
abbrev pub len_of : List Record → ℕ → Option ℕ
len_of entries n = option_map event_len (event_at entries n)

-- so many bytes from a place on lie in these many, ends included, and aren't too many to be asked for
abbrev pub lies_in : ℕ → ℕ → ℕ → Bool
lies_in len from asked = nat_le (from + asked) len && nat_le asked MOST_ASKED

-- the event is there, and has these bytes
abbrev pub is_range : Option Record → ℕ → ℕ → Bool
is_range None from asked = false
is_range (Some e) from asked = lies_in (event_len e) from asked
