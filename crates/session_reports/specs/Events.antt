-- What is printed of the events of a history.
use Rattle.std.specs.Prelude.{ℕ, List, [], ◌++◌, flat_map, Option, Some}
use Rattle.std.specs.List.{range_with_len}
use Rattle.arn_base.specs.declared.records.Record.{Record}
use Rattle.acts_model.specs.Records.{event_len}
use Rattle.history_model.specs.Events.{event_at, how_many}
use Rattle.history_index.specs.Lookups.{event_moment}
use Rattle.report_texts.specs.Events.{event_line}
use Rattle.report_texts.specs.Totals.{events_line}

-- an event that is there, with its moment and the number of its bytes
abbrev pub event_there : ℕ → Option ℕ → Option Record → List ℕ
event_there n (Some moment) (Some e) = event_line n moment e (event_len e)
event_there n moment e = []

-- event n
abbrev pub event_text : List Record → ℕ → List ℕ
event_text entries n = event_there n (event_moment entries n) (event_at entries n)

-- each event, in order, and behind them how many there are
abbrev pub events_text : List Record → List ℕ
events_text entries = flat_map (event_text entries) (range_with_len 0 (how_many entries)) ++ events_line (how_many entries)
