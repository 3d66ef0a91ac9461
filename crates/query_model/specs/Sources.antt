-- Which source bytes reach a byte of an event: each group alone tells which bytes that it received are in the event's byte, and stored origins
-- tell where these came from.
use Rattle.std.specs.Prelude.{ℕ, List, [], Option, Some, None}
use Rattle.arn_base.specs.declared.records.Record.{Record}
use Rattle.rv64_model.specs.Carries.{Table}
use Rattle.history_model.specs.Alone as history
use Rattle.history_model.specs.Alone.{Made, Makes, Fails}
use Rattle.history_model.specs.Events.{event_at, how_many}
use Rattle.history_model.specs.Groups.{event_group}
use Rattle.lineage_model.specs.Flow.{At}
use Rattle.lineage_model.specs.Joined.{Reaching, reached}
use Rattle.lineage_model.specs.Tracking.{EventByte, Tracked, alone, untracked}

-- the items of a group alone; none where its records disagree
abbrev pub tracked_of : Table → Made → Tracked EventByte
tracked_of table (Makes own) = alone table own.inside
tracked_of table (Fails disagrees) = untracked

-- those of group g at a moment
abbrev pub tracked_at : Table → List Record → ℕ → ℕ → Tracked EventByte
tracked_at table entries moment g = tracked_of table (history.alone entries g moment)

-- the items of a byte of an event, in the event's own group
abbrev pub items_in : Table → List Record → ℕ → ℕ → At → Option ℕ → List EventByte
items_in table entries moment event at None = []
items_in table entries moment event at (Some g) = (tracked_at table entries moment g).points event at

abbrev pub items_at : Table → List Record → ℕ → ℕ → At → List EventByte
items_at table entries moment event at = items_in table entries moment event at (event_group entries event)

-- the source bytes that reach a byte of an event, where groups are followed up to a moment
abbrev pub reaching : Table → List Record → ℕ → Reaching
reaching table entries moment = reached (event_at entries) (items_at table entries moment) (how_many entries)
