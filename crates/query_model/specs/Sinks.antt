-- Which bytes that went out are reached by bytes of an event.
use Rattle.std.specs.Prelude.{ℕ, ◌+◌, ◌==◌, ◌&&◌, Bool, false, if◌then◌else◌, List, [], map, filter, flat_map, Option, Some, None}
use Rattle.std.specs.List.{list_any, range_with_len}
use Rattle.arn_base.specs.declared.records.Extra.{Extra}
use Rattle.arn_base.specs.declared.records.Extra.TheVariants as extra
use Rattle.arn_base.specs.declared.records.Pair.{Pair}
use Rattle.arn_base.specs.declared.records.Record.{Record}
use Rattle.arn_base.specs.declared.records.Record.TheVariants as entry
use Rattle.parts_model.specs.declared.calls.TheConstants.{WRITE}
use Rattle.rv64_model.specs.Carries.{Table}
use Rattle.acts_model.specs.Records.{event_len}
use Rattle.history_model.specs.Alone.{Disagrees}
use Rattle.history_model.specs.Events.{event_at, how_many}
use Rattle.history_model.specs.Groups.{event_group, is_number}
use Rattle.history_model.specs.Moments.{total}
use Rattle.lineage_model.specs.Flow.{At, Byte}
use Rattle.lineage_model.specs.Joined.{Reaching, reached}
use Rattle.lineage_model.specs.Pairs.{pairs_from}
use Rattle.lineage_model.specs.Tracking.{EventByte}
use Rattle.query_model.specs.Answers.{first_disagreement}
use Rattle.query_model.specs.Forth.{forth_groups}
use Rattle.query_model.specs.Sources.{items_at}

-- a write whose bytes go to a file, to the console or to a device
abbrev pub is_outward : ℕ → Extra → Bool
is_outward number (extra.Put file at bytes) = number == WRITE
is_outward number (extra.Console bytes) = number == WRITE
is_outward number (extra.Sent device bytes) = number == WRITE
is_outward number more = false

abbrev pub is_sink : Record → Bool
is_sink (entry.Call pid number result more) = is_outward number more
is_sink other = false

-- the event is of one of these groups
abbrev pub is_among : List Record → List ℕ → ℕ → Bool
is_among entries groups event = list_any (λ g. is_number g (event_group entries event)) groups

-- the items of a byte of an event of one of these groups, in the group alone; those of other groups aren't followed
abbrev pub items_among : Table → List Record → List ℕ → ℕ → ℕ → At → List EventByte
items_among table entries groups moment event at = if is_among entries groups event then items_at table entries moment event at else []

-- the source bytes that reach a byte of an event by these groups alone
abbrev pub reaching_among : Table → List Record → List ℕ → ℕ → Reaching
reaching_among table entries groups moment = reached (event_at entries) (items_among table entries groups moment) (how_many entries)

-- byte k of an event
abbrev pub is_place : ℕ → At → Bool
is_place k (Byte at) = at == k
is_place k other = false

abbrev pub is_byte : ℕ → ℕ → EventByte → Bool
is_byte event k byte = (byte.event == event) && is_place k byte.at

-- the bytes of event n, of so many, that it reaches
abbrev pub bytes_reached : Reaching → ℕ → ℕ → ℕ → ℕ → List EventByte
bytes_reached reaching event k n len =
    map (λ at. record { event = n; at = Byte at }) (filter (λ at. list_any (is_byte event k) (reaching n (Byte at))) (range_with_len 0 len))

-- where event n is a write of one of these groups to the outside
abbrev pub sinks_at : List Record → List ℕ → Reaching → ℕ → ℕ → ℕ → Option Record → List EventByte
sinks_at entries groups reaching event k n None = []
sinks_at entries groups reaching event k n (Some e) =
    if is_sink e && is_among entries groups n then bytes_reached reaching event k n (event_len e) else []

-- the bytes of all such writes that it reaches
abbrev pub sinks_reached : List Record → List ℕ → Reaching → ℕ → ℕ → List EventByte
sinks_reached entries groups reaching event k =
    flat_map (λ n. sinks_at entries groups reaching event k n (event_at entries n)) (range_with_len 0 (how_many entries))

-- a byte that went out of these groups beside each of so many bytes of an event, from a place on, that reaches it by these groups alone
abbrev pub pairs_among : Table → List Record → List ℕ → ℕ → ℕ → ℕ → List Pair
pairs_among table entries groups event from len =
    pairs_from (λ k. sinks_reached entries groups (reaching_among table entries groups (total entries)) event (from + k)) 0 len

-- by the groups to which these can have come, at the end of the history
abbrev pub forth_pairs : Table → List Record → ℕ → ℕ → ℕ → List Pair
forth_pairs table entries event from len = pairs_among table entries (forth_groups entries event from len) event from len

-- where these groups disagree
abbrev pub forth_disagreement : List Record → ℕ → ℕ → ℕ → Option Disagrees
forth_disagreement entries event from len = first_disagreement entries (total entries) (forth_groups entries event from len)
