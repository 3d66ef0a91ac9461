-- To which source bytes the items of groups that were followed lead.
use Rattle.std.specs.Prelude.{ℕ, ◌+◌, List, flat_map}
use Rattle.arn_base.specs.declared.records.Record.{Record}
use Rattle.rv64_model.specs.Carries.{operands}
use Rattle.history_model.specs.Events.{event_at}
use Rattle.lineage_join.specs.Laws.{reaches}
use Rattle.lineage_model.specs.Flow.{Byte}
use Rattle.lineage_model.specs.Joined.{Reaching, from_item, from_origin}
use Rattle.lineage_model.specs.Tracking.{EventByte}
use Rattle.parts_model.specs.declared.tagged.TaggedByte.{TaggedByte}
use Rattle.query_model.specs.Names.{writer_of}
use Rattle.query_model.specs.States.{held_items}
use Rattle.query_model.specs.declared.held.Held.{Held}
use Rattle.followed_groups.specs.Following.{Following, items_followed}
use Rattle.followed_pairs.specs.declared.asked.Asked.{Asked}

-- from a byte of an event
abbrev pub leads : List Record → Following → Reaching
leads entries f = reaches entries (items_followed f)

-- from byte k of what is asked of an event
abbrev pub event_leads : List Record → Following → Asked → ℕ → List EventByte
event_leads entries f asked k = leads entries f asked.event (Byte (asked.from + k))

-- from byte k of what a process holds
abbrev pub held_leads : List Record → Following → Held → ℕ → List EventByte
held_leads entries f held k = flat_map (from_item (event_at entries) (leads entries f)) (held_items (operands f.linkage) entries held k)

-- from byte k of bytes that were written
abbrev pub written_leads : List Record → Following → List TaggedByte → ℕ → List EventByte
written_leads entries f bytes k = from_origin (leads entries f) (writer_of bytes k)
