-- What a query about bytes that a process holds at a moment answers: its group alone tells which bytes that the group received they have, and
-- stored origins tell where these came from.
use Rattle.std.specs.Prelude.{ℕ, zero, suc, ◌+◌, ◌<◌, List, [], flat_map, Option, Some, None, option_map, option_to_list}
use Rattle.arn_base.specs.declared.records.Pair.{Pair}
use Rattle.arn_base.specs.declared.records.Record.{Record}
use Rattle.rv64_model.specs.Carries.{Table}
use Rattle.acts_model.specs.Bodies.{Body, body_at}
use Rattle.acts_model.specs.Transfers.{Holds, holds_of, memory_at}
use Rattle.history_model.specs.Alone as history
use Rattle.history_model.specs.Alone.{Made, Makes, Fails, Disagrees}
use Rattle.history_model.specs.Events.{event_at}
use Rattle.history_model.specs.Groups.{group_of}
use Rattle.lineage_model.specs.Flow.{Location, Register, Memory}
use Rattle.lineage_model.specs.Joined.{from_item}
use Rattle.lineage_model.specs.Pairs.{pairs_from}
use Rattle.lineage_model.specs.Tracking.{EventByte, Tracked, alone}
use Rattle.query_model.specs.Answers.{first_disagreement}
use Rattle.query_model.specs.Linked.{groups_back}
use Rattle.query_model.specs.Sources.{reaching}
use Rattle.query_model.specs.declared.held.Held.{Held}
use Rattle.query_model.specs.declared.held.Part.{Part}
use Rattle.query_model.specs.declared.held.Part.TheVariants as part

-- how many bytes are asked for
abbrev pub part_len : Part → ℕ
part_len (part.Register r) = 8
part_len (part.Memory at len) = len

-- byte k is one of them
abbrev pub HasByte : Part → ℕ → Type 0
HasByte (part.Register r) k = (r < 32) × (k < 8)
HasByte (part.Memory at len) k = k < len

-- where byte i of a register lies. x0 holds none
abbrev pub in_register : ℕ → ℕ → ℕ → Option Location
in_register pid zero i = None
in_register pid (suc r) i = Some (Register pid (suc r) i)

-- where the byte at an address lies, of a process that holds these memories
abbrev pub in_memory : Holds → ℕ → Option Location
in_memory holds at = option_map (λ made. Memory made at) (memory_at holds at)

-- where byte k of a part lies
abbrev pub location_of : ℕ → Holds → Part → ℕ → Option Location
location_of pid holds (part.Register r) k = in_register pid r k
location_of pid holds (part.Memory at len) k = in_memory holds (at + k)

-- the set of what lies there
abbrev pub set_at : Tracked EventByte → Option Location → List EventByte
set_at t None = []
set_at t (Some location) = t.locations location

-- the set of byte k of a part of a process: none, if it doesn't live
abbrev pub set_of : Tracked EventByte → ℕ → Part → ℕ → Option Body → List EventByte
set_of t pid p k None = []
set_of t pid p k (Some x) = set_at t (location_of pid (holds_of x) p k)

-- its items in a group alone; none where the group's records disagree
abbrev pub items_made : Table → ℕ → Part → ℕ → Made → List EventByte
items_made table pid p k (Makes own) = set_of (alone table own.inside) pid p k (body_at own.bodies pid)
items_made table pid p k (Fails disagrees) = []

abbrev pub items_among : Table → List Record → Held → ℕ → Option ℕ → List EventByte
items_among table entries held k None = []
items_among table entries held k (Some g) = items_made table held.pid held.part k (history.alone entries g held.moment)

-- in the process's own group, at the moment
abbrev pub held_items : Table → List Record → Held → ℕ → List EventByte
held_items table entries held k = items_among table entries held k (group_of entries held.pid)

-- the source bytes that reach byte k: what its items stand for, where groups are followed up to the moment
abbrev pub held_sources : Table → List Record → Held → ℕ → List EventByte
held_sources table entries held k = flat_map (from_item (event_at entries) (reaching table entries held.moment)) (held_items table entries held k)

-- a source byte with each byte that has it
abbrev pub held_pairs : Table → List Record → Held → List Pair
held_pairs table entries held = pairs_from (held_sources table entries held) 0 (part_len held.part)

-- the groups that are asked: the process's own, and those from which it can have received bytes
abbrev pub process_groups : List Record → ℕ → List ℕ
process_groups entries pid = groups_back entries (option_to_list (group_of entries pid))

-- where these disagree
abbrev pub held_disagreement : List Record → Held → Option Disagrees
held_disagreement entries held = first_disagreement entries held.moment (process_groups entries held.pid)
