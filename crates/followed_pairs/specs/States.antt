-- What is asked of bytes that a process holds at a moment.
use Rattle.std.specs.Prelude.{ℕ, ◌+◌, ◌<◌, ◌^◌, nat_lt, ◌&&◌, Bool, List, All, map, flat_map, IfSome, IsSome}
use Rattle.std.specs.List.{range_with_len}
use Rattle.arn_base.specs.declared.records.Record.{Record}
use Rattle.rv64_model.specs.Carries.{operands}
use Rattle.set_store.specs.declared.item.Item.{Item}
use Rattle.history_model.specs.Events.{event_at}
use Rattle.history_model.specs.Groups.{group_of}
use Rattle.lineage_join.specs.Fits.{IsThere}
use Rattle.lineage_join.specs.declared.demand.Demand.{Demand}
use Rattle.lineage_join.specs.declared.demand.Demand.TheVariants as demand
use Rattle.past_lives.specs.Members.{is_member, is_memory_range}
use Rattle.query_model.specs.States.{HasByte, held_items}
use Rattle.query_model.specs.declared.held.Held.{Held}
use Rattle.query_model.specs.declared.held.Part.{Part}
use Rattle.query_model.specs.declared.held.Part.TheVariants as part
use Rattle.taint_state.specs.declared.point.Point.{Point}
use Rattle.taint_state.specs.declared.point.Point.TheVariants as point
use Rattle.followed_groups.specs.Following.{Following, told_by, tracker_of}

-- the process lives at the moment, and has this register, or these bytes, which aren't too many to be asked for
abbrev pub has_part : List Record → ℕ → ℕ → Part → Bool
has_part entries moment pid (part.Register r) = is_member entries moment pid && nat_lt r 32
has_part entries moment pid (part.Memory at len) = is_memory_range entries moment pid at len

abbrev pub is_held : List Record → Held → Bool
is_held entries held = has_part entries held.moment held.pid held.part

-- no address of the part is too large for a number of 64 bits
abbrev pub IsPlaced : Part → Type 0
IsPlaced (part.Register r) = Unit {0}
IsPlaced (part.Memory at len) = at + len < 2 ^ 64

-- what is asked of a tracker
abbrev pub point_in : ℕ → Part → ℕ → Point
point_in pid (part.Register r) k = point.Reg pid r k
point_in pid (part.Memory at len) k = point.Mem pid (at + k)

-- the items that the process's group tells of byte k
abbrev pub told_at : Following → Held → ℕ → List Item
told_at f held k = told_by f (point_in held.pid held.part k) (group_of f.entries held.pid)

-- byte k of the target takes an item
abbrev pub item_demand : ℕ → Item → Demand
item_demand k item = demand.Item item k

-- all that the first bytes take, so many of them
abbrev pub held_demands : Following → Held → ℕ → List Demand
held_demands f held n = flat_map (λ k. map (item_demand k) (told_at f held k)) (range_with_len 0 n)

-- the process's group was followed
abbrev pub IsOwnFollowed : Following → ℕ → Type 0
IsOwnFollowed f pid = IfSome (group_of f.entries pid) (λ g. IsSome (tracker_of f g))

-- each item of what the process holds is a byte that its event has
abbrev pub AreItemsThere : Following → Held → Type 0
AreItemsThere f held =
    (k : ℕ) → HasByte held.part k → All (λ item. IsThere (event_at f.entries item.event) item.at) (held_items (operands f.linkage) f.entries held k)
