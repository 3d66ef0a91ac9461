-- Groups that were followed.
use Rattle.std.specs.Prelude.{◌≡◌, ◌⊎◌, ℕ, ◌&&◌, nat_lt, Bool, false, if◌then◌else◌, is_some, List, [], Contains, Option, Some, None, IfSome, IsSome, unwrap_or}
use Rattle.std.specs.BTreeMap.{is_at}
use Rattle.std.specs.Map.{lookup}
use Rattle.std.specs.Ordering.{nat_cmp}
use Rattle.arn_base.specs.declared.records.Record.{Record}
use Rattle.set_store.specs.declared.item.Item.{Item}
use Rattle.rv64_model.specs.Carries.{operands}
use Rattle.rv64_model.specs.declared.linkage.Linkage.{Linkage}
use Rattle.acts_model.specs.Records.{event_len}
use Rattle.acts_model.specs.Transfers.{is_private}
use Rattle.history_index.specs.Indexes.{AreCountable, Indexes}
use Rattle.history_index.specs.Tables.{Tables}
use Rattle.history_model.specs.Events.{event_at}
use Rattle.history_model.specs.Exchanges.{founded}
use Rattle.history_model.specs.Groups.{event_group}
use Rattle.lineage_model.specs.Flow.{At, Byte, StartRegister, StartSlot, StartMemory}
use Rattle.lineage_model.specs.Tracking.{EventByte}
use Rattle.query_model.specs.Sources.{tracked_at}
use Rattle.taint_state.specs.Asked.{answer}
use Rattle.taint_state.specs.Kept.{Kept, shown}
use Rattle.taint_state.specs.declared.point.Point.{Point}
use Rattle.followed_groups.specs.Follows.{Follows}

-- what is kept of groups, by number
pub record Following : Type 0 where
  pub entries : List Record
  pub linkage : Linkage
  pub until : ℕ
  pub trackers : List (ℕ × Kept)

abbrev pub tracker_of : Following → ℕ → Option Kept
tracker_of f g = lookup (is_at (nat_cmp g)) f.trackers

-- each was followed
abbrev pub IsFollowing : Following → Type 0
IsFollowing f = (g : ℕ) → IfSome (tracker_of f g) (Follows f.linkage f.entries f.until g)

-- these were
abbrev pub HasFollowed : Following → List ℕ → Type 0
HasFollowed f groups = (g : ℕ) → Contains groups g → IsSome (tracker_of f g)

-- and no others
abbrev pub HasOnly : Following → List ℕ → Type 0
HasOnly f groups = (g : ℕ) → IsSome (tracker_of f g) → Contains groups g

-- a byte of a register, but x0
abbrev pub is_register_byte : ℕ → ℕ → Bool
is_register_byte r i = nat_lt 0 r && (nat_lt r 32 && nat_lt i 8)

-- an event has this byte: one of its own, or, where it is a fork that started a group, one with which the child began
abbrev pub has_byte : Record → At → Bool
has_byte e (Byte k) = nat_lt k (event_len e)
has_byte e (StartRegister r i) = is_some (founded e) && is_register_byte r i
has_byte e (StartSlot r i) = is_some (founded e) && is_register_byte r i
has_byte e (StartMemory at) = is_some (founded e) && is_private at

abbrev pub is_there : Option Record → At → Bool
is_there None at = false
is_there (Some e) at = has_byte e at

-- the items of a byte of a group that was followed
abbrev pub items_kept : Following → ℕ → At → ℕ → Option Kept → List EventByte
items_kept f event at g None = []
items_kept f event at g (Some kept) = (tracked_at (operands f.linkage) f.entries f.until g).points event at

abbrev pub items_by : Following → ℕ → At → Option ℕ → List EventByte
items_by f event at None = []
items_by f event at (Some g) = items_kept f event at g (tracker_of f g)

-- the items of a byte that an event has, in the event's own group, if that was followed
abbrev pub items_followed : Following → ℕ → At → List EventByte
items_followed f event at = if is_there (event_at f.entries event) at then items_by f event at (event_group f.entries event) else []

-- what a tracker tells of a byte that it is asked about, where the group was followed
abbrev pub told_of : Point → Option Kept → List Item
told_of p None = []
told_of p (Some kept) = unwrap_or (answer (shown kept) p) []

abbrev pub told_by : Following → Point → Option ℕ → List Item
told_by f p None = []
told_by f p (Some g) = told_of p (tracker_of f g)

-- groups of these records, up to this moment
pub record IsOf (entries : List Record) (linkage : Linkage) (until : ℕ) (f : Following) : Type 0 where
  pub entries_are : f.entries ≡ entries
  pub linkage_is : f.linkage ≡ linkage
  pub until_is : f.until ≡ until

-- one group more was followed
pub record Adds (g : ℕ) (old new : Following) : Type 0 where
  pub of : IsOf old.entries old.linkage old.until new
  pub has : IsSome (tracker_of new g)
  pub keeps : (h : ℕ) → IsSome (tracker_of old h) → IsSome (tracker_of new h)

-- and no others
abbrev pub AddsOnly : ℕ → Following → Following → Type 0
AddsOnly g old new = (h : ℕ) → IsSome (tracker_of new h) → IsSome (tracker_of old h) ⊎ (h ≡ g)

-- the index is that of the records, and each group was followed
pub record IsIndexed (index : Tables) (f : Following) : Type 0 where
  pub countable : AreCountable f.entries
  pub indexed : Indexes index f.entries
  pub following : IsFollowing f
