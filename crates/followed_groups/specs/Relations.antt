-- What is kept of groups that were followed.
use Rattle.std.specs.Prelude.{◌≡◌, ◌⊎◌, ℕ, ◌++◌, List, Contains, Option, Some, None}
use Rattle.lru.specs.LruCache.{LruCache}
use Rattle.arn_base.specs.declared.records.Record.{Record}
use Rattle.rv64_model.specs.declared.linkage.Linkage.{Linkage}
use Rattle.rv64_model.specs.declared.linkage.Linkage.TheVariants as linkage
use Rattle.group_extents.specs.Extents.{extent_of}
use Rattle.group_extents.specs.declared.extent.Extent.{Extent}
use Rattle.history_index.specs.Indexes.{Indexes}
use Rattle.history_index.specs.Tables.{Tables}
use Rattle.taint_state.specs.Kept.{Kept}
use Rattle.followed_groups.specs.Follows.{Follows}
use Rattle.followed_groups.specs.declared.relations.Relation.{Relation}
use Rattle.followed_groups.specs.declared.relations.Relations.{Relations}

-- a number for each linkage
abbrev pub number_of : Linkage → ℕ
number_of linkage.Copy = 0
number_of linkage.Data = 1
number_of linkage.Index = 2

-- a group was followed up to a moment, on records with which these begin, and had come so far then
pub record IsRelation (linkage : Linkage) (entries : List Record) (g : ℕ) (r : Relation) : Type 0 where
  pub before : List Record
  pub more : List Record
  pub begins : entries ≡ before ++ more
  pub index : Tables
  pub indexed : Indexes index before
  pub moment : ℕ
  pub follows : Follows linkage before moment g r.tracker
  pub extent : r.extent ≡ extent_of before g moment

-- a cache has this under a group and the number of a linkage
abbrev pub Holds : Option (LruCache (ℕ × ℕ) Relation) → ℕ × ℕ → Relation → Type 0
Holds None key r = ⊥
Holds (Some cache) key r = Contains cache.entries (key, r)

-- what a cache has was there before
abbrev pub HoldsNoMore : Option (LruCache (ℕ × ℕ) Relation) → Option (LruCache (ℕ × ℕ) Relation) → Type 0
HoldsNoMore old new = (key : ℕ × ℕ) (r : Relation) → Holds new key r → Holds old key r

-- for how many there is room
abbrev pub room_of : Option (LruCache (ℕ × ℕ) Relation) → ℕ
room_of None = 0
room_of (Some cache) = cache.cap

-- the same, of relations
abbrev pub room : Relations → ℕ
room relations = room_of relations.cache

-- none is kept
abbrev pub KeepsNothing : Relations → Type 0
KeepsNothing relations = (key : ℕ × ℕ) (r : Relation) → Holds relations.cache key r → ⊥

-- one was kept of the group, under the linkage, from where it had come so far
abbrev pub HasFound : Relations → Linkage → ℕ → Extent → Kept → Type 0
HasFound relations linkage g extent tracker = Holds relations.cache (g, number_of linkage) (record { extent = extent; tracker = tracker })

-- what is kept was so before
abbrev pub KeepsNoMore : Relations → Relations → Type 0
KeepsNoMore old new = HoldsNoMore old.cache new.cache

-- what is kept was so before, or is this
abbrev pub KeepsAlso : Relations → Relations → Linkage → ℕ → Relation → Type 0
KeepsAlso old new linkage g one =
    (key : ℕ × ℕ) (r : Relation) → Holds new.cache key r → Holds old.cache key r ⊎ ((key ≡ (g, number_of linkage)) × (r ≡ one))

-- each that is kept is of these records, or of those with which they begin
abbrev pub AreOf : List Record → Relations → Type 0
AreOf entries relations = (linkage : Linkage) (g : ℕ) (r : Relation) → Holds relations.cache (g, number_of linkage) r → IsRelation linkage entries g r

-- more records may come
abbrev pub KeptStays : Type 0
KeptStays = (relations : Relations) (before more : List Record) → AreOf before relations → AreOf (before ++ more) relations
