-- What is kept in tables of members and memories.
use Rattle.std.specs.Prelude.{◌≡◌, ◌↔◌, ℕ, List, map, Option, None, Some, IfSome, option_map}
use Rattle.parts_model.specs.Numbered.{nth}
use Rattle.taint_members.specs.Access.{HoldsKey}
use Rattle.taint_members.specs.declared.member.Held.{Held}
use Rattle.taint_members.specs.declared.member.MemberSets.{MemberSets}
use Rattle.taint_steps.specs.Table.{Tables}
use Rattle.rv64_model.specs.declared.linkage.Linkage.{Linkage}
use Rattle.taint_state.specs.Kept.{Kept, KeptHeard}
use Rattle.taint_state.specs.RunsShow.{kept_member}
use Rattle.taint_state.specs.Sound.{IsSound}
use Rattle.taint_group.specs.declared.memories.MemoryKind.{MemoryKind}
use Rattle.taint_group.specs.declared.memories.MemoryKind.TheVariants.{Segment, Window}

-- what tables keep of a group, beside its events
abbrev pub kept_in : Linkage → List KeptHeard → Tables → Kept
kept_in linkage heard tables =
    record {
      linkage = linkage;
      sets = tables.sets;
      members = map (option_map (kept_member tables.memories)) tables.members;
      heard = heard;
    }

-- the memory of a kind that a member holds
abbrev pub held_of : MemoryKind → MemberSets → Option Held
held_of Window m = Some m.window
held_of Segment m = m.segment

-- a memory that may be held has this key exactly where it is of this kind, and this event made it
abbrev pub HasKeyBy : MemoryKind → ℕ → ℕ → MemoryKind → Option Held → Type 0
HasKeyBy kind made key other None = Unit {0}
HasKeyBy kind made key other (Some held) = ((other ≡ kind) × (held.made ≡ made)) ↔ (held.key ≡ key)

-- memories that may be held are one exactly where they have one key
abbrev pub HaveOneKey : MemoryKind → MemoryKind → Option Held → Option Held → Type 0
HaveOneKey kind other first None = Unit {0}
HaveOneKey kind other first (Some held) = HasKeyBy other held.made held.key kind first

-- each memory that a member holds is in the table, once
pub record AreKeyed (tables : Tables) : Type 0 where
  pub held : (kind : MemoryKind) (p : ℕ) → IfSome (nth tables.members p) (λ (m : MemberSets). HoldsKey (held_of kind m) tables.memories)
  pub once : (kind other : MemoryKind) (p q : ℕ)
      → IfSome (nth tables.members p) (λ (m : MemberSets). IfSome (nth tables.members q) (λ (n : MemberSets). HaveOneKey kind other (held_of kind m) (held_of other n)))

-- tables that keep what is sound
pub record AreSoundTables (linkage : Linkage) (heard : List KeptHeard) (tables : Tables) : Type 0 where
  pub kept : IsSound (kept_in linkage heard tables)
  pub keyed : AreKeyed tables
