-- Memories by key, and those that are held.
use Rattle.std.specs.Prelude.{◌≡◌, ◌≢◌, ℕ, List, [], map, slice_set as set, Option, Some, None, IfSome, IsSome, option_map, unwrap_or}
use Rattle.guest_mem.specs.Pages.{Paged}
use Rattle.parts_model.specs.Numbered.{nth}
use Rattle.guest_bodies.specs.declared.guest.Held.{Held}

-- the bytes of memories of one kind, by key
abbrev pub Table : Type 0
Table = List (Option (List ℕ))

-- those of private windows and of segments
pub record Tables : Type 0 where
  pub windows : Table
  pub segments : Table

-- the bytes of spaces, whichever pages they share
abbrev pub bytes_by_key : List (Option Paged) → Table
bytes_by_key spaces = map (option_map (λ space. space.bytes)) spaces

-- the bytes of a memory, none where none is held
abbrev pub held_bytes : Table → Option Held → List ℕ
held_bytes table None = []
held_bytes table (Some h) = unwrap_or (nth table h.key) []

-- the table, with other bytes in the memory that is held
abbrev pub with_held : Option Held → List ℕ → Table → Table
with_held None bytes table = table
with_held (Some h) bytes table = set table h.key (Some bytes)

-- a memory that is held is in the table
abbrev pub IfHeld : Option Held → Table → Type 0
IfHeld o table = IfSome o (λ h. IsSome (nth table h.key))

-- a memory came under a key that had none
pub record Adds (key : ℕ) (bytes : List ℕ) (old new : Table) : Type 0 where
  pub none : nth old key ≡ None
  pub one : nth new key ≡ Some bytes
  pub others : (k : ℕ) → k ≢ key → nth new k ≡ nth old k

-- two names of a memory mean the same
pub record SameNames (s t : Held) : Type 0 where
  pub by_key : s.key ≡ t.key → s.made ≡ t.made
  pub by_made : s.made ≡ t.made → s.key ≡ t.key
