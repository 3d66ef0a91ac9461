-- What is kept of the names and writes of a history.
use Rattle.std.specs.Prelude.{◌≡◌, ℕ, ◌+◌, ◌<◌, ◌^◌, nat_le, ◌&&◌, Bool, if◌then◌else◌, List, [], ◌∷◌, length, map, filter, All, Option, Some, None, option_map, bytes_eq}
use Rattle.std.specs.List.{cons_option}
use Rattle.arn_base.specs.declared.records.Record.{Record}
use Rattle.arn_base.specs.declared.records.Record.TheVariants as entry
use Rattle.acts_model.specs.Records.{NameChange, Names, Unnames, NoName, name_told}
use Rattle.history_index.specs.Lookups.{events_in}
use Rattle.history_model.specs.Moments.{ran_in, total}
use Rattle.file_versions.specs.declared.names.Change.{Change}
use Rattle.file_versions.specs.declared.told.Before.{Before}
use Rattle.file_versions.specs.Versions.{Write, brought_by, written_by, is_to, file_at, writes_at}

-- from a moment on a name stands for a file, or for none
pub record NameAt : Type 0 where
  pub moment : ℕ
  pub path : List ℕ
  pub file : Option ℕ

-- the changes of a name, in order
pub record NameChanges : Type 0 where
  pub path : List ℕ
  pub changes : List Change

-- a write, and the moment from which on it is done
pub record WriteAt : Type 0 where
  pub moment : ℕ
  pub write : Write

-- how many instructions there were, the changes of each name, and all writes, in order
pub record Tables : Type 0 where
  pub total : ℕ
  pub names : List NameChanges
  pub writes : List WriteAt

-- what comes before all records, and before the next one
abbrev pub nothing_before : Before
nothing_before = record { ran = 0; events = 0; files = 0 }

abbrev pub with_record : Before → Record → Before
with_record b e = record { ran = b.ran + ran_in e; events = b.events + events_in e; files = b.files + brought_by e }

-- the name that a record changes, at a moment
abbrev pub name_changed : ℕ → NameChange → Option NameAt
name_changed moment (Names path file) = Some (record { moment = moment; path = path; file = Some file })
name_changed moment (Unnames path) = Some (record { moment = moment; path = path; file = None })
name_changed moment NoName = None

abbrev pub name_in : Before → Record → Option NameAt
name_in b (entry.File path bytes) = Some (record { moment = b.ran; path = path; file = Some b.files })
name_in b other = name_changed b.ran (name_told other)

-- what it writes
abbrev pub write_in : Before → Record → Option WriteAt
write_in b e = option_map (λ w. record { moment = b.ran; write = record { event = b.events; over = w } }) (written_by b.files e)

-- what records change and write that come behind others
abbrev pub names_in : Before → List Record → List NameAt
names_in b [] = []
names_in b (e ∷ entries) = cons_option (name_in b e) (names_in (with_record b e) entries)

abbrev pub writes_in : Before → List Record → List WriteAt
writes_in b [] = []
writes_in b (e ∷ entries) = cons_option (write_in b e) (writes_in (with_record b e) entries)

-- the file that a name stands for after a change that was done by a moment, and after several
abbrev pub name_after : ℕ → List ℕ → NameAt → Option ℕ → Option ℕ
name_after moment name n before = if nat_le n.moment moment && bytes_eq n.path name then n.file else before

abbrev pub named_until : ℕ → List ℕ → List NameAt → Option ℕ → Option ℕ
named_until moment name [] before = before
named_until moment name (n ∷ names) before = named_until moment name names (name_after moment name n before)

-- the same of the changes of one name
abbrev pub changed_after : ℕ → Change → Option ℕ → Option ℕ
changed_after moment c before = if nat_le c.moment moment then c.file else before

abbrev pub file_after : ℕ → List Change → Option ℕ → Option ℕ
file_after moment [] before = before
file_after moment (c ∷ changes) before = file_after moment changes (changed_after moment c before)

-- the changes that are kept of a name
abbrev pub changes_of : List ℕ → List NameChanges → List Change
changes_of name [] = []
changes_of name (n ∷ names) = if bytes_eq name n.path then n.changes else changes_of name names

-- the file that it stands for at a moment
abbrev pub file_until : ℕ → List ℕ → List NameChanges → Option ℕ
file_until moment name names = file_after moment (changes_of name names) None

-- the writes to a file up to a moment
abbrev pub is_until : ℕ → ℕ → WriteAt → Bool
is_until moment file w = nat_le w.moment moment && is_to file w.write

abbrev pub writes_until : ℕ → ℕ → List WriteAt → List Write
writes_until moment file writes = map (λ w. w.write) (filter (is_until moment file) writes)

-- they are those of a history
pub record TellsFiles (t : Tables) (entries : List Record) : Type 0 where
  pub total : t.total ≡ total entries
  pub names : (moment : ℕ) (name : List ℕ) → file_until moment name t.names ≡ file_at entries moment name
  pub short : All (λ w. length w.write.over.bytes < 2 ^ 32) t.writes
  pub writes : (moment file : ℕ) → writes_until moment file t.writes ≡ writes_at entries moment file
