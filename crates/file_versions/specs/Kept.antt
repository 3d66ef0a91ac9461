-- Names as a map keeps them.
use Rattle.std.specs.Prelude.{ℕ, List, map}
use Rattle.std.specs.Borrow.{Bor}
use Rattle.std.specs.Global.{Vec}
use Rattle.file_versions.specs.declared.names.Change.{Change}
use Rattle.file_versions.specs.Tables.{NameChanges}

-- an entry of the map
abbrev pub name_of : Bor (List ℕ) × Vec Change → NameChanges
name_of entry = record { path = entry.0.now; changes = entry.1.items }

abbrev pub names_of : List (Bor (List ℕ) × Vec Change) → List NameChanges
names_of entries = map name_of entries
