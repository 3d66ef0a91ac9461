-- Names and files of a history.
use Rattle.std.specs.Prelude.{ℕ, ◌+◌, nat_lt, ◌&&◌, not, Bool, true, false, if◌then◌else◌, List, [], ◌∷◌, count_by, Option, Some, None, is_some, bytes_eq}
use Rattle.std.specs.List.{list_any}
use Rattle.arn_base.specs.declared.records.Record.{Record}
use Rattle.arn_base.specs.declared.records.Record.TheVariants as entry
use Rattle.parts_model.specs.declared.limits.TheConstants.{MOST_FILES}
use Rattle.acts_model.specs.Records.{NameChange, Names, Unnames, NoName, name_told}

-- the record starts the first process
abbrev pub is_boot : Record → Bool
is_boot (entry.Boot name give) = true
is_boot other = false

-- a process was made
abbrev pub is_booted : List Record → Bool
is_booted entries = list_any is_boot entries

-- the record brings a file
abbrev pub is_file : Record → Bool
is_file (entry.File name bytes) = true
is_file other = false

-- the file that a name stands for after a record, where so many files were brought before it
abbrev pub named_by : NameChange → List ℕ → Option ℕ → Option ℕ
named_by (Names path file) name before = if bytes_eq path name then Some file else before
named_by (Unnames path) name before = if bytes_eq path name then None else before
named_by NoName name before = before

-- Files that were brought are numbered in their order, and before those that calls made.
abbrev pub named_from : ℕ → List Record → List ℕ → Option ℕ → Option ℕ
named_from n [] name before = before
named_from n (entry.File path bytes ∷ entries) name before = named_from (n + 1) entries name (if bytes_eq path name then Some n else before)
named_from n (e ∷ entries) name before = named_from n entries name (named_by (name_told e) name before)

-- the number of the file that a name stands for at the history's end
abbrev pub file_named : List Record → List ℕ → Option ℕ
file_named entries name = named_from 0 entries name None

-- the bytes of the last file of this name that was brought
abbrev pub brought_from : List Record → List ℕ → Option (List ℕ) → Option (List ℕ)
brought_from [] name before = before
brought_from (entry.File path bytes ∷ entries) name before = brought_from entries name (if bytes_eq path name then Some bytes else before)
brought_from (e ∷ entries) name before = brought_from entries name before

abbrev pub brought : List Record → List ℕ → Option (List ℕ)
brought entries name = brought_from entries name None

-- before a boot: the name isn't taken, and one more file may be brought
abbrev pub may_bring : List Record → List ℕ → Bool
may_bring entries name = not (is_some (brought entries name)) && nat_lt (count_by is_file entries) MOST_FILES
