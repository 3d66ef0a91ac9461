-- Files: their bytes, their names and how many hold them.
use Rattle.std.specs.Prelude.{ℕ, ◌+◌, ◌-◌, ◌==◌, nat_le, nat_lt, ◌&&◌, ◌||◌, not, Bool, if◌then◌else◌, List, [], ◌∷◌, ◌++◌, length, take, drop, filter, Option, Some, None, option_map, slice_set, bytes_eq}
use Rattle.std.specs.List.{list_any}
use Rattle.parts_model.specs.declared.limits.TheConstants.{MOST_FILES, MOST_FILE_BYTES, MOST_NAME_BYTES}
use Rattle.parts_model.specs.declared.tagged.TaggedByte.{TaggedByte}
use Rattle.parts_model.specs.Numbered.{nth, how_many}
use Rattle.parts_model.specs.Tagged.{held_bytes}

-- a file: its bytes, and how many descriptions stand for it
pub record File : Type 0 where
  pub bytes : List TaggedByte
  pub holders : ℕ

-- a name, and the number of its file
pub record Name : Type 0 where
  pub path : List ℕ
  pub file : ℕ

-- Files are numbered from 0 in the order of their making. One that has neither a name nor a holder is gone.
pub record Files : Type 0 where
  pub all : List (Option File)
  pub names : List Name

-- before any is made
abbrev pub no_files : Files
no_files = record { all = []; names = [] }

-- names have 1 to 64 bytes of any value
abbrev pub is_name : List ℕ → Bool
is_name path = nat_le 1 (length path) && nat_le (length path) MOST_NAME_BYTES

-- the file that a name stands for among names
abbrev pub file_among : List Name → List ℕ → Option ℕ
file_among [] path = None
file_among (n ∷ names) path = if bytes_eq n.path path then Some n.file else file_among names path

-- the number of the file with this name
abbrev pub find_file : Files → List ℕ → Option ℕ
find_file files path = file_among files.names path

-- a file's bytes, with their origins
abbrev pub file_bytes : Files → ℕ → Option (List TaggedByte)
file_bytes files file = option_map (λ f. f.bytes) (nth files.all file)

-- there are as many files as there may be
abbrev pub is_full : Files → Bool
is_full files = nat_le MOST_FILES (how_many files.all)

-- the number of the next file
abbrev pub next_file : Files → ℕ
next_file files = length files.all

-- a file of these bytes is made under a free name
abbrev pub made : Files → List ℕ → List TaggedByte → Files
made files path bytes =
    record {
      all = files.all ++ Some (record { bytes = bytes; holders = 0 }) ∷ [];
      names = files.names ++ record { path = path; file = next_file files } ∷ [];
    }

-- some name stands for the file
abbrev pub has_name : List Name → ℕ → Bool
has_name names file = list_any (λ n. n.file == file) names

-- a file that has lost a name or a holder stays while it has another
abbrev pub if_reached : List Name → ℕ → File → Option File
if_reached names file f = if has_name names file || nat_lt 0 f.holders then Some f else None

-- the files with another state of one
abbrev pub with_file : Files → ℕ → Option File → Files
with_file files file f = record files { all = slice_set files.all file f }

-- a file that is there, after a change of how it is reached
abbrev pub reached_again : Files → ℕ → Option File → Files
reached_again files file None = files
reached_again files file (Some f) = with_file files file (if_reached files.names file f)

-- without a name; its file stays while something holds it
abbrev pub without_name : List Name → List ℕ → List Name
without_name names path = filter (λ n. not (bytes_eq n.path path)) names

abbrev pub unnamed : Files → List ℕ → ℕ → Files
unnamed files path file = reached_again (record files { names = without_name files.names path }) file (nth files.all file)

-- one more description stands for the file
abbrev pub with_holder : Files → ℕ → Option File → Files
with_holder files file None = files
with_holder files file (Some f) = with_file files file (Some (record f { holders = f.holders + 1 }))

abbrev pub held : Files → ℕ → Files
held files file = with_holder files file (nth files.all file)

-- one fewer; a file without name and holder is gone
abbrev pub without_holder : File → File
without_holder f = record f { holders = f.holders - 1 }

abbrev pub released : Files → ℕ → Files
released files file = reached_again files file (option_map without_holder (nth files.all file))

-- bytes over those of a list from a place in it on, and behind them
abbrev pub laid_over : List TaggedByte → ℕ → List TaggedByte → List TaggedByte
laid_over old at new = take at old ++ new ++ drop (at + length new) old

-- how many of so many bytes a file takes at a place
abbrev pub fitting : ℕ → ℕ → ℕ
fitting at len = if nat_le (at + len) MOST_FILE_BYTES then len else MOST_FILE_BYTES - at

-- the file after bytes of an event are written at a place, as many as fit
abbrev pub rewritten : ℕ → List ℕ → ℕ → File → File
rewritten at bytes event f = record f { bytes = laid_over f.bytes at (held_bytes event (take (fitting at (length bytes)) bytes)) }

abbrev pub written : Files → ℕ → ℕ → List ℕ → ℕ → Files
written files file at bytes event = record files { all = slice_set files.all file (option_map (rewritten at bytes event) (nth files.all file)) }

-- the bytes from a place on, at most so many
abbrev pub read_from : List TaggedByte → ℕ → ℕ → List TaggedByte
read_from bytes at most = take most (drop at bytes)
