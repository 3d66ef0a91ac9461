-- Static ELF64 files: which are accepted, and which ranges of one are copied to which addresses. Numbers are little-endian. A field's name in
-- the ELF-64 object file format stands in its comment.
use Rattle.std.specs.Prelude.{ℕ, ◌+◌, ◌*◌, ◌==◌, nat_lt, nat_le, ◌&&◌, ◌||◌, not, Bool, true, if◌then◌else◌, List, [], ◌∷◌, length, take, drop, map, filter, slice_index, Option, Some, None}
use Rattle.std.specs.List.{list_all, range_with_len}
use Rattle.arn_base.specs.Window.{number_of}
use Rattle.parts_model.specs.Image.{can_enter}
use Rattle.parts_model.specs.declared.limits.TheConstants.{WINDOW_START, WINDOW_END}
use Rattle.elf_image.specs.declared.format.Header.{Header}
use Rattle.elf_image.specs.declared.format.TheConstants.{FILE_HEADER_LEN, CLASS_64, LITTLE_ENDIAN, CURRENT_VERSION, EXECUTABLE, RISC_V, HEADER_LEN, MOST_HEADERS, LOAD, DYNAMIC, INTERPRETER}

-- the number in so many bytes at a place
abbrev pub number_in : List ℕ → ℕ → ℕ → ℕ
number_in file at len = number_of (take len (drop at file))

-- the file header's fields: e_entry, e_phoff and e_phnum
abbrev pub entry : List ℕ → ℕ
entry file = number_in file 24 8

abbrev pub table : List ℕ → ℕ
table file = number_in file 32 8

abbrev pub count : List ℕ → ℕ
count file = number_in file 56 2

-- a program header's fields, where it stands at a place: p_type, p_offset, p_vaddr, p_filesz and p_memsz
abbrev pub header_at : List ℕ → ℕ → Header
header_at file at =
    record { kind = number_in file at 4; offset = number_in file (at + 8) 8; address = number_in file (at + 16) 8; file_len = number_in file (at + 32) 8; memory_len = number_in file (at + 40) 8 }

-- the program header of a number, and all in the table's order
abbrev pub header : List ℕ → ℕ → Header
header file n = header_at file (table file + HEADER_LEN * n)

abbrev pub headers : List ℕ → List Header
headers file = map (header file) (range_with_len 0 (count file))

-- the header is loaded: its type says so, and it has memory. Any other is passed over, whatever its ranges are
abbrev pub is_loaded : Header → Bool
is_loaded h = (h.kind == LOAD) && nat_lt 0 h.memory_len

-- the header asks for a linker
abbrev pub is_linked : Header → Bool
is_linked h = (h.kind == DYNAMIC) || (h.kind == INTERPRETER)

-- the header's range of a file that is so long lies whole in the file
abbrev pub is_in_file : ℕ → Header → Bool
is_in_file len h = nat_le (h.offset + h.file_len) len

-- the header's range of memory lies whole in the private window
abbrev pub is_in_window : Header → Bool
is_in_window h = nat_le WINDOW_START h.address && nat_le (h.address + h.memory_len) WINDOW_END

-- the header's bytes have room in its memory, and both ranges are whole
abbrev pub fits : ℕ → Header → Bool
fits len h = nat_le h.file_len h.memory_len && (is_in_file len h && is_in_window h)

-- no linker is asked for, and what is loaded fits
abbrev pub is_static : ℕ → Header → Bool
is_static len h = not (is_linked h) && (if is_loaded h then fits len h else true)

-- the file header is whole
abbrev pub is_long : List ℕ → Bool
is_long file = nat_le FILE_HEADER_LEN (length file)

-- e_ident names the class, the order of bytes and the version
abbrev pub has_ident : List ℕ → Bool
has_ident file = (slice_index file 4 == CLASS_64) && ((slice_index file 5 == LITTLE_ENDIAN) && (slice_index file 6 == CURRENT_VERSION))

-- e_type, e_machine and e_version are those of an executable file of this machine
abbrev pub is_executable : List ℕ → Bool
is_executable file = (number_in file 16 2 == EXECUTABLE) && ((number_in file 18 2 == RISC_V) && (number_in file 20 4 == CURRENT_VERSION))

-- e_phentsize is the length of a header, and e_phnum is one of those allowed
abbrev pub has_sizes : List ℕ → Bool
has_sizes file = (number_in file 54 2 == HEADER_LEN) && (nat_le 1 (count file) && nat_le (count file) MOST_HEADERS)

-- the table of program headers lies whole in the file
abbrev pub has_table : List ℕ → Bool
has_table file = nat_le (table file + HEADER_LEN * count file) (length file)

-- each program header is one of a static file
abbrev pub has_headers : List ℕ → Bool
has_headers file = list_all (is_static (length file)) (headers file)

-- the entry is a multiple of 4 in the private window
abbrev pub has_entry : List ℕ → Bool
has_entry file = can_enter (entry file)

-- all cases
abbrev pub elf_cases : List (List ℕ → Bool)
elf_cases = is_long ∷ has_ident ∷ is_executable ∷ has_sizes ∷ has_table ∷ has_headers ∷ has_entry ∷ []

-- the file is accepted: each case holds
abbrev pub is_elf : List ℕ → Bool
is_elf file = list_all (λ holds. holds file) elf_cases

-- so many bytes of a file from a place on, and the address that they are copied to
pub record Piece : Type 0 where
  pub from : ℕ
  pub at : ℕ
  pub len : ℕ

abbrev pub piece : Header → Piece
piece h = record { from = h.offset; at = h.address; len = h.file_len }

-- where the first instruction stands, and the pieces, each copied over those before it
pub record Executable : Type 0 where
  pub entry : ℕ
  pub pieces : List Piece

-- what an accepted file says
abbrev pub elf_of : List ℕ → Option Executable
elf_of file = if is_elf file then Some (record { entry = entry file; pieces = map piece (filter is_loaded (headers file)) }) else None
