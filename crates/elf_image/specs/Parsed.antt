-- What the calls tell of a file.
use Rattle.std.specs.Prelude.{◌≡◌, ◌≤◌, ◌+◌, ◌*◌, ℕ, nat_lt, ◌&&◌, Bool, true, List, length}
use Rattle.parts_model.specs.declared.limits.TheConstants.{WINDOW_START, WINDOW_END}
use Rattle.elf_image.specs.declared.format.Header.{Header}
use Rattle.elf_image.specs.declared.format.TheConstants.{HEADER_LEN}
use Rattle.elf_image.specs.declared.elf.Elf.{Elf}
use Rattle.elf_image.specs.declared.elf.Part.{Part}
use Rattle.elf_image.specs.Elf.{entry, table, count, header, is_loaded, is_elf}

-- a file header, as the file has it
abbrev pub read_elf : List ℕ → Elf
read_elf file = record { entry = entry file; table = table file; count = count file }

-- the file header of an accepted file
abbrev pub IsElfOf : List ℕ → Elf → Type 0
IsElfOf file elf = (is_elf file ≡ true) × (elf ≡ read_elf file)

-- the table that the file header names lies whole in the file
abbrev pub HasTable : List ℕ → Elf → Type 0
HasTable file elf = elf.table + HEADER_LEN * elf.count ≤ length file

-- the file has a program header of this number, and it is loaded
abbrev pub has_part : List ℕ → ℕ → Bool
has_part file n = nat_lt n (count file) && is_loaded (header file n)

-- the part says what the program header says
abbrev pub IsPartOf : Header → Part → Type 0
IsPartOf h part = part ≡ record { offset = h.offset; file_len = h.file_len; address = h.address; memory_len = h.memory_len }

-- the ranges of a program header are whole: of a file that is so long, and of the private window
pub record IsWhole (len : ℕ) (h : Header) : Type 0 where
  pub room : h.file_len ≤ h.memory_len
  pub in_file : h.offset + h.file_len ≤ len
  pub above : WINDOW_START ≤ h.address
  pub below : h.address + h.memory_len ≤ WINDOW_END

-- the ranges of a part are
abbrev pub IsInFile : ℕ → Part → Type 0
IsInFile len part = part.offset + part.file_len ≤ len

abbrev pub HasRoom : Part → Type 0
HasRoom part = part.file_len ≤ part.memory_len

abbrev pub IsInWindow : Part → Type 0
IsInWindow part = (WINDOW_START ≤ part.address) × (part.address + part.memory_len ≤ WINDOW_END)
