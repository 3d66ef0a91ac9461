-- The definition at literal files.
use Rattle.std.proofs.Common.{◌≡◌, ℕ, ◌++◌, true, false, List, [], ◌∷◌, Some, replicate, take, set, refl}
use Rattle.elf_image.specs.Elf.{elf_of, has_sizes, is_elf, is_long}

-- a file header of an executable with so many program headers
file_header : ℕ → List ℕ
file_header count =
    (0x7f ∷ 0x45 ∷ 0x4c ∷ 0x46 ∷ 2 ∷ 1 ∷ 1 ∷ []) ++ replicate 9 0 ++ (2 ∷ 0 ∷ 0xf3 ∷ 0 ∷ 1 ∷ 0 ∷ 0 ∷ 0 ∷ []) ++ (0x78 ∷ 0 ∷ 1 ∷ 0 ∷ 0 ∷ 0 ∷ 0 ∷ 0 ∷ [])
    ++ (0x40 ∷ replicate 15 0)
    ++ (0 ∷ 0 ∷ 0 ∷ 0 ∷ 0x40 ∷ 0 ∷ 0x38 ∷ 0 ∷ count ∷ 0 ∷ 0 ∷ 0 ∷ 0 ∷ 0 ∷ 0 ∷ 0 ∷ [])

-- a program header: its type, the offset's low byte, the three low bytes of the address, and the low bytes of both lengths
header_of : ℕ → ℕ → List ℕ → ℕ → List ℕ → List ℕ
header_of kind offset address file_len memory_len =
    (kind ∷ 0 ∷ 0 ∷ 0 ∷ 5 ∷ 0 ∷ 0 ∷ 0 ∷ []) ++ (offset ∷ replicate 7 0) ++ address ++ replicate 5 0 ++ address ++ replicate 5 0 ++ (file_len ∷ replicate 7 0)
    ++ memory_len
    ++ (0 ∷ 0x10 ∷ replicate 6 0)

-- one header loads the whole file of 164 bytes at the window's start; the first instruction stands behind the headers
whole_file : List ℕ
whole_file = file_header 1 ++ header_of 1 0 (0 ∷ 0 ∷ 1 ∷ []) 0xa4 (0xa4 ∷ replicate 7 0) ++ replicate 44 0x13

elf-whole-file :
    (elf_of whole_file ≡ Some (record { entry = 0x10078; pieces = record { from = 0; at = 0x10000; len = 0xa4 } ∷ [] }))
    -- the type is none, the machine is another, and the range is a byte too long for the file
    × (is_elf (set whole_file 16 0) ≡ false)
    × (is_elf (set whole_file 18 0) ≡ false)
    × (is_elf (set whole_file 96 0xa5) ≡ false)
    -- a byte behind the end of memory's range, and one byte less in the file
    × (is_elf (set whole_file 104 0xa3) ≡ false)
    × (is_elf (take 163 whole_file) ≡ false)
    -- the first bytes are not asked
    × (is_elf (set whole_file 0 0) ≡ true)
    -- no header, an entry that is no multiple of 4, and one behind the window
    × (is_elf (set whole_file 56 0) ≡ false)
    × (is_elf (set whole_file 24 0x7a) ≡ false)
    × (is_elf (set whole_file 26 5) ≡ false)
unfolding whole_file file_header header_of
elf-whole-file = (refl, refl, refl, refl, refl, refl, refl, refl, refl, refl)

-- 1 to 64 headers, and 64 bytes at least
elf-limits :
    (has_sizes (set whole_file 56 64) ≡ true)
    × (has_sizes (set whole_file 56 65) ≡ false)
    × (is_long (take 64 whole_file) ≡ true)
    × (is_long (take 63 whole_file) ≡ false)
unfolding whole_file file_header header_of
elf-limits = (refl, refl, refl, refl)

-- a second header, behind one that is loaded
two_headers : List ℕ → List ℕ
two_headers second = file_header 2 ++ header_of 1 0 (0 ∷ 0 ∷ 1 ∷ []) 64 (0 ∷ 1 ∷ replicate 6 0) ++ second

-- both are loaded, in their order; the second begins within the first one's memory
elf-two-headers :
    (elf_of (two_headers (header_of 1 4 (8 ∷ 0 ∷ 1 ∷ []) 2 (0xf8 ∷ 0xff ∷ 3 ∷ replicate 5 0)))
    ≡ Some (record { entry = 0x10078; pieces = record { from = 0; at = 0x10000; len = 64 } ∷ record { from = 4; at = 0x10008; len = 2 } ∷ [] }))
    -- it doesn't end in the window, or asks for a linker
    × (is_elf (two_headers (header_of 1 4 (8 ∷ 0 ∷ 1 ∷ []) 2 (0xf9 ∷ 0xff ∷ 3 ∷ replicate 5 0))) ≡ false)
    × (is_elf (two_headers (header_of 2 4 (8 ∷ 0 ∷ 1 ∷ []) 2 (2 ∷ replicate 7 0))) ≡ false)
    × (is_elf (two_headers (header_of 3 4 (8 ∷ 0 ∷ 1 ∷ []) 2 (2 ∷ replicate 7 0))) ≡ false)
    -- it has no memory or another type: its ranges are not asked
    × (elf_of (two_headers (header_of 1 0xff (0 ∷ 0 ∷ 9 ∷ []) 0xff (replicate 8 0)))
    ≡ Some (record { entry = 0x10078; pieces = record { from = 0; at = 0x10000; len = 64 } ∷ [] }))
    × (is_elf (two_headers (header_of 4 0xff (0 ∷ 0 ∷ 9 ∷ []) 0xff (1 ∷ replicate 7 0))) ≡ true)
    -- a length near 2^64 is no small one
    × (is_elf (two_headers (header_of 1 4 (8 ∷ 0 ∷ 1 ∷ []) 2 (replicate 8 0xff))) ≡ false)
    -- the table ends behind the file
    × (is_elf (take 175 (two_headers (header_of 0 0 (0 ∷ 0 ∷ 0 ∷ []) 0 (replicate 8 0)))) ≡ false)
unfolding two_headers file_header header_of
elf-two-headers = (refl, refl, refl, refl, refl, refl, refl, refl)
