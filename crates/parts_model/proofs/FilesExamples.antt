-- Files at literal values.
use Rattle.std.proofs.Common.{◌≡◌, ℕ, [], ◌∷◌, Option, Some, None, replicate, true, false, refl}
use Rattle.parts_model.specs.declared.tagged.TaggedByte.{TaggedByte}
use Rattle.parts_model.specs.Files.{File, Files, no_files, is_name, find_file, is_full, next_file, made, unnamed, held, released, written, fitting, read_from}
use Rattle.parts_model.specs.Tagged.{held_bytes}

-- a byte of an event
byte : ℕ → ℕ → ℕ → TaggedByte
byte value event at = record { value = value; origin = record { event = event; at = at } }

-- file 0, named `a`, has the three bytes of event 0
one_file : Files
one_file = made no_files (97 ∷ []) (held_bytes 0 (1 ∷ 2 ∷ 3 ∷ []))

files-made :
    (one_file ≡ record { all = Some (record { bytes = byte 1 0 0 ∷ byte 2 0 1 ∷ byte 3 0 2 ∷ []; holders = 0 }) ∷ []; names = record { path = 97 ∷ []; file = 0 } ∷ [] })
    × (find_file one_file (97 ∷ []) ≡ Some 0)
    × (find_file one_file (97 ∷ 97 ∷ []) ≡ None)
    -- a file without a name stays while it is held, and is gone when it is released
    × (unnamed (held one_file 0) (97 ∷ []) 0 ≡ record { all = Some (record { bytes = byte 1 0 0 ∷ byte 2 0 1 ∷ byte 3 0 2 ∷ []; holders = 1 }) ∷ []; names = [] })
    × (released (unnamed (held one_file 0) (97 ∷ []) 0) 0 ≡ record { all = None ∷ []; names = [] })
    × (unnamed one_file (97 ∷ []) 0 ≡ record { all = None ∷ []; names = [] })
unfolding one_file byte
files-made = (refl, refl, refl, refl, refl, refl)

-- two hold it: one release isn't enough
files-held :
    ((released (unnamed (held (held one_file 0) 0) (97 ∷ []) 0) 0).all ≡ Some (record { bytes = byte 1 0 0 ∷ byte 2 0 1 ∷ byte 3 0 2 ∷ []; holders = 1 }) ∷ [])
    -- a file with a name stays without a holder
    × (released (held one_file 0) 0 ≡ one_file)
    -- a number isn't given again
    × (next_file (unnamed one_file (97 ∷ []) 0) ≡ 1)
    -- a write over the end: what stands before it keeps its origins, and the rest are the bytes of the writing event
    × ((written one_file 0 2 (7 ∷ 8 ∷ []) 5).all ≡ Some (record { bytes = byte 1 0 0 ∷ byte 2 0 1 ∷ byte 7 5 0 ∷ byte 8 5 1 ∷ []; holders = 0 }) ∷ [])
    × ((written one_file 0 0 (7 ∷ []) 5).all ≡ Some (record { bytes = byte 7 5 0 ∷ byte 2 0 1 ∷ byte 3 0 2 ∷ []; holders = 0 }) ∷ [])
unfolding one_file byte
files-held = (refl, refl, refl, refl, refl)

-- a file takes what fits below 1,048,576 bytes
file-ends :
    (fitting 1048572 4 ≡ 4)
    × (fitting 1048575 4 ≡ 1)
    × (fitting 1048576 4 ≡ 0)
    -- a read stops at the end
    × (read_from (held_bytes 0 (1 ∷ 2 ∷ 3 ∷ [])) 1 9 ≡ byte 2 0 1 ∷ byte 3 0 2 ∷ [])
    × (read_from (held_bytes 0 (1 ∷ 2 ∷ 3 ∷ [])) 3 9 ≡ [])
unfolding byte
file-ends = (refl, refl, refl, refl, refl)

-- names have 1 to 64 bytes
name :
    (is_name [] ≡ false)
    × (is_name (replicate 64 0) ≡ true)
    × (is_name (replicate 65 0) ≡ false)
name = (refl, refl, refl)

-- 1,024 files are as many as there may be; one that is gone doesn't count
empty_file : Option File
empty_file = Some (record { bytes = []; holders = 1 })

full :
    (is_full (record { all = replicate 1024 empty_file; names = [] }) ≡ true)
    × (is_full (record { all = None ∷ replicate 1023 empty_file; names = [] }) ≡ false)
unfolding empty_file
full = (refl, refl)
