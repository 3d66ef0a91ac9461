-- Cells that are held as a list, and whether there are enough of them.
use Rattle.std.specs.Prelude.{◌≡◌, ◌⊎◌, ◌<◌, ◌≤◌, ◌^◌, ℕ, ◌+◌, List, [], ◌∷◌, length, Option, None}
use Rattle.parts_model.specs.declared.tagged.TaggedByte.{TaggedByte}
use Rattle.parts_model.specs.Numbered.{nth}
use Rattle.file_versions.specs.Versions.{Write, cell_after, reach, onto_filled}

-- bytes of an event, from a place of some file on
abbrev pub write_of : ℕ → ℕ → List ℕ → Write
write_of event at bytes = record { event = event; over = record { file = 0; at = at; bytes = bytes } }

-- 32 bits count the places up to its own
abbrev pub IsCounted : TaggedByte → Type 0
IsCounted byte = byte.origin.at + 1 < 2 ^ 32

-- what is in cells up to the first that is empty
abbrev pub filled : List (Option TaggedByte) → List TaggedByte
filled [] = []
filled (cell ∷ cells) = onto_filled cell (filled cells)

-- how many bytes are written
abbrev pub written_len : List Write → ℕ
written_len [] = 0
written_len (w ∷ writes) = length w.over.bytes + written_len writes

-- so many cells hold all bytes up to the first place that isn't written: they reach as far as the writes do, or are as many as the bytes
abbrev pub IsRoom : List Write → ℕ → Type 0
IsRoom writes n = (reach writes ≤ n) ⊎ (written_len writes ≤ n)

-- they are what writes leave
pub record AreCells (writes : List Write) (cells : List (Option TaggedByte)) : Type 0 where
  pub room : IsRoom writes (length cells)
  pub held : (place : ℕ) → place < length cells → nth cells place ≡ cell_after writes place None
