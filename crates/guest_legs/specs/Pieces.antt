-- The records of a slice.
use Rattle.std.specs.Prelude.{ℕ, zero, suc, List, [], ◌∷◌, length, flat_map}
use Rattle.arn_base.specs.declared.records.Record.{Record}
use Rattle.arn_base.specs.declared.records.Record.TheVariants as entry
use Rattle.result_log.specs.Spelling.{spelling}

-- how many bytes records are spelled by
abbrev pub spelled_len : List Record → ℕ
spelled_len entries = length (flat_map spelling entries)

-- how many instructions ran, and behind it the records of what happened; none where nothing did
abbrev pub slice_of : ℕ → ℕ → List Record → List Record
slice_of pid zero [] = []
slice_of pid zero (e ∷ entries) = entry.Slice pid 0 ∷ e ∷ entries
slice_of pid (suc n) entries = entry.Slice pid (suc n) ∷ entries
