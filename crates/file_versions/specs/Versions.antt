-- Files by name at a moment of a history: a fold over the events that have happened by then.
use Rattle.std.specs.Prelude.{ℕ, zero, suc, ◌+◌, ◌-◌, ◌==◌, nat_le, max, Bool, if◌then◌else◌, List, [], ◌∷◌, length, map, filter, Option, Some, None, option_map, slice_get}
use Rattle.std.specs.List.{cons_option}
use Rattle.arn_base.specs.declared.records.Record.{Record}
use Rattle.arn_base.specs.declared.records.Record.TheVariants as entry
use Rattle.parts_model.specs.declared.tagged.TaggedByte.{TaggedByte}
use Rattle.acts_model.specs.Records.{Written, put_told}
use Rattle.history_model.specs.Moments.{Numbered, events_until}
use Rattle.history_model.specs.Names.{is_file, file_named}

-- The number of the file that a name stands for at a moment. Files are numbered from 0 in order of making: those that were brought, in
-- their order, and then those that calls made, which their records number.
abbrev pub file_at : List Record → ℕ → List ℕ → Option ℕ
file_at entries moment name = file_named (map (λ e. e.entry) (events_until moment entries)) name

-- bytes of an event that are laid over those of a file
pub record Write : Type 0 where
  pub event : ℕ
  pub over : Written

-- how many files a record brings
abbrev pub brought_by : Record → ℕ
brought_by e = if is_file e then 1 else 0

-- what a record lays over the bytes of a file, where so many files were brought before: a file that it brings it lays over none
abbrev pub written_by : ℕ → Record → Option Written
written_by n (entry.File path bytes) = Some (record { file = n; at = 0; bytes = bytes })
written_by n other = put_told other

-- the writes of events, in order
abbrev pub writes_from : ℕ → List Numbered → List Write
writes_from n [] = []
writes_from n (e ∷ events) =
    cons_option (option_map (λ w. record { event = e.number; over = w }) (written_by n e.entry)) (writes_from (n + brought_by e.entry) events)

-- those to one file
abbrev pub is_to : ℕ → Write → Bool
is_to file w = w.over.file == file

abbrev pub writes_at : List Record → ℕ → ℕ → List Write
writes_at entries moment file = filter (is_to file) (writes_from 0 (events_until moment entries))

-- byte k of a write, with its origin
abbrev pub byte_of : Write → ℕ → Option TaggedByte
byte_of w k = option_map (λ b. record { value = b; origin = record { event = w.event; at = k } }) (slice_get w.over.bytes k)

-- what a place of a file holds after a write: the byte that is laid there, or what it held before
abbrev pub or_before : Option TaggedByte → Option TaggedByte → Option TaggedByte
or_before None before = before
or_before (Some byte) before = Some byte

abbrev pub laid_at : Write → ℕ → Option TaggedByte → Option TaggedByte
laid_at w place before = if nat_le w.over.at place then or_before (byte_of w (place - w.over.at)) before else before

-- and after some writes
abbrev pub cell_after : List Write → ℕ → Option TaggedByte → Option TaggedByte
cell_after [] place before = before
cell_after (w ∷ writes) place before = cell_after writes place (laid_at w place before)

-- the first place behind all that was written
abbrev pub reach : List Write → ℕ
reach [] = 0
reach (w ∷ writes) = max (w.over.at + length w.over.bytes) (reach writes)

-- what is in so many cells from a place on, up to the first that holds nothing
abbrev pub onto_filled : Option TaggedByte → List TaggedByte → List TaggedByte
onto_filled None held = []
onto_filled (Some byte) held = byte ∷ held

abbrev pub filled_from : (ℕ → Option TaggedByte) → ℕ → ℕ → List TaggedByte
filled_from cells place zero = []
filled_from cells place (suc left) = onto_filled (cells place) (filled_from cells (place + 1) left)

-- the bytes of a file after writes, with their origins, up to the first place that none of them wrote
abbrev pub bytes_after : List Write → List TaggedByte
bytes_after writes = filled_from (λ place. cell_after writes place None) 0 (reach writes)

abbrev pub bytes_at : List Record → ℕ → ℕ → List TaggedByte
bytes_at entries moment file = bytes_after (writes_at entries moment file)

-- the bytes of the file with this name at a moment, none where no file has it then
abbrev pub version_at : List Record → ℕ → List ℕ → Option (List TaggedByte)
version_at entries moment name = option_map (bytes_at entries moment) (file_at entries moment name)
