-- What a disk in memory held before each change.
use Rattle.std.specs.Prelude.{ℕ, List, [], ◌∷◌, take}
use Rattle.arn_base.specs.Disk.{overwrite}
use Rattle.log_disk.specs.declared.past.Past.{Past}
use Rattle.log_disk.specs.Crash.{Held}

-- the bytes before a change, from those after it
abbrev pub image_before : List ℕ → Past → List ℕ
image_before image past = take past.len (overwrite image past.at past.bytes.items)

-- what was held before a change, from the bytes after it
abbrev pub held_before : List ℕ → Past → Held
held_before image past = record {
  image = image_before image past;
  written = past.written.items;
  smallest = past.smallest;
  greatest = past.greatest;
}

-- what was held before each change, the last first, from the bytes after the last
abbrev pub states_before : List ℕ → List Past → List Held
states_before image [] = []
states_before image (past ∷ older) =
    held_before image past ∷ states_before (image_before image past) older
