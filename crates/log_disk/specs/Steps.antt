-- What the calls of a disk do to what it holds.
use Rattle.std.specs.Prelude.{ℕ, ◌+◌, ◌/◌, max, List, [], ◌∷◌, ◌++◌, length, take}
use Rattle.arn_base.specs.Disk.{overwrite}
use Rattle.log_disk.specs.declared.ranges.Range.{Range}
use Rattle.log_disk.specs.Crash.{Held, shortest, longest}

-- so many places from one on
abbrev pub span : ℕ → ℕ → Range
span at n = record { start = at; end = at + n }

-- the first half of the bytes, the smaller one
abbrev pub first_half : List ℕ → List ℕ
first_half bytes = take (length bytes / 2) bytes

-- after a write to a range, which put these bytes at its start: all of them, or fewer where it
-- failed
abbrev pub written_to : Range → List ℕ → Held → Held
written_to range bytes held = record {
  image = overwrite held.image range.start bytes;
  written = held.written ++ range ∷ [];
  smallest = shortest held;
  greatest = max (longest held) range.end;
}

-- after a cut to a length
abbrev pub cut_to : ℕ → Held → Held
cut_to len held = record {
  image = take len held.image;
  written = held.written;
  smallest = shortest held;
  greatest = longest held;
}
