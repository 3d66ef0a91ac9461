-- What a disk holds, and what a crash may leave of it.
use Rattle.std.specs.Prelude.{◌≡◌, ℕ, ◌≤◌, ◌<◌, min, max, List, [], length, All, slice_index, Bool, if◌then◌else◌, Option, Some, None}
use Rattle.log_disk.specs.declared.ranges.Range.{Range}

-- the bytes that reads give; the ranges written since the last sync that succeeded; and bounds of
-- the length since then, the present length left out where it is that of `image`: see `shortest`,
-- `longest`; a write that failed counts as done
pub record Held : Type 0 where
  pub image : List ℕ
  pub written : List Range
  pub smallest : ℕ
  pub greatest : ℕ

-- after a sync that succeeded
abbrev pub durable : List ℕ → Held
durable image =
    record { image = image; written = []; smallest = length image; greatest = length image }

-- the smallest length since then, this one too
abbrev pub shortest : Held → ℕ
shortest held = min held.smallest (length held.image)

-- the greatest length since then, this one too
abbrev pub longest : Held → ℕ
longest held = max held.greatest (length held.image)

-- the place lies in the range
abbrev pub Covers : Range → ℕ → Type 0
Covers range place = (range.start ≤ place) × (place < range.end)

-- the place lies below the smallest length, and no write covered it
pub record Stays (held : Held) (place : ℕ) : Type 0 where
  pub below : place < shortest held
  pub untouched : All (λ range. ¬ Covers range place) held.written

-- a crash may leave these bytes
pub record Crash (held : Held) (bytes : List ℕ) : Type 0 where
  pub no_shorter : shortest held ≤ length bytes
  pub no_longer : length bytes ≤ longest held
  pub stays : (place : ℕ) → Stays held place →
      slice_index bytes place ≡ slice_index held.image place

-- the byte that stands where a crash may leave any: the fill, or else the byte that is read, which
-- is 0 behind the end
abbrev pub filling : Option ℕ → List ℕ → ℕ → ℕ
filling (Some byte) image place = byte
filling None image place = slice_index image place

-- the one crash of the smallest or the greatest length that has the filling wherever it may
pub record CrashWith (held : Held) (fill : Option ℕ) (short : Bool) (bytes : List ℕ) : Type 0 where
  pub size : length bytes ≡ (if short then shortest held else longest held)
  pub stays : (place : ℕ) → Stays held place →
      slice_index bytes place ≡ slice_index held.image place
  pub filled : (place : ℕ) → place < length bytes → ¬ Stays held place →
      slice_index bytes place ≡ filling fill held.image place
