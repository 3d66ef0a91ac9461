-- Bytes of events as a pipe keeps them: in runs, each of an event's bytes from its first on.
use Rattle.std.specs.Prelude.{◌≡◌, ◌<◌, ◌≤◌, ◌+◌, ℕ, zero, suc, List, [], ◌∷◌, ◌++◌}
use Rattle.arn_base.specs.declared.records.Src.{Src}
use Rattle.parts_model.specs.declared.limits.TheConstants.{MOST_PIPE_BYTES}
use Rattle.parts_model.specs.declared.tagged.TaggedByte.{TaggedByte}
use Rattle.guest_pipes.specs.declared.runs.Run.{Run}

-- so many places of an event, from one on
abbrev pub places_from : ℕ → ℕ → ℕ → List Src
places_from event at zero = []
places_from event at (suc n) = record { event = event; at = at } ∷ places_from event (at + 1) n

-- the places of runs
abbrev pub places_of : List Run → List Src
places_of [] = []
places_of (r ∷ rs) = places_from r.event 0 r.len ++ places_of rs

-- bytes, each with its place
abbrev pub tagged : List ℕ → List Src → List TaggedByte
tagged [] places = []
tagged (b ∷ bytes) [] = []
tagged (b ∷ bytes) (p ∷ places) = record { value = b; origin = p } ∷ tagged bytes places

-- so many bytes of the first run are gone, but not all; no other is without bytes, and none is longer than a pipe may hold
abbrev pub AreRuns : ℕ → List Run → Type 0
AreRuns gone [] = gone ≡ 0
AreRuns gone (r ∷ rs) = (gone < r.len) × (r.len ≤ MOST_PIPE_BYTES) × AreRuns 0 rs
