-- The event byte of each place of a file, kept in runs: each from its start until the next one begins.
use Rattle.std.specs.Prelude.{◌≡◌, ◌<◌, ◌≤◌, ◌+◌, ◌-◌, ◌==◌, ◌&&◌, nat_le, nat_lt, false, Bool, if◌then◌else◌, ℕ, zero, suc, min, List, [], ◌∷◌, ◌++◌, length, take, drop, option_to_list, Option, None, Some}
use Rattle.arn_base.specs.declared.records.Src.{Src}
use Rattle.arn_base.specs.declared.records.Origin.{Origin}
use Rattle.parts_model.specs.declared.limits.TheConstants.{MOST_FILE_BYTES}
use Rattle.parts_model.specs.declared.tagged.TaggedByte.{TaggedByte}
use Rattle.guest_files.specs.declared.runs.Run.{Run}

-- so many event bytes, by place, from a place on
abbrev pub sources_from : (ℕ → Src) → ℕ → ℕ → List Src
sources_from source place zero = []
sources_from source place (suc n) = source place ∷ sources_from source (place + 1) n

-- the first bytes of an event, so many
abbrev pub first_bytes : ℕ → ℕ → List Src
first_bytes event n = sources_from (λ at. record { event = event; at = at }) 0 n

-- bytes, each with its event byte
abbrev pub tagged : List ℕ → List Src → List TaggedByte
tagged [] sources = []
tagged (b ∷ bytes) [] = []
tagged (b ∷ bytes) (s ∷ sources) = record { value = b; origin = s } ∷ tagged bytes sources

-- a file's bytes are as many as their event bytes, and no more than a file may have
pub record IsRow (bytes : List ℕ) (sources : List Src) : Type 0 where
  pub few : length bytes ≤ MOST_FILE_BYTES
  pub each : length sources ≡ length bytes

-- the run, of one and those behind it, that a place is in: the last that begins up to there
abbrev pub run_at : Run → List Run → ℕ → Run
run_at r [] place = r
run_at r (next ∷ rs) place = if nat_le next.start place then run_at next rs place else r

-- what a run has in a place
abbrev pub source_in : Run → ℕ → Src
source_in r place = record { event = r.event; at = place - r.base }

abbrev pub source_at : List Run → ℕ → Src
source_at [] place = record { event = 0; at = place }
source_at (r ∷ rs) place = source_in (run_at r rs place) place

-- both are of what one event wrote at once
abbrev pub is_of_write : Run → Run → Bool
is_of_write r other = (r.event == other.event) && (r.base == other.base)

-- the next run, if there is one, is of another write
abbrev pub EndsWrite : Run → List Run → Type 0
EndsWrite r [] = Unit {0}
EndsWrite r (next ∷ rs) = is_of_write r next ≡ false

-- where the next run begins, or the end
abbrev pub next_start : List Run → ℕ → ℕ
next_start [] end = end
next_start (r ∷ rs) end = r.start

-- runs from a place to an end: none is empty, and no two neighbours are of one write
abbrev pub AreRuns : ℕ → List Run → ℕ → Type 0
AreRuns from [] end = from ≡ end
AreRuns from (r ∷ rs) end =
    (r.start ≡ from) × (r.base ≤ from) × (from < next_start rs end) × EndsWrite r rs × AreRuns (next_start rs end) rs end

-- how many runs begin before a place, and up to it
abbrev pub count_before : ℕ → List Run → ℕ
count_before place [] = 0
count_before place (r ∷ rs) = if nat_lt r.start place then suc (count_before place rs) else 0

abbrev pub count_until : ℕ → List Run → ℕ
count_until place [] = 0
count_until place (r ∷ rs) = if nat_le r.start place then suc (count_until place rs) else 0

-- a run from a further place on
abbrev pub from_place : Run → ℕ → Run
from_place r place = record r { start = place }

-- what is left of a run from a place on, but of a new one's write: that goes on by itself
abbrev pub unless_of_write : Run → Run → ℕ → Option Run
unless_of_write r new place = if is_of_write new r then None else Some (from_place r place)

-- what is left behind a new run that ends in a place, of the run that the place is in
abbrev pub left_behind : List Run → Run → ℕ → ℕ → Option Run
left_behind [] new place end = None
left_behind (r ∷ rs) new place end = if nat_lt place end then unless_of_write (run_at r rs place) new place else None

-- runs after a new one that ends in a place is laid over them
abbrev pub with_run : List Run → Run → ℕ → ℕ → List Run
with_run runs new place end =
    take (count_before new.start runs) runs ++ new ∷ (option_to_list (left_behind runs new place end) ++ drop (count_until place runs) runs)

-- the bytes of runs from a place in the first of them up to another, as origins
abbrev pub origins_between : List Run → ℕ → ℕ → List Origin
origins_between [] place end = []
origins_between (r ∷ rs) place end =
    if nat_lt place end
    then record { event = r.event; at = place - r.base; len = min end (next_start rs end) - place } ∷ origins_between rs (min end (next_start rs end)) end
    else []

-- these are there: the first run has the place, and the others what is between
abbrev pub HaveBetween : List Run → ℕ → ℕ → Type 0
HaveBetween [] place end = end ≤ place
HaveBetween (r ∷ rs) place end = place < end → (r.base ≤ place) × (place < next_start rs end) × HaveBetween rs (min end (next_start rs end)) end
