-- Who lives at a moment of a history, and which bytes can be asked for there, as the records alone tell.
use Rattle.std.specs.Prelude.{ℕ, ◌+◌, nat_le, ◌&&◌, ◌||◌, Bool, List, filter, is_some}
use Rattle.arn_base.specs.declared.records.Record.{Record}
use Rattle.parts_model.specs.declared.limits.TheConstants.{MOST_ASKED, WINDOW_START, WINDOW_END, SEGMENT_START, SEGMENT_END}
use Rattle.history_index.specs.Lookups.{processes_in}
use Rattle.history_model.specs.Moments.{lives_at, segment_at, total}

-- the moment is in the history
abbrev pub is_moment : List Record → ℕ → Bool
is_moment entries moment = nat_le moment (total entries)

-- so is the process, which lives at it
abbrev pub is_member : List Record → ℕ → ℕ → Bool
is_member entries moment pid = is_moment entries moment && lives_at entries moment pid

-- so many bytes at an address lie between two others; no bytes may lie at either
abbrev pub lies_between : ℕ → ℕ → ℕ → ℕ → Bool
lies_between start end at len = nat_le start at && nat_le (at + len) end

-- they lie whole in the private window, or in the shared one, which is present while a segment is held
abbrev pub is_present : Bool → ℕ → ℕ → Bool
is_present holds at len = lies_between WINDOW_START WINDOW_END at len || (holds && lies_between SEGMENT_START SEGMENT_END at len)

-- bytes of a process that lives, which aren't too many to be asked for
abbrev pub is_memory_range : List Record → ℕ → ℕ → ℕ → ℕ → Bool
is_memory_range entries moment pid at len =
    is_member entries moment pid && (nat_le len MOST_ASKED && is_present (is_some (segment_at entries moment pid)) at len)

-- the processes that live at a moment, in order of number
abbrev pub live_at : List Record → ℕ → List ℕ
live_at entries moment = filter (lives_at entries moment) (processes_in entries)
