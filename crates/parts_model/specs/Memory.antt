-- The windows through which a process sees its memory.
use Rattle.std.specs.Prelude.{ℕ, List, [], ◌∷◌, replicate, Option, Some, None}
use Rattle.arn_base.specs.Window.{Window}
use Rattle.parts_model.specs.declared.limits.TheConstants.{WINDOW_START, SEGMENT_START}

-- a list of so many zeros
unfoldable pub zeros : ℕ → List ℕ
zeros len = replicate len 0

-- a memory with one window, which begins at an address
abbrev pub one_window : ℕ → List ℕ → List Window
one_window from bytes = record { from = from; bytes = bytes } ∷ []

-- the private window alone
abbrev pub private_window : List ℕ → List Window
private_window bytes = one_window WINDOW_START bytes

-- the shared window alone
abbrev pub segment_window : List ℕ → List Window
segment_window bytes = one_window SEGMENT_START bytes

-- the shared window, where a segment is held
abbrev pub shared_window : Option (List ℕ) → List Window
shared_window None = []
shared_window (Some bytes) = segment_window bytes

-- what a process can reach: its private window, and the shared one where it holds a segment
abbrev pub windows : List ℕ → Option (List ℕ) → List Window
windows space segment = record { from = WINDOW_START; bytes = space } ∷ shared_window segment
