-- The run of a group: its slices, and how many instructions they count.
use Rattle.std.specs.Prelude.{ℕ, ◌+◌, List, [], ◌∷◌, ◌++◌}
use Rattle.history_index.specs.declared.slices.SliceAt.{SliceAt}

pub record Run : Type 0 where
  pub count : ℕ
  pub slices : List SliceAt

-- none has run
abbrev pub no_run : Run
no_run = record { count = 0; slices = [] }

-- with one more slice
abbrev pub with_slice : Run → SliceAt → Run
with_slice run slice = record { count = run.count + slice.ran; slices = run.slices ++ slice ∷ [] }
