-- What an extent tells.
use Rattle.std.specs.Prelude.{◌≡◌, ℕ, ◌++◌, List, None}
use Rattle.arn_base.specs.declared.records.Record.{Record}
use Rattle.history_index.specs.Indexes.{Indexes}
use Rattle.history_index.specs.Tables.{Tables}
use Rattle.history_model.specs.Alone.{alone}
use Rattle.history_model.specs.Broken.{first_broken}
use Rattle.group_extents.specs.Extents.{extent_of}

-- a group is the same alone at two moments by which it has come equally far, also where more records have come in between
abbrev pub EqualExtentsMakeOne : Type 0
EqualExtentsMakeOne =
    (index : Tables) (before more : List Record) (g m n : ℕ) → Indexes index before → first_broken (before ++ more) ≡ None
    → extent_of before g m ≡ extent_of (before ++ more) g n → alone before g m ≡ alone (before ++ more) g n
