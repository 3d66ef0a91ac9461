-- What a session does, in order: it commits records, and it prints text.
use Rattle.std.specs.Prelude.{ℕ, List, [], ◌∷◌, flat_map}
use Rattle.arn_base.specs.declared.records.Record.{Record}

pub data Effect : Type 0 where
  -- these records are added to the log, all of them or none
  Commits : List Record → Effect
  -- these bytes are put into the sink
  Prints : List ℕ → Effect

-- the records that an effect adds to the history
abbrev pub records_of : Effect → List Record
records_of (Commits entries) = entries
records_of (Prints text) = []

-- the bytes that an effect prints
abbrev pub text_of : Effect → List ℕ
text_of (Commits entries) = []
text_of (Prints text) = text

-- the frames that an effect adds to the log, by their records: one for a commit, also of no records
abbrev pub frames_of : Effect → List (List Record)
frames_of (Commits entries) = entries ∷ []
frames_of (Prints text) = []

-- all frames that effects add, in order
abbrev pub frames_in : List Effect → List (List Record)
frames_in effects = flat_map frames_of effects

-- all records that effects add, in order
abbrev pub committed : List Effect → List Record
committed effects = flat_map records_of effects

-- all bytes that effects print, in order
abbrev pub printed : List Effect → List ℕ
printed effects = flat_map text_of effects
