-- What an error says of records, and what it leaves.
use Rattle.std.specs.Prelude.{◌≡◌, true, List, take, Some}
use Rattle.arn_base.specs.declared.records.Record.{Record}
use Rattle.history_model.specs.Broken.{first_broken}
use Rattle.history_index.specs.declared.errors.IndexError.{IndexError}
use Rattle.history_index.specs.declared.errors.IndexError.TheVariants as error
use Rattle.history_index.specs.Check.{refuses}
use Rattle.history_index.specs.Indexes.{Indexes}
use Rattle.history_index.specs.Tables.{Tables}

-- the record that can't stand where it does is the first such
abbrev pub TellsBroken : List Record → IndexError → Type 0
TellsBroken entries (error.Broken place) = first_broken entries ≡ Some place
TellsBroken entries error.NoMemory = Unit {0}

-- the index is that of the records before the broken one, or of as many as there was memory for
abbrev pub Leaves : List Record → Tables → IndexError → Type 0
Leaves entries index (error.Broken place) = Indexes index (take place entries)
Leaves entries index error.NoMemory = Indexes index (take index.records entries)

-- the next record was refused
abbrev pub Refuses : Tables → Record → IndexError → Type 0
Refuses t e (error.Broken place) = (refuses t e ≡ true) × (place ≡ t.records)
Refuses t e error.NoMemory = Unit {0}
