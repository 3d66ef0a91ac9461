-- What holds of spellings as a whole.
use Rattle.std.specs.Prelude.{◌≡◌, ℕ, ◌+◌, ◌<◌, List, ◌++◌, length, take, drop}
use Rattle.arn_base.specs.declared.records.Record.{Record}
use Rattle.result_log.specs.Reading.{Reads}
use Rattle.result_log.specs.Spelling.{spelling, FitsFields, HasSpelling}

-- bytes begin with the spelling of one record alone, whatever follows it
abbrev pub SpelledOneWay : Type 0
SpelledOneWay = (a b : Record) (behind_a behind_b : List ℕ) → HasSpelling a → FitsFields a → HasSpelling b → FitsFields b
    → spelling a ++ behind_a ≡ spelling b ++ behind_b → (a ≡ b) × (behind_a ≡ behind_b)

-- at a place one record alone is read, and it ends at one place
abbrev pub ReadsOneWay : Type 0
ReadsOneWay = (bytes : List ℕ) (at : ℕ) (a b : Record) (next_a next_b : ℕ) → Reads bytes at a next_a → Reads bytes at b next_b
    → (a ≡ b) × (next_a ≡ next_b)

-- a record is read where its spelling stands, whatever is before and behind
abbrev pub ReadsAsSpelled : Type 0
ReadsAsSpelled = (before behind : List ℕ) (entry : Record) → HasSpelling entry → FitsFields entry
    → Reads (before ++ (spelling entry ++ behind)) (length before) entry (length before + length (spelling entry))

-- the bytes in which a record is read are those before it, its spelling and those behind it
abbrev pub SpelledWhereRead : Type 0
SpelledWhereRead = (bytes : List ℕ) (at : ℕ) (entry : Record) (next : ℕ) → Reads bytes at entry next
    → bytes ≡ take at bytes ++ (spelling entry ++ drop next bytes)

-- every spelling takes at least one byte
abbrev pub ReadsBytes : Type 0
ReadsBytes = (bytes : List ℕ) (at : ℕ) (entry : Record) (next : ℕ) → Reads bytes at entry next → at < next

-- a record that is read ends where its spelling ends
abbrev pub ReadsToItsEnd : Type 0
ReadsToItsEnd = (bytes : List ℕ) (at : ℕ) (entry : Record) (next : ℕ) → Reads bytes at entry next
    → next ≡ at + length (spelling entry)
