-- The status byte with which a process ends.
use Rattle.std.specs.Prelude.{ℕ}
use Rattle.parts_model.specs.declared.tagged.TaggedByte.{TaggedByte}

-- it is byte 0 of the event that ends the process
abbrev pub status_byte : ℕ → ℕ → TaggedByte
status_byte status event = record { value = status; origin = record { event = event; at = 0 } }
