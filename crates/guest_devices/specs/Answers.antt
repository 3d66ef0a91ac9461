-- Questions to devices, and what is answered.
use Rattle.std.specs.Prelude.{ℕ, ◌≤◌, Bool, if◌then◌else◌, List, take}
use Rattle.parts_model.specs.Replies.{Answered, GaveBytes, TookBytes, Failed, IsAbsent, IsHere}
use Rattle.guest_devices.specs.declared.answers.Answer.{Answer}
use Rattle.guest_devices.specs.declared.answers.Answer.TheVariants.{Gave, Fault, Absent}

-- what a device is asked, by its number: whether it is there, for so many bytes, or to take these
pub data Asked : Type 0 where
  Here : ℕ → Asked
  Reads : ℕ → ℕ → Asked
  Writes : ℕ → List ℕ → Asked

-- an answer to whether there is a device
abbrev pub here_answer : Bool → Answered
here_answer here = if here then IsHere else IsAbsent

-- an answer to a read, of which the buffer holds the bytes
abbrev pub read_answer : Answer → List ℕ → Answered
read_answer (Gave n) buf = GaveBytes (take n buf)
read_answer Fault buf = Failed
read_answer Absent buf = IsAbsent

-- an answer to a write
abbrev pub write_answer : Answer → Answered
write_answer (Gave n) = TookBytes n
write_answer Fault = Failed
write_answer Absent = IsAbsent

-- no more bytes are counted than there are
abbrev pub IsWithin : Answer → ℕ → Type 0
IsWithin (Gave n) len = n ≤ len
IsWithin Fault len = Unit {0}
IsWithin Absent len = Unit {0}
