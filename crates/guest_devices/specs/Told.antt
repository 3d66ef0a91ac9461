-- What a recorded call says that its device answered.
use Rattle.std.specs.Prelude.{◌≡◌, ℕ, ◌<◌, ◌^◌, List, length, Option, Some, option_and_then}
use Rattle.std.specs.Borrow.{Bor}
use Rattle.arn_base.specs.Device.{countable}
use Rattle.arn_base.specs.declared.records.Record.{Record}
use Rattle.parts_model.specs.Replies.{Answered, GaveBytes, TookBytes, Failed, IsAbsent, ReadReply, Reads, ReadFails, ReadAbsent, WriteReply, Takes, WriteFails, WriteAbsent, is_here, reply_named, to_read, to_write}
use Rattle.guest_devices.specs.Answers.{Asked, here_answer}
use Rattle.guest_devices.specs.Answers as asked

-- the reply that the record names, if there is a record
abbrev pub reply_of : Option (Bor Record) → Option Answered
reply_of entry = option_and_then (λ record_. reply_named record_.now) entry

-- a reply to a read as an answer
abbrev pub as_read : ReadReply → Answered
as_read (Reads bytes) = GaveBytes bytes
as_read ReadFails = Failed
as_read ReadAbsent = IsAbsent

-- a reply to a write as an answer
abbrev pub as_written : WriteReply → Answered
as_written (Takes n) = TookBytes n
as_written WriteFails = Failed
as_written WriteAbsent = IsAbsent

-- what a question is answered by a reply: no more than was asked for, and absent where it is one of another kind
abbrev pub told_answer : Option Answered → Asked → Answered
told_answer reply (asked.Here n) = here_answer (is_here reply)
told_answer reply (asked.Reads n len) = as_read (to_read (countable len) reply)
told_answer reply (asked.Writes n bytes) = as_written (to_write (countable (length bytes)) reply)

-- a reply counts as what is answered by it
abbrev pub CountsHere : Type 0
CountsHere = (reply : Option Answered) (n : ℕ) → is_here (Some (told_answer reply (asked.Here n))) ≡ is_here reply

abbrev pub CountsReads : Type 0
CountsReads = (reply : Option Answered) (n len : ℕ) → len < 2 ^ 32 → to_read len (Some (told_answer reply (asked.Reads n len))) ≡ to_read len reply

abbrev pub CountsWrites : Type 0
CountsWrites = (reply : Option Answered) (n : ℕ) (bytes : List ℕ) → length bytes < 2 ^ 32 → to_write (length bytes) (Some (told_answer reply (asked.Writes n bytes))) ≡ to_write (length bytes) reply
