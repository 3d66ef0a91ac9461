-- What devices answer, and the reply that a record names.
use Rattle.std.specs.Prelude.{ℕ, ◌^◌, ◌==◌, nat_lt, ◌&&◌, Bool, true, false, if◌then◌else◌, List, take, length, min, Option, Some, None}
use Rattle.arn_base.specs.declared.records.Record.{Record}
use Rattle.arn_base.specs.declared.records.Record.TheVariants as entry
use Rattle.arn_base.specs.declared.records.Extra.{Extra}
use Rattle.arn_base.specs.declared.records.Extra.TheVariants as extra
use Rattle.parts_model.specs.declared.calls.TheConstants.{DEVICE}

-- what a device answered to a call: it gave these bytes, it took so many, it failed, it isn't there, or it is
pub data Answered : Type 0 where
  GaveBytes : List ℕ → Answered
  TookBytes : ℕ → Answered
  Failed : Answered
  IsAbsent : Answered
  IsHere : Answered

-- a call succeeded where its result is no error
abbrev pub is_success : ℕ → Bool
is_success result = nat_lt result (2 ^ 63)

-- the reply that a call's record names, if its call asked a device. A `device` call that succeeds found one, and has no more to tell
abbrev pub reply_in : ℕ → ℕ → Extra → Option Answered
reply_in number result (extra.Reply device bytes) = Some (GaveBytes bytes)
reply_in number result (extra.Sent device bytes) = Some (TookBytes (length bytes))
reply_in number result extra.Fault = Some Failed
reply_in number result extra.Absent = Some IsAbsent
reply_in number result extra.Nothing = if (number == DEVICE) && is_success result then Some IsHere else None
reply_in number result (extra.Give give) = None
reply_in number result (extra.Start start) = None
reply_in number result (extra.Put file at bytes) = None
reply_in number result (extra.Console bytes) = None
reply_in number result (extra.Name file path) = None

abbrev pub reply_named : Record → Option Answered
reply_named (entry.Call pid number result more) = reply_in number result more
reply_named entry = None

-- an answer to a read of at most so many bytes, cut to these; one of another kind counts as that of a device that isn't there
pub data ReadReply : Type 0 where
  Reads : List ℕ → ReadReply
  ReadFails : ReadReply
  ReadAbsent : ReadReply

abbrev pub to_read : ℕ → Option Answered → ReadReply
to_read most (Some (GaveBytes bytes)) = Reads (take most bytes)
to_read most (Some Failed) = ReadFails
to_read most other = ReadAbsent

-- an answer to a write of so many bytes
pub data WriteReply : Type 0 where
  Takes : ℕ → WriteReply
  WriteFails : WriteReply
  WriteAbsent : WriteReply

abbrev pub to_write : ℕ → Option Answered → WriteReply
to_write len (Some (TookBytes n)) = Takes (min n len)
to_write len (Some Failed) = WriteFails
to_write len other = WriteAbsent

-- an answer to whether there is a device
abbrev pub is_here : Option Answered → Bool
is_here (Some IsHere) = true
is_here other = false
