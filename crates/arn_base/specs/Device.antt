-- What a device answers, as it is recorded.
use Rattle.std.specs.Prelude.{ℕ, ◌-◌, ◌^◌, List, [], take, min}
use Rattle.arn_base.specs.declared.boxes.Reply.{Reply}
use Rattle.arn_base.specs.declared.boxes.Reply.TheVariants.{Gave, Fault}
use Rattle.arn_base.specs.declared.boxes.Took.{Took}
use Rattle.arn_base.specs.declared.boxes.Took.TheVariants as took

-- a reply as it is recorded: a fault, or these bytes
pub data DeviceReply : Type 0 where
  Faults : DeviceReply
  Gives : List ℕ → DeviceReply

-- what the reply records: a count above the buffer's length is cut to it
abbrev pub recorded : Reply → List ℕ → DeviceReply
recorded (Gave n) buf = Gives (take n buf)
recorded Fault buf = Faults

-- how many of so many bytes one answer can count
abbrev pub countable : ℕ → ℕ
countable len = min len (2 ^ 32 - 1)

-- a told reply, cut to a buffer of this length
abbrev pub cut_to : ℕ → DeviceReply → DeviceReply
cut_to len (Gives bytes) = Gives (take (countable len) bytes)
cut_to len Faults = Faults

-- the bytes that a call took
abbrev pub taken : Took → List ℕ → List ℕ
taken (took.Count n) bytes = take n bytes
taken took.Fault bytes = []

-- how many bytes are still taken: all of them, or so many
pub data Room : Type 0 where
  Endless : Room
  Upto : ℕ → Room

-- how many of so many bytes are taken
abbrev pub takes : Room → ℕ → ℕ
takes Endless len = countable len
takes (Upto n) len = min n (countable len)

-- the room that is left after so many bytes
abbrev pub left_after : Room → ℕ → Room
left_after Endless len = Endless
left_after (Upto n) len = Upto (n - len)
