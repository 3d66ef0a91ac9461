use Rattle.std.proofs.Common.{◌≡◌, ◌-◌, ◌++◌, length, take}
use Rattle.arn_base.specs.Window.{bytes_of}
use Rattle.core_tests.proofs.instructions.flat.spell.Given as goal

-- what is written, and what the rest of the number will be, are all the bytes
abbrev pub invariant-loop-byte : goal.invariant-loop-byte
invariant-loop-byte l =
    take l.byte-index l.bytes ++ bytes_of (length l.bytes - l.byte-index) l.number ≡ bytes_of (length l.bytes) l.fn.number
