use Rattle.std.proofs.Common.{◌≡◌, ◌++◌, ◌-◌}
use Rattle.arn_base.specs.Window.{bytes_of}
use Rattle.guest_asm.proofs.encoding.push_number.Given as goal

-- the bytes so far and those of the rest are all
abbrev pub invariant-loop : goal.invariant-loop
invariant-loop l = l.bytes ++ bytes_of (l.len - l.counter) l.rest ≡ l.fn.bytes ++ bytes_of l.len l.number
