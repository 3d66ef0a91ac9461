use Rattle.std.proofs.Common.{◌≡◌, ◌++◌, ◌-◌, replicate}
use Rattle.guest_asm.proofs.encoding.push_zeros.Given as goal

-- the zeros so far and those that are left are all
abbrev pub invariant-loop : goal.invariant-loop
invariant-loop l = l.bytes ++ replicate (l.count - l.counter) 0 ≡ l.fn.bytes ++ replicate l.count 0
