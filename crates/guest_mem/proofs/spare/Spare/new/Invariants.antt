use Rattle.std.proofs.Common.{◌≡◌, length}
use Rattle.guest_mem.proofs.spare.Spare.new.Given as goal

abbrev pub invariant-loop : goal.invariant-loop
invariant-loop l = length l.pages.items ≡ l.counter
