use Rattle.std.proofs.Common.{◌≡◌, ◌-◌, false, filter, get_or}
use Rattle.std.specs.List.{range_with_len}
use Rattle.past_lives.proofs.living.set_in.Given as goal

abbrev pub invariant-loop-pid : goal.invariant-loop-pid
invariant-loop-pid l = l.live ≡ filter (λ pid. get_or l.flags pid false) (range_with_len 1 (l.pid - 1))
