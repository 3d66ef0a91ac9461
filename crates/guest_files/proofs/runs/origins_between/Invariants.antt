use Rattle.std.proofs.Common.{◌≡◌, ◌+◌, ◌-◌, ◌≤◌, ◌++◌, drop, length}
use Rattle.guest_files.specs.Runs.{HaveBetween, origins_between}
use Rattle.guest_files.proofs.runs.origins_between.Given as goal

abbrev pub invariant-loop-number : goal.invariant-loop-number
invariant-loop-number l =
    (l.origins ++ origins_between (drop l.number l.runs.items) l.at l.fn.end ≡ origins_between (drop l.fn.first l.runs.items) l.fn.place l.fn.end)
    × HaveBetween (drop l.number l.runs.items) l.at l.fn.end
    × (length l.origins + (l.fn.end - l.at) ≤ l.fn.end - l.fn.place)
