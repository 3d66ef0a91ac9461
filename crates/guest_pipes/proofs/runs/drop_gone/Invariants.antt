use Rattle.std.proofs.Common.{◌≡◌, ◌≤◌, drop, length, deque_len}
use Rattle.guest_pipes.specs.Runs.{AreRuns, places_of}
use Rattle.guest_pipes.proofs.runs.drop_gone.Given as goal

abbrev pub invariant-loop-runs : goal.invariant-loop-runs
invariant-loop-runs l =
    (drop l.gone (places_of l.runs.items) ≡ drop l.fn.gone (places_of l.fn.runs.items)) × AreRuns 0 l.runs.items
    × (l.gone ≤ length (places_of l.runs.items))

abbrev pub decreases-loop-runs : goal.decreases-loop-runs
decreases-loop-runs l = deque_len l.runs
