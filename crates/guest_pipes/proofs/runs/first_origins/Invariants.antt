use Rattle.std.proofs.Common.{◌≡◌, ◌+◌, ◌≤◌, ◌++◌, drop, length}
use Rattle.guest_pipes.specs.Runs.{AreRuns}
use Rattle.guest_pipes.proofs.Cuts.{cut}
use Rattle.guest_pipes.proofs.runs.first_origins.Given as goal

abbrev pub invariant-loop-place : goal.invariant-loop-place
invariant-loop-place l =
    (l.origins ++ cut l.at l.left (drop l.place l.runs.items) ≡ cut l.fn.gone l.fn.count l.runs.items)
    × AreRuns l.at (drop l.place l.runs.items) × (length l.origins + l.left ≤ l.fn.count)
