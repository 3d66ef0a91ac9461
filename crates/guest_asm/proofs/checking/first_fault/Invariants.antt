use Rattle.std.proofs.Common.{◌≡◌, List, flat_map}
use Rattle.guest_asm.specs.Assembled.{Placed, first_fault, places}
use Rattle.guest_asm.specs.Checked.{told}
use Rattle.guest_asm.specs.Kept.{Stands}
use Rattle.guest_asm.proofs.FaultLists.{Through, faults_at}
use Rattle.guest_asm.proofs.checking.first_fault.Given as goal

-- the first fault of the statements so far
abbrev pub invariant-loop-placed : goal.invariant-loop-placed
invariant-loop-placed l =
    (all : List Placed) → Stands l.layout all → (t : Through l.layout.placed.items l.placed-index all) × (told l.found ≡ first_fault (flat_map (faults_at (places all)) t.before))
