use Rattle.std.proofs.Common.{◌≤◌, List}
use Rattle.std.specs.List.{AllZip}
use Rattle.guest_asm.specs.Assembled.{Item, labels}
use Rattle.guest_asm.specs.Kept.{KeepsItem, Knows}
use Rattle.guest_asm.specs.Meanings.{most_bytes}
use Rattle.guest_asm.proofs.Placing.{PlacedSoFar}
use Rattle.guest_asm.proofs.places.place.Given as goal

-- the statements so far are placed, within the window
abbrev pub invariant-loop-item : goal.invariant-loop-item
invariant-loop-item l = record {
  room : l.layout.offset ≤ most_bytes;
  placed : (is : List Item) → AllZip KeepsItem l.items is → Knows l.known (labels is) → PlacedSoFar l.layout l.item-index is;
}
