use Rattle.std.proofs.Common.{◌≡◌, ◌++◌, List, drop}
use Rattle.std.specs.List.{AllZip}
use Rattle.guest_asm.specs.Assembled.{Item, labels}
use Rattle.guest_asm.specs.Kept.{names_of, HasPlaces, KeepsItem}
use Rattle.asm_text.specs.Names.{Named}
use Rattle.guest_asm.proofs.labels.known_labels.Given as goal

-- the labels so far and those of the statements that are left are all
abbrev pub invariant-loop-item : goal.invariant-loop-item
invariant-loop-item l =
    (is : List Item) → AllZip KeepsItem l.items is → (named : List Named) × HasPlaces l.known named × (names_of named ++ labels (drop l.item-index is) ≡ labels is)
