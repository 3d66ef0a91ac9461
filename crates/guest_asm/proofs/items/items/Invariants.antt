use Rattle.std.proofs.Common.{◌≡◌, ◌+◌, ◌++◌, List, length}
use Rattle.std.specs.List.{AllZip}
use Rattle.guest_asm.specs.Assembled.{Item, items, items_from}
use Rattle.asm_text.specs.Characters.{lines}
use Rattle.guest_asm.specs.Kept.{KeepsItem}
use Rattle.guest_asm.specs.Parted.{left}
use Rattle.guest_asm.proofs.items.items.Given as goal

-- the statements so far and those of the lines that are left are all
abbrev pub invariant-loop-line : goal.invariant-loop-line
invariant-loop-line l = record {
  rest : (so_far : List Item) × AllZip KeepsItem l.kept.items so_far × (so_far ++ items_from (l.number + 1) (left l.lines) ≡ items l.text);
  number : l.number + length (left l.lines) ≡ length (lines l.text);
}

abbrev pub decreases-loop-line : goal.decreases-loop-line
decreases-loop-line l = length (left l.lines)
