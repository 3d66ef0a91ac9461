use Rattle.std.proofs.Common.{◌≡◌, ◌++◌, List, map, length}
use Rattle.std.specs.List.{AllZip}
use Rattle.asm_text.specs.Characters.{statements, trimmed}
use Rattle.guest_asm.specs.Assembled.{Item}
use Rattle.guest_asm.specs.Kept.{KeepsItem}
use Rattle.guest_asm.specs.Parted.{left}
use Rattle.asm_text.specs.Statements.{reading}
use Rattle.guest_asm.proofs.items.add_line.Given as goal

-- the statements so far and those of the parts that are left are all
abbrev pub invariant-loop-part : goal.invariant-loop-part
invariant-loop-part l =
    let as_items = map (λ text. record { line = l.number; reading = reading text }) in
    (done : List Item) → AllZip KeepsItem l.fn.kept.items done → (so_far : List Item) × AllZip KeepsItem l.kept.items so_far
    × (so_far ++ as_items (map trimmed (left l.parts)) ≡ done ++ as_items (statements l.line))

abbrev pub decreases-loop-part : goal.decreases-loop-part
decreases-loop-part l = length (left l.parts)
