use Rattle.std.proofs.Common.{◌≡◌, length, map}
use Rattle.asm_text.specs.Names as name
use Rattle.asm_text.specs.Tables.{named}
use Rattle.asm_text.proofs.registers.number_by.Given as goal

abbrev pub invariant-loop-table : goal.invariant-loop-table
invariant-loop-table l = name.number_by (map named l.initial.table) l.text ≡ name.number_by (map named l.table) l.text

abbrev pub decreases-loop-table : goal.decreases-loop-table
decreases-loop-table l = length l.table
