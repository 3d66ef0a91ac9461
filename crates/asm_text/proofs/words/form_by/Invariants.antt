use Rattle.std.proofs.Common.{◌≡◌, length, map}
use Rattle.asm_text.specs.Tables.{form_by, worded}
use Rattle.asm_text.proofs.words.form_by.Given as goal

abbrev pub invariant-loop-table : goal.invariant-loop-table
invariant-loop-table l = form_by (map worded l.initial.table) l.text ≡ form_by (map worded l.table) l.text

abbrev pub decreases-loop-table : goal.decreases-loop-table
decreases-loop-table l = length l.table
