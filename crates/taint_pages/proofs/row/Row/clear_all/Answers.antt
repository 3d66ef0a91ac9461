use Rattle.std.proofs.Common.{◌+◌, ◌*◌}
use Rattle.taint_pages.specs.Rows.{row_len}
use Rattle.taint_pages.proofs.Flat.{zero-at}
use Rattle.taint_pages.proofs.Zeros.{marks-zeros, row-zeros}
use Rattle.taint_pages.proofs.row.Row.clear_all.Goals as goal

pub returns : goal.returns
returns c = λ r i. zero-at row_len (8 * r + i)

pub invariant_of-self : goal.invariant_of-self
invariant_of-self c = (row-zeros, marks-zeros)
