use Rattle.std.proofs.Common.{◌≡◌, ◌+◌, ◌*◌, sym, subst}
use Rattle.taint_pages.specs.Rows.{AreMarked, IsRow, byte_in, row_len}
use Rattle.taint_pages.specs.declared.row.Numbers.{Numbers}
use Rattle.taint_pages.proofs.Flat.{zero-at}
use Rattle.taint_pages.proofs.Zeros.{marks-zeros, row-zeros}
use Rattle.taint_pages.proofs.row.Row.new.Goals as goal

pub returns : goal.returns
returns c = λ r i. subst (λ (kept : Numbers). byte_in kept.numbers r i ≡ 0) (sym c.in_ok-new.ensures.ok) (zero-at row_len (8 * r + i))

pub invariant_of-result : goal.invariant_of-result
invariant_of-result c = subst (λ (kept : Numbers). IsRow kept.numbers × AreMarked kept.numbers kept.marked) (sym c.in_ok-new.ensures.ok) (row-zeros, marks-zeros)
