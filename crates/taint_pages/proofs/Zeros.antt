-- A row each of whose bytes has 0.
use Rattle.std.proofs.Common.{◌+◌, ◌*◌, false, replicate, refl}
use Rattle.taint_pages.specs.Rows.{AreMarked, IsRow, row_len}
use Rattle.taint_pages.proofs.Flat.{zero-at}

pub row-zeros : IsRow (replicate row_len 0)
row-zeros = record { len = refl; zero = λ i h. zero-at row_len i }

-- no register needs a mark
pub marks-zeros : AreMarked (replicate row_len 0) (replicate 32 false)
marks-zeros = record { len = refl; zero = λ r i unmarked h. zero-at row_len (8 * r + i) }
