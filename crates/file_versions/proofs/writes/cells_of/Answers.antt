use Rattle.std.proofs.Common.{◌∙◌, drop, length, sym, subst, take_at}
use Rattle.file_versions.specs.Cells.{AreCells}
use Rattle.file_versions.specs.Tables.{writes_until}
use Rattle.file_versions.proofs.Enough.{laid-cells}
use Rattle.file_versions.proofs.writes.cells_of.Goals as goal

pub returns : goal.returns
returns c =
    let new = c.lay_all.new.cells in
    let writes = writes_until c.args.moment c.args.file c.args.writes.now in
    subst (AreCells writes)
    (sym (take_at new (drop (length new) c.in_ok-cells.cells.items) c.in_ok-cells.cells.len (c.lay_all.auto.cells ∙ c.deref_mut.ensures.len)))
    (laid-cells writes c.room.result c.deref_mut.result.now new c.room.ensures (c.deref_mut.ensures.value ∙ c.in_ok-cells.ensures) c.lay_all.auto.cells c.lay_all.ensures)
