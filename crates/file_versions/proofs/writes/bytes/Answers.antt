use Rattle.std.proofs.Common.{◌∙◌, ap}
use Rattle.std.proofs.lemmas.Result.{IfOk-weaker}
use Rattle.file_versions.specs.Cells.{filled}
use Rattle.file_versions.specs.Tables.{writes_until}
use Rattle.file_versions.proofs.Enough.{held-is}
use Rattle.file_versions.proofs.writes.bytes.Goals as goal

pub returns : goal.returns
returns c =
    IfOk-weaker c.filled.result _ _
    (λ held is. is ∙ ap filled c.as_slice.ensures.value ∙ held-is (writes_until c.args.moment c.args.file c.args.writes.now) c.in_ok-cells.cells.items c.in_ok-cells.ensures)
    c.filled.ensures
