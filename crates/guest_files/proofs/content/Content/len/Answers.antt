use Rattle.std.proofs.Common.{length, ap, arith}
use Rattle.parts_model.specs.Files.{File}
use Rattle.guest_files.proofs.Sources.{length-tagged}
use Rattle.guest_files.proofs.content.Content.len.Goals as goal

pub returns-clause-length : goal.returns-clause-length
returns-clause-length c =
    let kept = ap (λ (f : File). length f.bytes) c.self.view_is in
    let row = length-tagged c.self.inside.bytes.items c.self.inside.runs c.self.invariant.each in
    omega (arith, kept, row, c.len.ensures)
