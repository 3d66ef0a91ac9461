use Rattle.std.proofs.Common.{length, ap, arith}
use Rattle.parts_model.specs.Files.{File}
use Rattle.guest_files.proofs.Sources.{length-tagged}
use Rattle.guest_files.proofs.content.Content.room.Goals as goal

pub overflow_sub-there : goal.overflow_sub-there
overflow_sub-there c =
    let kept = ap (λ (f : File). length f.bytes) c.self.view_is in
    let row = length-tagged c.self.inside.bytes.items c.self.inside.runs c.self.invariant.each in
    omega (arith, kept, row, c.len.ensures, c.requires)

pub returns : goal.returns
returns c =
    let kept = ap (λ (f : File). length f.bytes) c.self.view_is in
    let row = length-tagged c.self.inside.bytes.items c.self.inside.runs c.self.invariant.each in
    omega (arith, kept, row, c.self.invariant.few, c.len.ensures, c.len-2.ensures, c.requires)
