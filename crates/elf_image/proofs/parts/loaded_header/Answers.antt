use Rattle.std.proofs.Common.{sym, ◌∙◌}
use Rattle.elf_image.proofs.Accepted.{part-whole}
use Rattle.elf_image.proofs.parts.loaded_header.Goals as goal

pub returns-then-is_loaded-clause-whole : goal.returns-then-is_loaded-clause-whole
returns-then-is_loaded-clause-whole c =
    part-whole c.args.bytes.now c.args.elf.now c.args.n c.numbered_header-header.result c.requires c.numbered_header-header.ensures c.if-n-elf.false (sym c.is_loaded.ensures ∙ c.if-is_loaded.true)
