use Rattle.std.proofs.Common.{◌∙◌, true, false}
use Rattle.elf_image.proofs.Accepted.{is_static_at, headers-begin, static-told}
use Rattle.elf_image.proofs.Ranges.{all-passes, all-fails}
use Rattle.elf_image.proofs.parse.has_headers.Goals as goal

pub loop-n-init : goal.loop-n-init
loop-n-init c = headers-begin c.args.bytes.now c.args.elf.now c.requires.read

pub returns-then-not-is_static : goal.returns-then-not-is_static
returns-then-not-is_static c =
    all-fails (is_static_at c.args.bytes.now) c.loop-n.n c.args.elf.now.count c.loop-n-test.true
    (static-told c.args.bytes.now c.loop-n.n c.numbered_header.result false c.is_static.result c.numbered_header.ensures c.is_static.ensures c.if-not-is_static.true)
    ∙ c.loop-n.invariant

pub loop-n-preserved : goal.loop-n-preserved
loop-n-preserved c =
    all-passes (is_static_at c.args.bytes.now) c.loop-n.n c.args.elf.now.count c.loop-n-test.true
    (static-told c.args.bytes.now c.loop-n.n c.numbered_header.result true c.is_static.result c.numbered_header.ensures c.is_static.ensures c.if-not-is_static.false)
    ∙ c.loop-n.invariant
