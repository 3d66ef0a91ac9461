use Rattle.std.proofs.Common.{ap, ◌∙◌}
use Rattle.rv64_isa.specs.Decoded.{decoded}
use Rattle.rv64_isa.proofs.ReadBack.{decoded-word_of}
use Rattle.rv64_isa.proofs.encoding.encode.Goals as goal

pub returns-clause-decodes : goal.returns-clause-decodes
returns-clause-decodes c =
    ap decoded c.encode_by_form.ensures.word
    ∙ decoded-word_of c.args.instr.now c.encode_by_form.ensures.registers c.requires
