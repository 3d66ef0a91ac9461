use Rattle.std.proofs.Common.{ℕ, subst}
use Rattle.rv64_model.specs.Instruction.{Next, advanced}
use Rattle.rv64_model.specs.Registers.{with_register}
use Rattle.rv64_core.specs.Prospect.{Foretells}
use Rattle.rv64_core.proofs.flow.go_on_ahead.Goals as goal

pub returns : goal.returns
returns c memory =
    subst (λ (rd : ℕ). Foretells c.write_ahead.result c.args.cpu.now (Next c.args.instr (advanced (with_register c.args.cpu.now rd 0)) memory))
    c.x0.ensures (c.write_ahead.ensures memory)
