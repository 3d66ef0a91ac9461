use Rattle.std.proofs.Common.{ℕ, subst}
use Rattle.rv64_model.specs.Instruction.{jumps}
use Rattle.rv64_core.specs.Prospect.{Foretells}
use Rattle.rv64_core.proofs.flow.branch_ahead.Goals as goal

pub returns-then-taken : goal.returns-then-taken
returns-then-taken c memory =
    rw c.if-taken.true (subst (λ (rd : ℕ). Foretells c.jump_ahead.result c.args.cpu.now (jumps c.args.instr c.args.cpu.now memory rd c.args.target))
    c.x0.ensures (c.jump_ahead.ensures memory))
