use Rattle.std.proofs.Common.{sym, ◌∙◌}
use Rattle.rv64_model.specs.Operands as named
use Rattle.taint_flow.specs.Names.{loaded_len}
use Rattle.taint_steps.proofs.NothingLoaded.{read-none}
use Rattle.taint_steps.proofs.taking.loaded.Goals as goal

pub returns-then-len-eq0 : goal.returns-then-len-eq0
returns-then-len-eq0 c =
    read-none (named.accessed c.args.instr.now c.args.before.now) (loaded_len c.args.instr.now) c.args.member.now c.args.memories.now (sym c.loaded_len-len.ensures.len ∙ c.if-len-eq0.true)
