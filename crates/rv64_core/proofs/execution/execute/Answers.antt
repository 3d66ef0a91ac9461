use Rattle.std.proofs.Common.{◌∙◌, ap, subst, rules, Err, SFits, w64}
use Rattle.std.proofs.lemmas.Int.{to_z-of_z}
use Rattle.std.specs.Prelude.{IsNone}
use Rattle.arn_base.specs.Window.{bytes_at}
use Rattle.rv64_model.specs.Operands.{address, store_len}
use Rattle.rv64_core.proofs.Own.{kept, not-missing, stored}
use Rattle.rv64_core.proofs.execution.execute.Goals.{in-Store+in-Ok, in_default}
use Rattle.rv64_core.proofs.execution.execute.Goals as goal

pub unreachable-requires : goal.unreachable-requires
unreachable-requires g c =
    let there = stored c.args.planned.now c.args.cpu.now (g.M.Memory.windows c.args.mem.now) c.in-Store.op c.in-Store.rs1 c.in-Store.rs2 c.in-Store.imm c.in-Store.is c.requires in
    let fits : SFits w64 c.in-Store.imm = search rules in
    let at = c.address.ensures ∙ ap (address c.args.cpu.now c.in-Store.rs1) (to_z-of_z w64 c.in-Store.imm fits) in
    let missing = c.put.ensures.bad_address.0 (c.in-Err-BadAddress.is ∙ ap Err c.in-Err-BadAddress.field-0-is) in
    not-missing _ there.0 (subst (λ at. IsNone (bytes_at (g.M.Memory.windows c.args.mem.now) at (store_len c.in-Store.op))) at missing)

pub returns-clause-ok : goal.returns-clause-ok
returns-clause-ok g c =
    elim c.match-planned.branch [
      | in-Store+in-Ok w ↦
          let there = stored c.args.planned.now c.args.cpu.now (g.M.Memory.windows c.args.mem.now) w.in-Store.op w.in-Store.rs1 w.in-Store.rs2 w.in-Store.imm w.in-Store.is c.requires in
          let fits : SFits w64 w.in-Store.imm = search rules in
          rw (c.set_register.ensures, w.mem-is, w.in-Ok.ensures.ok, w.address.ensures, w.register.ensures, to_z-of_z w64 w.in-Store.imm fits) there.1
      | in_default w ↦ rw (c.set_register.ensures, w.mem-is) (kept c.args.planned.now c.args.cpu.now (g.M.Memory.windows c.args.mem.now) w.in_default.not-Store c.requires)
    ]
