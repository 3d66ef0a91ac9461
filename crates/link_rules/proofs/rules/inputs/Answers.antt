-- What each kind of instruction takes is what the definition gives it.
use Rattle.std.proofs.Common.{◌≡◌, sym, ap, ◌∙◌, w64, rules}
use mir.Val.{SFits}
use Rattle.std.proofs.lemmas.Int.{to_z-of_z}
use Rattle.rv64_model.specs.Carries.{operands, unless_x0}
use Rattle.link_rules.specs.Listed.{listed, imm_bytes}
use Rattle.link_rules.proofs.Exact.{exactly}
use Rattle.link_rules.proofs.Tables.{load-table, store-table, imm-table, op-table}
use Rattle.link_rules.proofs.rules.inputs.Goals as goal

pub returns-in-Load : goal.returns-in-Load
returns-in-Load c =
    let same : listed c.unless_x0.result ≡ operands c.args.linkage c.args.instr.now c.args.byte =
    c.unless_x0.ensures ∙ ap (unless_x0 c.in-Load.rd) c.load.ensures
    ∙ load-table c.args.linkage c.in-Load.op c.in-Load.rd c.in-Load.rs1 c.in-Load.imm c.args.byte
    ∙ ap (λ instr. operands c.args.linkage instr c.args.byte) (sym c.in-Load.is) in
    record { exact = exactly _ _ same }

pub returns-in-Store : goal.returns-in-Store
returns-in-Store c =
    let same : listed c.store.result ≡ operands c.args.linkage c.args.instr.now c.args.byte =
    c.store.ensures
    ∙ store-table c.args.linkage c.in-Store.op c.in-Store.rs1 c.in-Store.rs2 c.in-Store.imm c.args.byte
    ∙ ap (λ instr. operands c.args.linkage instr c.args.byte) (sym c.in-Store.is) in
    record { exact = exactly _ _ same }

pub returns-in-Imm : goal.returns-in-Imm
returns-in-Imm c =
    let fits : SFits w64 c.in-Imm.imm = search rules in
    let same : listed c.unless_x0-in-Imm.result ≡ operands c.args.linkage c.args.instr.now c.args.byte =
    c.unless_x0-in-Imm.ensures ∙ ap (unless_x0 c.in-Imm.rd) c.immediate.ensures
    ∙ ap (λ imm. unless_x0 c.in-Imm.rd (imm_bytes c.args.linkage c.in-Imm.op imm c.args.byte)) (to_z-of_z w64 c.in-Imm.imm fits)
    ∙ imm-table c.args.linkage c.in-Imm.op c.in-Imm.rd c.in-Imm.rs1 c.in-Imm.imm c.args.byte
    ∙ ap (λ instr. operands c.args.linkage instr c.args.byte) (sym c.in-Imm.is) in
    record { exact = exactly _ _ same }

pub returns-in-Op : goal.returns-in-Op
returns-in-Op c =
    let same : listed c.unless_x0-in-Op.result ≡ operands c.args.linkage c.args.instr.now c.args.byte =
    c.unless_x0-in-Op.ensures ∙ ap (unless_x0 c.in-Op.rd) c.registers.ensures
    ∙ op-table c.args.linkage c.in-Op.op c.in-Op.rd c.in-Op.rs1 c.in-Op.rs2 c.args.byte
    ∙ ap (λ instr. operands c.args.linkage instr c.args.byte) (sym c.in-Op.is) in
    record { exact = exactly _ _ same }
