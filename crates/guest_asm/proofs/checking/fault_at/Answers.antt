use Rattle.std.proofs.Common.{◌+◌, ap, not, sym, subst, ◌∙◌}
use Rattle.parts_model.specs.declared.limits.TheConstants.{WINDOW_START}
use Rattle.guest_asm.specs.Assembled.{fault_if, is_in_range}
use Rattle.guest_asm.specs.First.{first_of}
use Rattle.asm_text.specs.declared.fault.AsmKind.TheVariants.{Range}
use Rattle.asm_text.specs.Seen.{KeepsReading}
use Rattle.asm_text.specs.declared.statement.StatementReading.{StatementReading}
use Rattle.guest_asm.proofs.FaultLists.{fault_first}
use Rattle.guest_asm.proofs.checking.fault_at.Goals as goal

pub returns-in-Says : goal.returns-in-Says
returns-in-Says c = λ named p places keeps.
    let told = subst (λ (k : StatementReading). KeepsReading k p.reading) c.in-Says.is keeps.item.reads in
    c.either.ensures
    ∙ fault_first named p told.0 c.range_fault.result c.args.placed.now.fault told.2
    (c.range_fault.ensures named told.0 places told.1 ∙ ap (λ n. first_of (fault_if (not (is_in_range named (WINDOW_START + n) told.0)) Range)) (sym keeps.offset))
    keeps.fault
