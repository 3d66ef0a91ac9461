use Rattle.std.proofs.Common.{sym, subst, ◌∙◌}
use Rattle.guest_asm.specs.Assembled.{label_faults, place_faults}
use Rattle.guest_asm.specs.First.{Takes}
use Rattle.asm_text.specs.Seen.{KeepsReading}
use Rattle.asm_text.specs.Statements as says
use Rattle.asm_text.specs.declared.statement.StatementReading.{StatementReading}
use Rattle.guest_asm.proofs.Placing.{first_label_fault}
use Rattle.guest_asm.proofs.places.taken.Goals as goal

pub returns-in-Says-clause-taken : goal.returns-in-Says-clause-taken
returns-in-Says-clause-taken c = λ names before r known earlier keeps.
    let told = subst (λ (k : StatementReading). KeepsReading k r) c.in-Says.is keeps in
    let s = told.0 in
    subst (λ (r : says.StatementReading). Takes c.taken_by.result r (place_faults names before c.args.offset r)) (sym told.2)
    (c.taken_by.ensures.taken s (label_faults names before s) told.1
    (c.either-label.ensures
    ∙ first_label_fault names before s r c.unknown_fault.result c.again_fault.result told.2 (c.unknown_fault.ensures names s known told.1) (c.again_fault.ensures before r earlier keeps)))
