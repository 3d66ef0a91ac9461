use Rattle.std.proofs.Common.{}
use Rattle.asm_text.proofs.Cuts.{cut_is_not_one, operands-one, some_byte}
use Rattle.asm_text.proofs.operands.one.Goals as goal

pub returns-in-None-clause-some : goal.returns-in-None-clause-some
returns-in-None-clause-some c =
    rw c.trimmed.ensures (operands-one c.args.text.now (some_byte c.args.text.now _ c.is_empty.ensures c.if-is_empty.false) c.in-None.ensures.none)

pub returns-in-Some-clause-none : goal.returns-in-Some-clause-none
returns-in-Some-clause-none c a = cut_is_not_one c.args.text.now _ _ a c.in-Some.ensures.some
