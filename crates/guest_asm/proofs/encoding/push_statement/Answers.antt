use Rattle.guest_asm.proofs.Coding.{pushed_code}
use Rattle.guest_asm.proofs.encoding.push_statement.Goals as goal

pub returns-in_ok-push_code-in_default-2 : goal.returns-in_ok-push_code-in_default-2
returns-in_ok-push_code-in_default-2 c = λ s h fits.
    pushed_code c.args.statement.now s c.args.from c.args.to c.args.bytes.now c.push_code.new.bytes c.push_code-in_default.new.bytes c.code_of-code.result h
    c.in_default.not-Bytes c.in_default.not-Zeros (c.code_of-code.ensures s h fits) c.in_ok-push_code-in_default.ensures c.in_ok-push_code-in_default-2.ensures
