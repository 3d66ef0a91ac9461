use Rattle.std.proofs.Common.{take, ap, ◌++◌, ◌∙◌, arith}
use Rattle.std.proofs.lemmas.List.{take_all}
use Rattle.std.proofs.lemmas.List.Elements.{All-from_get_or}
use Rattle.schedule_log.specs.Fields.{field}
use Rattle.result_log.specs.States.{IsRegister, registers_fields}
use Rattle.result_log.proofs.Growing.{spelled-more}
use Rattle.result_log.proofs.Options.{OnErr-always}
use Rattle.result_log.proofs.starts.put_registers.Goals as goal

pub loop-register-preserved : goal.loop-register-preserved
loop-register-preserved c =
    spelled-more (field 8) c.args.registers.now c.loop-register.register-index 0 c.args.out.now.items c.loop-register.out.items c.put_u64.new.out.items
    (omega arith) c.loop-register.invariant c.in_ok-put_u64.ensures.ok

pub returns-in_err-put_u64-clause-err : goal.returns-in_err-put_u64-clause-err
returns-in_err-put_u64-clause-err c =
    OnErr-always c.from_residual.result (record {
      more = registers_fields (take c.loop-register.register-index c.args.registers.now);
      is_bytes = c.in_err-put_u64.ensures.err ∙ c.loop-register.invariant;
    })

pub returns-clause-ok : goal.returns-clause-ok
returns-clause-ok c =
    c.loop-register.invariant
    ∙ ap (λ xs. c.args.out.now.items ++ registers_fields xs) (take_all c.loop-register.register-index c.args.registers.now (omega arith))

pub returns-in_err-put_u64-clause-fits : goal.returns-in_err-put_u64-clause-fits
returns-in_err-put_u64-clause-fits c =
    record { many = c.told-registers; fits = All-from_get_or IsRegister c.args.registers.now 0 (λ i _. c.fits-registers i) }

pub returns-clause-fits : goal.returns-clause-fits
returns-clause-fits c =
    record { many = c.told-registers; fits = All-from_get_or IsRegister c.args.registers.now 0 (λ i _. c.fits-registers i) }
