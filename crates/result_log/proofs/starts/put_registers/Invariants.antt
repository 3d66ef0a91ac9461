use Rattle.std.proofs.Common.{◌≡◌, ◌++◌, take}
use Rattle.result_log.specs.States.{registers_fields}
use Rattle.result_log.proofs.starts.put_registers.Given as goal

abbrev pub invariant-loop-register : goal.invariant-loop-register
invariant-loop-register l =
    l.out.items ≡ l.initial.out.items ++ registers_fields (take l.register-index l.registers)
