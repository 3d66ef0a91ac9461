use Rattle.std.proofs.Common.{arith}
use Rattle.result_log.proofs.OneWay.{length-registers}
use Rattle.result_log.proofs.len.registers_len.Goals as goal

pub returns-clause-len : goal.returns-clause-len
returns-clause-len c = omega (arith, length-registers c.args.registers.now)
