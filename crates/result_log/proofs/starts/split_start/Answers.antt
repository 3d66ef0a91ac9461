use Rattle.std.proofs.Common.{◌≡◌, ℕ, ◌<◌, List, ◌++◌, length, ap, length-append, arith}
use Rattle.std.specs.Prelude.{Option}
use Rattle.arn_base.specs.declared.machine.Cpu.{Cpu}
use Rattle.result_log.specs.States.{cpu_fields, BeginsStart}
use Rattle.result_log.proofs.Blocks.{no-start-by-blocks, no-start-by-slot}
use Rattle.result_log.proofs.OneWay.{length-cpu}
use Rattle.result_log.proofs.starts.split_start.Goals as goal

no-start-by-cpu : (bytes : List ℕ) → length bytes < 256
    → (cpu : Cpu) (slot : Option Cpu) (fields rest : List ℕ) → ¬ BeginsStart bytes cpu slot fields rest
no-start-by-cpu bytes few cpu slot fields rest b =
    let long : length bytes ≡ length (cpu_fields cpu ++ b.behind) = ap (λ (xs : List ℕ). length xs) b.is_cpu.is_bytes in
    absurd (omega (arith, long, few, length-append (cpu_fields cpu) b.behind, length-cpu cpu b.is_cpu.fits))

pub returns-in_err-cpu-clause-none : goal.returns-in_err-cpu-clause-none
returns-in_err-cpu-clause-none c = rw c.from_residual.ensures (no-start-by-cpu c.args.bytes.now c.in_err-cpu.ensures.none)

pub returns-in_err-slot-clause-none : goal.returns-in_err-slot-clause-none
returns-in_err-slot-clause-none c =
    rw c.from_residual-in_err-slot.ensures
    (no-start-by-slot c.fields_spelled_one_way.ensures.field c.args.bytes.now c.in_ok-cpu.behind.now c.in_ok-cpu.cpu
    c.in_ok-cpu.ensures.some c.in_err-slot.ensures.none)

pub returns-in_err-blocks-clause-none : goal.returns-in_err-blocks-clause-none
returns-in_err-blocks-clause-none c =
    rw c.from_residual-in_err-blocks.ensures
    (no-start-by-blocks c.fields_spelled_one_way.ensures.field c.args.bytes.now c.in_ok-cpu.behind.now c.in_ok-slot.behind.now c.in_ok-cpu.cpu
    c.in_ok-slot.slot c.in_ok-cpu.ensures.some c.in_ok-slot.ensures.some c.in_err-blocks.ensures.none)
