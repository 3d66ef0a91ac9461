use Rattle.std.proofs.Common.{◌≡◌, ℕ, ◌<◌, List, ◌++◌, length, ap, length-append, arith}
use Rattle.result_log.specs.States.{registers_fields, BeginsRegisters}
use Rattle.result_log.proofs.OneWay.{length-registers}
use Rattle.result_log.proofs.starts.split_cpu.Goals as goal

too-few : (bytes registers behind : List ℕ) → BeginsRegisters bytes registers behind → length behind < 8 → length bytes < 256
too-few bytes registers behind b few =
    let long : length bytes ≡ length (registers_fields registers ++ behind) = ap (λ (xs : List ℕ). length xs) b.is_bytes in
    omega (arith, long, few, b.fits.many, length-append (registers_fields registers) behind, length-registers registers)

pub returns-in_err-pc-clause-none : goal.returns-in_err-pc-clause-none
returns-in_err-pc-clause-none c =
    rw c.from_residual-in_err-pc.ensures
    (too-few c.args.bytes.now c.in_ok-x.x c.in_ok-x.behind.now c.in_ok-x.ensures.some c.in_err-pc.ensures.none)
