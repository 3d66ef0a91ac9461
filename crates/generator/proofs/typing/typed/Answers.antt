use Rattle.std.proofs.Common.{arith}
use Rattle.generator.proofs.Filled.{typed-filled}
use Rattle.generator.proofs.typing.typed.Goals as goal

pub returns-clause-bytes : goal.returns-clause-bytes
returns-clause-bytes c =
    typed-filled c.args.seed _ _ _ _ _ _ c.fill_bytes_via_u32.ensures c.new.ensures
    (omega (arith, c.as_mut_slice.ensures.len, c.in_ok-bytes.ensures.len))
    (omega (arith, c.fill_bytes_via_u32.auto.dst, c.as_mut_slice.ensures.len))
