use Rattle.std.proofs.Common.{◌+◌, ◌-◌, ◌/◌, ◌^◌, arith}
use Rattle.rv64_isa.proofs.Masks.{and_ones_shr}
use Rattle.rv64_isa.proofs.fields.bits.Goals as goal

pub returns : goal.returns
returns c =
    let width = c.args.high - c.args.low + 1 in
    and_ones_shr 32 (c.args.word / 2 ^ c.args.low) width (omega arith)
