use Rattle.std.proofs.Common.{◌≡◌, ◌-◌, ◌/◌, ◌^◌, ◌≤◌, arith, bit_and}
use Rattle.std.specs.Int.{w64}
use Rattle.std.proofs.lemmas.Int.{to_z-of_z}
use Rattle.rv64_isa.specs.Signed.{unsigned_of}
use Rattle.rv64_isa.proofs.SignedBits.{and_ones_shr_of, unsigned_of-fits}
use Rattle.rv64_isa.proofs.fields.low_bits.Goals as goal

-- the mask leaves the lowest bits
masked : (c : goal.After-cast_unsigned)
    → bit_and c.cast_unsigned.result ((2 ^ 64 - 1) / 2 ^ (64 - c.args.width))
    ≡ unsigned_of c.args.width c.args.number
masked c =
    let all : c.args.width ≤ 64 = omega arith in
    let same = to_z-of_z w64 c.args.number c.ranges.number in
    rw (c.cast_unsigned.ensures, same) (and_ones_shr_of c.args.width c.args.number all c.requires.fits)

pub returns : goal.returns
returns c = masked c

pub overflow_cast-result-2 : goal.overflow_cast-result-2
overflow_cast-result-2 c =
    omega (arith, masked c, unsigned_of-fits c.args.width c.args.number c.requires.within c.requires.fits)
