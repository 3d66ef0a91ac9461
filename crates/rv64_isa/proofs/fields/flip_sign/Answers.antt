use Rattle.std.proofs.Common.{ℕ, ◌^◌, ◌*◌, ◌%◌, ◌<◌, ap, arith, ◌∙◌, bit_xor}
use Rattle.std.proofs.lemmas.Nat.{one_shl}
use Rattle.rv64_isa.proofs.SignFlipped.{flipped}
use Rattle.rv64_isa.proofs.fields.flip_sign.Goals as goal

pub returns : goal.returns
returns c =
    let n = c.args.bits in
    let k = c.args.sign in
    let fits : k < 64 = omega (arith, c.requires.within) in
    ap (λ (m : ℕ). bit_xor m (1 * 2 ^ k % 2 ^ 64)) c.from.ensures ∙ ap (bit_xor n) (one_shl k 64 fits) ∙ flipped n k c.requires.fits
