use Rattle.rv64_isa.proofs.Masks.{or_shl}
use Rattle.rv64_isa.proofs.fields.join.Goals as goal

pub returns : goal.returns
returns c = or_shl c.args.high c.args.low c.args.width c.requires.in_word c.requires.fits
