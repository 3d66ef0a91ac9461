use Rattle.std.proofs.Common.{sym}
use Rattle.guest_asm.proofs.Parting.{before_at, before_none}
use Rattle.guest_asm.proofs.splitting.without_comment.Goals as goal

pub returns-in-Some : goal.returns-in-Some
returns-in-Some c = before_at 35 c.args.line.now c.in-Some.at (sym c.in-Some.ensures)

pub returns-in-None : goal.returns-in-None
returns-in-None c = before_none 35 c.args.line.now (sym c.in-None.ensures)
