use Rattle.std.proofs.Common.{subst, sym}
use Rattle.parts_model.specs.declared.open.Description.{Description}
use Rattle.arn_model.specs.Kernel.{closed}
use Rattle.guest_channels.specs.Channels.{Alters}
use Rattle.guest_channels.proofs.channels.Channels.close.Goals as goal

pub returns-in-Connection : goal.returns-in-Connection
returns-in-Connection c = subst (λ (what : Description). Alters c.args.self.now (closed what) c.close_side.new.self) (sym c.in-Connection.is) c.close_side.ensures
