use Rattle.std.proofs.Common.{take}
use Rattle.arn_model.specs.Kernel.{without_servers}
use Rattle.guest_channels.specs.Channels.{Alters}
use Rattle.guest_channels.proofs.channels.Channels.close_port.Given as goal

abbrev pub invariant-loop-conn : goal.invariant-loop-conn
invariant-loop-conn l = Alters l.initial.self (without_servers (take l.conn-index l.conn-items)) l.self
