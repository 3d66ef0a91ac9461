-- Pipes and ports together, and the kernel that has them.
use Rattle.std.specs.Prelude.{◌≡◌, ◌+◌, [], length}
use Rattle.parts_model.specs.declared.open.Conn.{Conn}
use Rattle.parts_model.specs.Pipes.{Pipes}
use Rattle.parts_model.specs.Ports.{Ports}
use Rattle.arn_model.specs.Kernel.{Kernel}

-- pipes by number, and the ports that are listened to
pub record Channels : Type 0 where
  pub pipes : Pipes
  pub ports : Ports

-- before any
abbrev pub no_channels : Channels
no_channels = record { pipes = []; ports = [] }

-- the kernel that has these
abbrev pub with_channels : Channels → Kernel → Kernel
with_channels c k = record k { pipes = c.pipes; ports = c.ports }

-- whatever else a kernel has, the change of it makes these of those
pub record Alters (old : Channels) (change : Kernel → Kernel) (new : Channels) : Type 0 where
  pub kernel : (k : Kernel) → change (with_channels old k) ≡ with_channels new k

-- the two pipes of a connection, where these are the next that are made
abbrev pub next_conn : Pipes → Conn
next_conn pipes = record { to_server = length pipes; to_client = length pipes + 1 }
