-- What the calls that make channels come to.
use Rattle.std.specs.Prelude.{ℕ, [], ◌∷◌, length}
use Rattle.parts_model.specs.declared.open.Conn.{Conn}
use Rattle.parts_model.specs.declared.open.Description.TheVariants.{Reader, Writer, Connection, Listener}
use Rattle.parts_model.specs.declared.refusals.TheConstants.{NO_DESCRIPTOR_ROOM, NO_ROOM, PORT_IN_USE}
use Rattle.parts_model.specs.Ports.{accepted, connected, is_full, is_in_use, listened}
use Rattle.arn_model.specs.ChannelCalls.{with_pipe}
use Rattle.arn_model.specs.Doing.{Request, refuse, returns, unless_refused}
use Rattle.arn_model.specs.FileCalls.{has_no_room}
use Rattle.arn_model.specs.Kernel.{Kernel, Machine, next_descriptor, placed, with_new}

-- a new pipe, and both its ends open
abbrev pub with_ends : Kernel → Kernel
with_ends k = with_new (Writer (length k.pipes)) (with_new (Reader (length k.pipes)) (with_pipe k))

-- a port that is listened to, and what listens there
abbrev pub with_listener : ℕ → Kernel → Kernel
with_listener port k = with_new (Listener port) (record k { ports = listened k.ports port })

-- a connection of new pipes that waits at a port, and the client's side of it
abbrev pub with_client : ℕ → Conn → Kernel → Kernel
with_client port conn k =
    let k' = with_pipe (with_pipe k) in
    with_new (Connection conn.to_client conn.to_server) (record k' { ports = connected k'.ports port conn })

-- a connection waits at a port no more, and the server's side of it is open
abbrev pub with_server : ℕ → Conn → Kernel → Kernel
with_server port conn k = with_new (Connection conn.to_server conn.to_client) (record k { ports = accepted k.ports port })

-- a call listens at a port of a number that ports have
abbrev pub listening : Machine → ℕ → ℕ → Request
listening m pid port =
    unless_refused m.kernel
    (refuse PORT_IN_USE (is_in_use m.kernel.ports port) ∷ refuse NO_DESCRIPTOR_ROOM (has_no_room m.kernel pid) ∷ refuse NO_ROOM (is_full m.kernel.ports) ∷ [])
    (returns (next_descriptor m.kernel pid) (placed pid (length m.kernel.descriptions) (with_listener port m.kernel)))
