-- The calls that make channels: pipe, listen, connect, accept, device.
use Rattle.std.specs.Prelude.{ℕ, ◌+◌, ◌*◌, ◌^◌, ◌==◌, nat_lt, not, Bool, true, false, if◌then◌else◌, [], ◌∷◌, length, Option, Some, None}
use Rattle.parts_model.specs.declared.limits.TheConstants.{GREATEST_PORT}
use Rattle.parts_model.specs.declared.open.Conn.{Conn}
use Rattle.parts_model.specs.declared.open.Description.{Description}
use Rattle.parts_model.specs.declared.open.Description.TheVariants as description
use Rattle.parts_model.specs.declared.refusals.TheConstants.{BAD_DESCRIPTOR, NO_ROOM, BAD_ARGUMENT, NO_DESCRIPTOR_ROOM, PORT_IN_USE, CONNECTION_REFUSED}
use Rattle.parts_model.specs.Pipes.{pipe_made, free_pipes}
use Rattle.parts_model.specs.Ports.{is_in_use, is_full, listened, can_connect, connected, oldest, accepted}
use Rattle.acts_model.specs.Bodies.{View}
use Rattle.acts_model.specs.Views.{argument}
use Rattle.arn_model.specs.Doing as doing
use Rattle.arn_model.specs.Doing.{Doing, Request, Waits, Does, returns, returning, refused, refuse, unless_refused}
use Rattle.arn_base.specs.declared.records.Extra.TheVariants as extra
use Rattle.arn_model.specs.FileCalls.{has_no_room}
use Rattle.arn_model.specs.Kernel.{Kernel, Machine, opened, next_descriptor, room_for, opens}
use Rattle.arn_model.specs.TransferCalls.{absent, unless_unplugged}

-- a pipe more
abbrev pub with_pipe : Kernel → Kernel
with_pipe k = record k { pipes = pipe_made k.pipes }

-- its read end is placed first
abbrev pub pipe_opened : ℕ → ℕ → Kernel → Kernel
pipe_opened pid pipe k = opens pid (description.Reader pipe) (with_pipe k)

-- pipe(): the read descriptor, and 256 times the write descriptor
abbrev pub pipe_row : Machine → ℕ → View → Request
pipe_row m pid v =
    let pipe = length m.kernel.pipes in
    let k = pipe_opened pid pipe m.kernel in
    unless_refused m.kernel
    (refuse NO_DESCRIPTOR_ROOM (nat_lt (room_for m.kernel pid) 2) ∷ refuse NO_ROOM (free_pipes m.kernel.pipes == 0) ∷ [])
    (returns (next_descriptor m.kernel pid + 256 * next_descriptor k pid) (opens pid (description.Writer pipe) k))

-- listen(port): the descriptor
abbrev pub listen_row : Machine → ℕ → View → Request
listen_row m pid v =
    let port = argument v.body.cpu 0 in
    unless_refused m.kernel
    (refuse BAD_ARGUMENT (nat_lt GREATEST_PORT port)
    ∷ refuse PORT_IN_USE (is_in_use m.kernel.ports port)
    ∷ refuse NO_DESCRIPTOR_ROOM (has_no_room m.kernel pid)
    ∷ refuse NO_ROOM (is_full m.kernel.ports)
    ∷ [])
    (returns (next_descriptor m.kernel pid) (opens pid (description.Listener port) (record m.kernel { ports = listened m.kernel.ports port })))

-- a connection takes two pipes: the first from the client to the server, the second back
abbrev pub new_conn : Kernel → Conn
new_conn k = record { to_server = length k.pipes; to_client = length k.pipes + 1 }

abbrev pub connects : ℕ → ℕ → Conn → Kernel → Kernel
connects pid port conn k =
    let k' = with_pipe (with_pipe k) in
    opens pid (description.Connection conn.to_client conn.to_server) (record k' { ports = connected k'.ports port conn })

-- connect(port): the connection waits at the port; the descriptor
abbrev pub connect_row : Machine → ℕ → View → Request
connect_row m pid v =
    let port = argument v.body.cpu 0 in
    unless_refused m.kernel
    (refuse CONNECTION_REFUSED (not (can_connect m.kernel.ports port))
    ∷ refuse NO_DESCRIPTOR_ROOM (has_no_room m.kernel pid)
    ∷ refuse NO_ROOM (nat_lt (free_pipes m.kernel.pipes) 2)
    ∷ [])
    (returns (next_descriptor m.kernel pid) (connects pid port (new_conn m.kernel) m.kernel))

-- the connection that has waited longest
abbrev pub accept_conn : Machine → ℕ → ℕ → Option Conn → Request
accept_conn m pid port None = Waits
accept_conn m pid port (Some conn) =
    returns (next_descriptor m.kernel pid)
    (opens pid (description.Connection conn.to_server conn.to_client) (record m.kernel { ports = accepted m.kernel.ports port }))

abbrev pub accept_at : Machine → ℕ → Option Description → Request
accept_at m pid (Some (description.Listener port)) =
    unless_refused m.kernel (refuse NO_DESCRIPTOR_ROOM (has_no_room m.kernel pid) ∷ []) (accept_conn m pid port (oldest m.kernel.ports port))
accept_at m pid other = refused BAD_DESCRIPTOR m.kernel

-- accept(descriptor): the descriptor of the connection
abbrev pub accept_row : Machine → ℕ → View → Request
accept_row m pid v = accept_at m pid (opened m.kernel pid (argument v.body.cpu 0))

-- a number of a device has 32 bits
abbrev pub device_asked : Machine → ℕ → Request
device_asked m device = if nat_lt device (2 ^ 32) then unless_unplugged m device (doing.Here device) else Does (absent m.kernel)

-- device(number): the descriptor
abbrev pub device_row : Machine → ℕ → View → Request
device_row m pid v = unless_refused m.kernel (refuse NO_DESCRIPTOR_ROOM (has_no_room m.kernel pid) ∷ []) (device_asked m (argument v.body.cpu 0))

-- a device that is there
abbrev pub device_opened : Machine → ℕ → ℕ → Bool → Doing
device_opened m pid device true = returning (next_descriptor m.kernel pid) extra.Nothing (opens pid (description.Device device) m.kernel)
device_opened m pid device false = absent m.kernel
