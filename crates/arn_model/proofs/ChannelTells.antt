-- What the calls that make channels tell.
use Rattle.std.proofs.Common.{ℕ, ◌+◌, ◌*◌, [], ◌∷◌, length, refl, Option, Some, None, Bool, true, false, ◌==◌, not, if◌then◌else◌, nat_lt, arith}
use Rattle.std.proofs.lemmas.Bool.Decides.{nat_tests}
use Rattle.arn_base.specs.declared.records.Extra.TheVariants as extra
use Rattle.parts_model.specs.declared.calls.TheConstants.{PIPE, LISTEN, CONNECT, ACCEPT, DEVICE}
use Rattle.parts_model.specs.declared.limits.TheConstants.{GREATEST_PORT}
use Rattle.parts_model.specs.declared.open.Conn.{Conn}
use Rattle.parts_model.specs.declared.open.Description.{Description}
use Rattle.parts_model.specs.declared.open.Description.TheVariants as description
use Rattle.parts_model.specs.declared.refusals.TheConstants.{NO_ROOM, NO_DEVICE, BAD_ARGUMENT, NO_DESCRIPTOR_ROOM, PORT_IN_USE, CONNECTION_REFUSED}
use Rattle.parts_model.specs.Pipes.{free_pipes}
use Rattle.parts_model.specs.Ports.{is_in_use, is_full, listened, can_connect, connected, accepted}
use Rattle.parts_model.specs.Replies.{is_here}
use Rattle.acts_model.specs.Bodies.{View}
use Rattle.acts_model.specs.Views.{argument, error}
use Rattle.arn_model.specs.ChannelCalls.{with_pipe, pipe_opened, pipe_row, listen_row, new_conn, connects, connect_row, accept_conn, accept_at, accept_row, device_row, device_opened}
use Rattle.arn_model.specs.Doing as doing
use Rattle.arn_model.specs.Doing.{Does, Asks, returns, refuse}
use Rattle.arn_model.specs.FileCalls.{has_no_room}
use Rattle.arn_model.specs.Kernel.{Kernel, Machine, opened, next_descriptor, room_for, opens}
use Rattle.arn_model.specs.Row.{answered}
use Rattle.arn_model.specs.TransferCalls.{absent, was_unplugged, unless_unplugged}
use Rattle.arn_model.proofs.Quiet.{Quiet, quiet-refl, quiet-trans, quiet-new_pipe, quiet-ports}
use Rattle.arn_model.proofs.Closing.{quiet-opens}
use Rattle.arn_model.proofs.Calling.{DoneCall, At, RequestTells, done-plain, unless-refused, refused-tells}

pub pipe-tells : (m : Machine) (pid : ℕ) (v : View) → At m pid v PIPE → RequestTells m pid v PIPE (pipe_row m pid v)
pipe-tells m pid v at =
    let pipe = length m.kernel.pipes in
    let k = with_pipe m.kernel in
    let k' = pipe_opened pid pipe m.kernel in
    let k'' = opens pid (description.Writer pipe) k' in
    let result = next_descriptor m.kernel pid + 256 * next_descriptor k' pid in
    unless-refused m pid v PIPE
    (refuse NO_DESCRIPTOR_ROOM (nat_lt (room_for m.kernel pid) 2) ∷ refuse NO_ROOM (free_pipes m.kernel.pipes == 0) ∷ [])
    (returns result k'')
    at refl refl
    (λ none.
    done-plain m pid v PIPE result extra.Nothing k'' at (record { told = refl; length = refl; life = refl; put = refl; gives = refl }) refl
    (quiet-trans m.kernel k k'' (quiet-new_pipe m.kernel)
    (quiet-trans k k' k'' (quiet-opens pid (description.Reader pipe) k (λ s. tt)) (quiet-opens pid (description.Writer pipe) k' (λ s. tt)))))

pub listen-tells : (m : Machine) (pid : ℕ) (v : View) → At m pid v LISTEN → RequestTells m pid v LISTEN (listen_row m pid v)
listen-tells m pid v at =
    let port = argument v.body.cpu 0 in
    let k = record m.kernel { ports = listened m.kernel.ports port } in
    let k' = opens pid (description.Listener port) k in
    unless-refused m pid v LISTEN
    (refuse BAD_ARGUMENT (nat_lt GREATEST_PORT port)
    ∷ refuse PORT_IN_USE (is_in_use m.kernel.ports port)
    ∷ refuse NO_DESCRIPTOR_ROOM (has_no_room m.kernel pid)
    ∷ refuse NO_ROOM (is_full m.kernel.ports)
    ∷ [])
    (returns (next_descriptor m.kernel pid) k')
    at refl refl
    (λ none.
    done-plain m pid v LISTEN (next_descriptor m.kernel pid) extra.Nothing k' at (record { told = refl; length = refl; life = refl; put = refl; gives = refl }) refl
    (quiet-trans m.kernel k k' (quiet-ports m.kernel (listened m.kernel.ports port)) (quiet-opens pid (description.Listener port) k (λ s. tt))))

quiet-connects : (pid port : ℕ) (conn : Conn) (k : Kernel) → Quiet k (connects pid port conn k)
quiet-connects pid port conn k =
    let k' = with_pipe k in
    let k'' = with_pipe k' in
    let k3 = record k'' { ports = connected k''.ports port conn } in
    quiet-trans k k' (connects pid port conn k) (quiet-new_pipe k)
    (quiet-trans k' k'' (connects pid port conn k) (quiet-new_pipe k')
    (quiet-trans k'' k3 (connects pid port conn k) (quiet-ports k'' (connected k''.ports port conn)) (quiet-opens pid (description.Connection conn.to_client conn.to_server) k3 (λ s. tt))))

pub connect-tells : (m : Machine) (pid : ℕ) (v : View) → At m pid v CONNECT → RequestTells m pid v CONNECT (connect_row m pid v)
connect-tells m pid v at =
    let port = argument v.body.cpu 0 in
    let k = connects pid port (new_conn m.kernel) m.kernel in
    unless-refused m pid v CONNECT
    (refuse CONNECTION_REFUSED (not (can_connect m.kernel.ports port))
    ∷ refuse NO_DESCRIPTOR_ROOM (has_no_room m.kernel pid)
    ∷ refuse NO_ROOM (nat_lt (free_pipes m.kernel.pipes) 2)
    ∷ [])
    (returns (next_descriptor m.kernel pid) k)
    at refl refl
    (λ none. done-plain m pid v CONNECT (next_descriptor m.kernel pid) extra.Nothing k at (record { told = refl; length = refl; life = refl; put = refl; gives = refl }) refl (quiet-connects pid port (new_conn m.kernel) m.kernel))

accept-conn-tells : (m : Machine) (pid : ℕ) (v : View) (port : ℕ) → At m pid v ACCEPT → (o : Option Conn) → RequestTells m pid v ACCEPT (accept_conn m pid port o)
accept-conn-tells m pid v port at None = tt
accept-conn-tells m pid v port at (Some conn) =
    let k = record m.kernel { ports = accepted m.kernel.ports port } in
    let k' = opens pid (description.Connection conn.to_server conn.to_client) k in
    done-plain m pid v ACCEPT (next_descriptor m.kernel pid) extra.Nothing k' at (record { told = refl; length = refl; life = refl; put = refl; gives = refl }) refl
    (quiet-trans m.kernel k k' (quiet-ports m.kernel (accepted m.kernel.ports port)) (quiet-opens pid (description.Connection conn.to_server conn.to_client) k (λ s. tt)))

accept-at-tells : (m : Machine) (pid : ℕ) (v : View) → At m pid v ACCEPT → (o : Option Description) → RequestTells m pid v ACCEPT (accept_at m pid o)
accept-at-tells m pid v h1 o = grind (arith, nat_tests, accept-conn-tells, refused-tells, unless-refused)

pub accept-tells : (m : Machine) (pid : ℕ) (v : View) → At m pid v ACCEPT → RequestTells m pid v ACCEPT (accept_row m pid v)
accept-tells m pid v at = accept-at-tells m pid v at (opened m.kernel pid (argument v.body.cpu 0))

absent-done : (m : Machine) (pid : ℕ) (v : View) → At m pid v DEVICE → DoneCall m pid v DEVICE (absent m.kernel)
absent-done m pid v at = done-plain m pid v DEVICE (error NO_DEVICE) extra.Absent m.kernel at (record { told = refl; length = refl; life = refl; put = refl; gives = refl }) refl (quiet-refl m.kernel)

device-opened-done : (m : Machine) (pid : ℕ) (v : View) (device : ℕ) → At m pid v DEVICE → (b : Bool) → DoneCall m pid v DEVICE (device_opened m pid device b)
device-opened-done m pid v device at false = absent-done m pid v at
device-opened-done m pid v device at true =
    let k = opens pid (description.Device device) m.kernel in
    done-plain m pid v DEVICE (next_descriptor m.kernel pid) extra.Nothing k at (record { told = refl; length = refl; life = refl; put = refl; gives = refl }) refl
    (quiet-opens pid (description.Device device) m.kernel (λ s. tt))

asks-device : (m : Machine) (pid : ℕ) (v : View) (device : ℕ) → At m pid v DEVICE → RequestTells m pid v DEVICE (unless_unplugged m device (doing.Here device))
unfolding answered
asks-device m pid v device at = by_test (was_unplugged m.kernel device)
  where
    by_test : (b : Bool) → RequestTells m pid v DEVICE (if b then Does (absent m.kernel) else Asks (doing.Here device))
    by_test true = absent-done m pid v at
    by_test false = λ reply. device-opened-done m pid v device at (is_here reply)

pub device-tells : (m : Machine) (pid : ℕ) (v : View) → At m pid v DEVICE → RequestTells m pid v DEVICE (device_row m pid v)
device-tells m pid v h1 = grind (arith, nat_tests, absent-done, asks-device, unless-refused)
