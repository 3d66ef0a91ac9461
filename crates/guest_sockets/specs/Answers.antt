-- What calls on ports answer.
use Rattle.std.specs.Prelude.{◌≡◌, ◌⊎◌, ℕ, List, [], Option, Some, None}
use Rattle.parts_model.specs.declared.open.Conn.{Conn}
use Rattle.parts_model.specs.Ports.{Port, Ports, port_at}
use Rattle.guest_sockets.specs.declared.errors.PortError.{PortError}
use Rattle.guest_sockets.specs.declared.errors.PortError.TheVariants.{InUse, TooMany, Refused, NoMemory}

-- the connections that wait at a port, none where nothing listens
abbrev pub waiting_of : Option Port → List Conn
waiting_of None = []
waiting_of (Some p) = p.waiting

abbrev pub waiting_at : Ports → ℕ → List Conn
waiting_at ports number = waiting_of (port_at ports number)

-- the errors of listening
abbrev pub IsListenError : PortError → Type 0
IsListenError error = (error ≡ InUse) ⊎ (error ≡ TooMany) ⊎ (error ≡ NoMemory)

-- the errors of connecting
abbrev pub IsConnectError : PortError → Type 0
IsConnectError error = (error ≡ Refused) ⊎ (error ≡ NoMemory)
