-- The calls that make channels at literal values.
use Rattle.std.proofs.Common.{◌≡◌, List, [], ◌∷◌, Option, Some, None, replicate, true, refl}
use Rattle.arn_base.specs.declared.records.Extra.TheVariants as extra
use Rattle.parts_model.specs.declared.open.Conn.{Conn}
use Rattle.parts_model.specs.declared.open.Description.TheVariants as description
use Rattle.parts_model.specs.Pipes.{Pipe}
use Rattle.parts_model.specs.Ports.{Port}
use Rattle.parts_model.specs.Replies.{Failed, IsAbsent, IsHere}
use Rattle.acts_model.specs.Acts.{Returns}
use Rattle.acts_model.specs.Moved.{Nothing}
use Rattle.arn_model.specs.Doing.{Doing, Here, Waits, Does, Asks}
use Rattle.arn_model.specs.Kernel.{Kernel}
use Rattle.arn_model.specs.Row.{row, answered}
use Rattle.arn_model.proofs.Literals.{minus, calling, alone, opening, kernel, kernel_with, crowded, at_event_5, results}

-- a new pipe
new_pipe : Option Pipe
new_pipe = Some (record { channel = record { taken = 0; queue = [] }; has_reader = true; has_writer = true })

-- pipe: the read end under 3, the write end under 4
makes-pipe :
    row 15 (at_event_5 kernel) 1 (calling []) ≡
    results 1027
    (record kernel {
      processes = alone (Some 0 ∷ Some 0 ∷ Some 0 ∷ Some 1 ∷ Some 2 ∷ []);
      descriptions = opening description.Console 3 ∷ opening (description.Reader 0) 1 ∷ opening (description.Writer 0) 1 ∷ [];
      pipes = new_pipe ∷ [];
    })
unfolding row new_pipe
makes-pipe = refl

-- the lowest free numbers are 1 and 3. A pipe that is gone leaves its number
with_hole : Kernel
with_hole = record kernel { processes = alone (Some 0 ∷ None ∷ Some 0 ∷ []); descriptions = opening description.Console 2 ∷ []; pipes = None ∷ [] }

makes-pipe-lowest :
    row 15 (at_event_5 with_hole) 1 (calling []) ≡
    results 769
    (record kernel {
      processes = alone (Some 0 ∷ Some 1 ∷ Some 0 ∷ Some 2 ∷ []);
      descriptions = opening description.Console 2 ∷ opening (description.Reader 1) 1 ∷ opening (description.Writer 1) 1 ∷ [];
      pipes = None ∷ new_pipe ∷ [];
    })
unfolding row with_hole new_pipe
makes-pipe-lowest = refl

-- -24 where one descriptor is free, before -12 at 64 pipes
many_pipes : Kernel
many_pipes = record kernel { pipes = replicate 64 new_pipe }

nearly_crowded : Kernel
nearly_crowded =
    record many_pipes {
      processes =
          alone
          (Some 0 ∷ Some 0 ∷ Some 0 ∷ Some 0 ∷ Some 0 ∷ Some 0 ∷ Some 0 ∷ Some 0 ∷ Some 0 ∷ Some 0 ∷ Some 0 ∷ Some 0 ∷ Some 0 ∷ Some 0 ∷ Some 0 ∷ []);
    }

pipe :
    (row 15 (at_event_5 nearly_crowded) 1 (calling []) ≡ results (minus 24) nearly_crowded)
    × (row 15 (at_event_5 many_pipes) 1 (calling []) ≡ results (minus 12) many_pipes)
unfolding row nearly_crowded many_pipes new_pipe
pipe = (refl, refl)

-- listen
listens :
    row 18 (at_event_5 kernel) 1 (calling (65535 ∷ [])) ≡
    results 3 (record (kernel_with (description.Listener 65535)) { ports = record { number = 65535; waiting = [] } ∷ [] })
unfolding row
listens = refl

-- sixteen ports are listened to, all as 80
many_ports : Kernel
many_ports = record kernel { ports = replicate 16 (record { number = 80; waiting = [] }) }

-- -22 before -24; -98 before -24 and -12; -24 before -12
listen :
    (row 18 (at_event_5 (crowded many_ports)) 1 (calling (65536 ∷ [])) ≡ results (minus 22) (crowded many_ports))
    × (row 18 (at_event_5 (crowded many_ports)) 1 (calling (80 ∷ [])) ≡ results (minus 98) (crowded many_ports))
    × (row 18 (at_event_5 (crowded many_ports)) 1 (calling (81 ∷ [])) ≡ results (minus 24) (crowded many_ports))
    × (row 18 (at_event_5 many_ports) 1 (calling (81 ∷ [])) ≡ results (minus 12) many_ports)
unfolding row many_ports
listen = (refl, refl, refl, refl)

-- connect: pipe 0 leads to the server and pipe 1 back, so the client reads 1 and writes 0
port_80 : List Conn → Port
port_80 waiting = record { number = 80; waiting = waiting }

conn : Conn
conn = record { to_server = 0; to_client = 1 }

listening : Kernel
listening = record kernel { ports = port_80 [] ∷ [] }

connect-some :
    (row 19 (at_event_5 listening) 1 (calling (80 ∷ [])) ≡
    results 3 (record (kernel_with (description.Connection 1 0)) { pipes = new_pipe ∷ new_pipe ∷ []; ports = port_80 (conn ∷ []) ∷ [] }))
    -- -111 before -24, where nothing listens and where eight wait; -24 before -12, where one pipe is free
    × (row 19 (at_event_5 (crowded kernel)) 1 (calling (80 ∷ [])) ≡ results (minus 111) (crowded kernel))
unfolding row listening port_80 conn new_pipe
connect-some = (refl, refl)

eight_wait : Kernel
eight_wait = record kernel { ports = port_80 (replicate 8 conn) ∷ [] }

connect-ninth : row 19 (at_event_5 (crowded eight_wait)) 1 (calling (80 ∷ [])) ≡ results (minus 111) (crowded eight_wait)
unfolding row eight_wait port_80 conn
connect-ninth = refl

one_pipe_free : Kernel
one_pipe_free = record listening { pipes = None ∷ replicate 63 new_pipe }

connect :
    (row 19 (at_event_5 (crowded one_pipe_free)) 1 (calling (80 ∷ [])) ≡ results (minus 24) (crowded one_pipe_free))
    × (row 19 (at_event_5 one_pipe_free) 1 (calling (80 ∷ [])) ≡ results (minus 12) one_pipe_free)
unfolding row one_pipe_free listening port_80 new_pipe
connect = (refl, refl)

-- accept: the oldest of two. The server reads pipe 0 and writes pipe 1
accepting : List Conn → Kernel
accepting waiting = record (kernel_with (description.Listener 80)) { ports = port_80 waiting ∷ [] }

second_conn : Conn
second_conn = record { to_server = 2; to_client = 3 }

accept :
    (row 20 (at_event_5 (accepting (conn ∷ second_conn ∷ []))) 1 (calling (3 ∷ [])) ≡
    results 4
    (record (accepting (second_conn ∷ [])) {
      processes = alone (Some 0 ∷ Some 0 ∷ Some 0 ∷ Some 1 ∷ Some 2 ∷ []);
      descriptions = opening description.Console 3 ∷ opening (description.Listener 80) 1 ∷ opening (description.Connection 0 1) 1 ∷ [];
    }))
    -- it isn't ready where nothing waits
    × (row 20 (at_event_5 (accepting [])) 1 (calling (3 ∷ [])) ≡ Waits)
    -- -9 before -24; -24 before it isn't ready
    × (row 20 (at_event_5 (crowded kernel)) 1 (calling (0 ∷ [])) ≡ results (minus 9) (crowded kernel))
    × (row 20 (at_event_5 (crowded kernel)) 1 (calling (16 ∷ [])) ≡ results (minus 9) (crowded kernel))
    × (row 20 (at_event_5 (crowded (accepting []))) 1 (calling (3 ∷ [])) ≡ results (minus 24) (crowded (accepting [])))
unfolding row accepting port_80 conn second_conn
accept = (refl, refl, refl, refl, refl)

-- device: what the call comes to once there is no such device
absent : Kernel → Doing
absent k = record { act = Returns (minus 19); extra = extra.Absent; incoming = Nothing; outgoing = None; bytes = []; kernel = k }

device-asked :
    (row 21 (at_event_5 kernel) 1 (calling (0xffffffff ∷ [])) ≡ Asks (Here 0xffffffff))
    -- a number above 4,294,967,295 asks no device, nor does one that was unplugged
    × (row 21 (at_event_5 kernel) 1 (calling (0x100000000 ∷ [])) ≡ Does (absent kernel))
unfolding row absent
device-asked = (refl, refl)

unplugged : Kernel
unplugged = record kernel { unplugged = 4 ∷ 7 ∷ [] }

device-there :
    (row 21 (at_event_5 unplugged) 1 (calling (7 ∷ [])) ≡ Does (absent unplugged))
    -- -24 before -19
    × (row 21 (at_event_5 (crowded kernel)) 1 (calling (0x100000000 ∷ [])) ≡ results (minus 24) (crowded kernel))
    × (row 21 (at_event_5 (crowded unplugged)) 1 (calling (7 ∷ [])) ≡ results (minus 24) (crowded unplugged))
    -- one that is there; any other answer, or none, counts as absent
    × (answered (at_event_5 kernel) 1 (calling (7 ∷ [])) (Here 7) (Some IsHere) ≡ record { act = Returns 3; extra = extra.Nothing; incoming = Nothing; outgoing = None; bytes = []; kernel = kernel_with (description.Device 7) })
    × (answered (at_event_5 kernel) 1 (calling (7 ∷ [])) (Here 7) (Some IsAbsent) ≡ absent kernel)
    × (answered (at_event_5 kernel) 1 (calling (7 ∷ [])) (Here 7) None ≡ absent kernel)
    × (answered (at_event_5 kernel) 1 (calling (7 ∷ [])) (Here 7) (Some Failed) ≡ absent kernel)
unfolding row absent unplugged answered
device-there = (refl, refl, refl, refl, refl, refl, refl)
