-- Ports at literal values.
use Rattle.std.proofs.Common.{◌≡◌, ℕ, [], ◌∷◌, Some, None, replicate, true, false, refl}
use Rattle.parts_model.specs.declared.open.Conn.{Conn}
use Rattle.parts_model.specs.Ports.{Ports, is_in_use, is_full, listened, can_connect, connected, oldest, accepted, freed}

-- a connection by its first pipe
conn : ℕ → Conn
conn n = record { to_server = n; to_client = 64 }

-- ports 80 and 81, at which nothing waits
two_ports : Ports
two_ports = listened (listened [] 80) 81

ports-used :
    (two_ports ≡ record { number = 80; waiting = [] } ∷ record { number = 81; waiting = [] } ∷ [])
    × (is_in_use two_ports 81 ≡ true)
    × (is_in_use two_ports 82 ≡ false)
    -- connections wait at their port, and the oldest is accepted first
    × (connected (connected two_ports 81 (conn 1)) 81 (conn 3) ≡ record { number = 80; waiting = [] } ∷ record { number = 81; waiting = conn 1 ∷ conn 3 ∷ [] } ∷ [])
    × (oldest (connected (connected two_ports 81 (conn 1)) 81 (conn 3)) 81 ≡ Some (conn 1))
    × (accepted (connected (connected two_ports 81 (conn 1)) 81 (conn 3)) 81 ≡ record { number = 80; waiting = [] } ∷ record { number = 81; waiting = conn 3 ∷ [] } ∷ [])
    × (oldest two_ports 80 ≡ None)
unfolding two_ports conn
ports-used = (refl, refl, refl, refl, refl, refl, refl)

-- eight connections wait at a port, and no ninth
eighth : can_connect (record { number = 80; waiting = replicate 7 (conn 1) } ∷ []) 80 ≡ true
unfolding conn
eighth = refl

ninth : can_connect (record { number = 80; waiting = replicate 8 (conn 1) } ∷ []) 80 ≡ false
unfolding conn
ninth = refl

-- nor any where nothing listens
ports-free :
    (can_connect two_ports 82 ≡ false)
    -- a port is free again
    × (freed two_ports 80 ≡ record { number = 81; waiting = [] } ∷ [])
    -- there may be 16
    × (is_full (replicate 16 (record { number = 80; waiting = [] })) ≡ true)
    × (is_full (replicate 15 (record { number = 80; waiting = [] })) ≡ false)
unfolding two_ports
ports-free = (refl, refl, refl, refl)
