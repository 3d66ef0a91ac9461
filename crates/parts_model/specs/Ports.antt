-- Ports that are listened to, and the connections that wait at them.
use Rattle.std.specs.Prelude.{ℕ, ◌==◌, nat_le, nat_lt, not, Bool, if◌then◌else◌, List, [], ◌∷◌, ◌++◌, length, filter, map, find, drop, Option, Some, None, is_some, option_and_then, slice_get}
use Rattle.parts_model.specs.declared.limits.TheConstants.{MOST_PORTS, MOST_WAITING}
use Rattle.parts_model.specs.declared.open.Conn.{Conn}

-- a port, and the connections that wait at it, the oldest first
pub record Port : Type 0 where
  pub number : ℕ
  pub waiting : List Conn

-- The ports that are listened to, in the order in which this began. No number stands twice.
abbrev pub Ports : Type 0
Ports = List Port

-- the port of this number, if something listens there
abbrev pub port_at : Ports → ℕ → Option Port
port_at ports number = find (λ p. p.number == number) ports

-- something listens there
abbrev pub is_in_use : Ports → ℕ → Bool
is_in_use ports number = is_some (port_at ports number)

-- there are as many as there may be
abbrev pub is_full : Ports → Bool
is_full ports = nat_le MOST_PORTS (length ports)

-- one more is listened to
abbrev pub listened : Ports → ℕ → Ports
listened ports number = ports ++ record { number = number; waiting = [] } ∷ []

-- one more connection may wait there
abbrev pub has_place : Port → Bool
has_place p = nat_lt (length p.waiting) MOST_WAITING

abbrev pub can_connect : Ports → ℕ → Bool
can_connect ports number = is_some (option_and_then (λ p. if has_place p then Some p else None) (port_at ports number))

-- a change of one port
abbrev pub with_port : Ports → ℕ → (Port → Port) → Ports
with_port ports number change = map (λ p. if p.number == number then change p else p) ports

-- one more connection waits there
abbrev pub connected : Ports → ℕ → Conn → Ports
connected ports number conn = with_port ports number (λ p. record p { waiting = p.waiting ++ conn ∷ [] })

-- the connection that has waited longest
abbrev pub oldest : Ports → ℕ → Option Conn
oldest ports number = option_and_then (λ p. slice_get p.waiting 0) (port_at ports number)

-- without it
abbrev pub accepted : Ports → ℕ → Ports
accepted ports number = with_port ports number (λ p. record p { waiting = drop 1 p.waiting })

-- the port is free again
abbrev pub freed : Ports → ℕ → Ports
freed ports number = filter (λ p. not (p.number == number)) ports
