-- The tables of a kernel, and what live processes see.
use Rattle.std.specs.Prelude.{◌≡◌, ◌+◌, ℕ, zero, suc, List, [], ◌∷◌, length, Option, Some, IsSome, option_map}
use Rattle.parts_model.specs.Channel.{Channel}
use Rattle.parts_model.specs.Processes.{Processes, process}
use Rattle.acts_model.specs.Bodies.{View}
use Rattle.arn_model.specs.Kernel.{Handling, Kernel, Machine}
use Rattle.guest_bodies.specs.Shown.{Guests, IsLive, Watch, seen_in, watch_in}
use Rattle.guest_channels.specs.Channels.{Channels}
use Rattle.guest_resources.specs.Resources.{Resources}

-- how a process takes signals, as the kernel keeps it
abbrev pub handling : Watch → Handling
handling w = record { handlers = w.handlers; pending = w.pending }

-- the handling of so many processes, from a number on
abbrev pub handlings_from : ℕ → ℕ → Guests → List (Option Handling)
handlings_from first zero guests = []
handlings_from first (suc n) guests = option_map handling (watch_in guests first) ∷ handlings_from (first + 1) n guests

-- by process, where so many were made
abbrev pub handlings : ℕ → Guests → List (Option Handling)
handlings made guests = handlings_from 1 made guests

-- what processes see, and the kernel
pub record Tables : Type 0 where
  pub guests : Guests
  pub kernel : Kernel

-- the kernel of these parts
abbrev pub tables_of : Guests → Processes → Resources → Channels → Channel → List ℕ → Tables
tables_of guests processes resources channels console unplugged =
    record {
      guests = guests;
      kernel =
          record {
            processes = processes;
            handling = handlings (length processes) guests;
            console = console;
            pipes = channels.pipes;
            files = resources.files;
            descriptions = resources.descriptions;
            ports = channels.ports;
            unplugged = unplugged;
          };
    }

-- processes with a body are in the table
abbrev pub AreThere : Guests → Processes → Type 0
AreThere guests processes = (p : ℕ) → IsLive guests p → IsSome (process processes p)

-- a fact of each machine with this kernel, and of what a process sees
abbrev pub OfTables : Tables → ℕ → (Machine → View → Type 0) → Type 0
OfTables t pid P = (m : Machine) (v : View) → t.kernel ≡ m.kernel → seen_in t.guests pid ≡ Some v → P m v
